-- The tables that a run of a plan places, an operand when it is joined: with the tables within the fanins they are the tables
-- within the gate that the run makes.
use Rattle.std.specs.Prelude.{ℕ, suc, ◌≡◌, refl, Bool, false, List, [], ◌∷◌, ◌++◌, length, get_or}
use Rattle.std.proofs.Common.{sym, ap, ap₂, ◌∙◌, append_assoc, append-nil}
use Rattle.lists.specs.Trusted.Lists.{Permuted, more, here, there, gather}
use Rattle.lists.specs.Sequences.{upto}
use Rattle.lists.specs.ListLaws.{permuted_refl, permuted_sym, permuted_trans, permuted_append, permuted_swap, gather_append, gather_permuted, gather_map}
use Rattle.tree.specs.declared.Kind.{Kind}
use Rattle.cover.specs.Trusted.Cover.{Cover, net, top, Fanins, end}
use Rattle.plan.specs.declared.Key.{Key}
use Rattle.cover.specs.Trusted.Tables.{Placed}
use Rattle.cover.specs.Trusted.Placed.{placed, gate_table, records, records*}
use Rattle.plan.specs.declared.Token.{Token}
use Rattle.plan.specs.declared.Token.TheVariants.{Push as push, Join as join}
use Rattle.plan.specs.Plans.{Denotes, fanin, binary, Planned, Fragment, drawn, made, marked, place_fragment, Runs, stop, pushed, joined}

-- a few lists in two orders
push_blocks : (s w t p : List Placed) → Permuted (s ++ ((w ++ t) ++ p)) ((w ++ s) ++ (t ++ p))
push_blocks s w t p = simp append_assoc (permuted_swap s w (t ++ p))

join_blocks : (x a y b s t p : List Placed) →
    Permuted ((y ++ (x ++ s)) ++ (t ++ (a ++ (b ++ p)))) ((((x ++ a) ++ ((y ++ b) ++ [])) ++ s) ++ (t ++ p))
join_blocks x a y b s t p =
    simp (append_assoc, append-nil)
    (simp append-nil at (gather_permuted (λ xs. xs) {xs = y ∷ x ∷ s ∷ t ∷ a ∷ b ∷ p ∷ []} {ys = x ∷ a ∷ y ∷ b ∷ s ∷ t ∷ p ∷ []}
    (more (there (there here)) (more here (more (there (there here)) (more (there (there here)) (permuted_refl _)))))))

module _ (base : ℕ) where
  -- the tables of a cover but for its root's; and its root's, with the number m
  abbrev pub inner : Cover → List Placed
  inner (net n) = []
  inner (top x k fs) = records* base fs k

  abbrev pub root : ℕ → Cover → List Placed
  root m (net n) = []
  root m (top x k fs) = placed m (gate_table base 0 false k fs)

  marked_records : (m : ℕ) (c : Cover) → records base (marked m c) 0 false ≡ inner c ++ root m c
  marked_records m (net n) = refl
  marked_records m (top x k fs) = refl

  module _ (k : Kind) where
    -- the same of a fragment of the plan of a gate of the kind k
    abbrev pub inside : Fragment → List Placed
    inside (drawn q) = inner q.1
    inside (made s) = records* base s k

    abbrev pub own : ℕ → Fragment → List Placed
    own m (drawn q) = root m q.1
    own m (made s) = placed m (gate_table base 0 false k s)

    place_records : (m : ℕ) (f : Fragment) (fs : Fanins) →
        records* base (place_fragment m f fs) k ≡ (inside f ++ own m f) ++ records* base fs k
    place_records m (drawn q) fs = ap (λ ps. ps ++ records* base fs k) (marked_records m q.1)
    place_records m (made s) fs = refl

    module _ (ds : List (Bool × Cover)) where
      -- what the run places, in the order in which it does
      abbrev pub placings : {p : List Token} {st st' : List Fragment} → Runs ds p st st' → List Placed
      placings stop = []
      placings (pushed h) = placings h
      placings (joined {x = x} {y = y} m n d e h) = own m x ++ (own n y ++ placings h)

      -- what stands within the fanin i, and within those that the plan takes
      abbrev within : ℕ → List Placed
      within i = inner (get_or ds i (false, net 0)).1

      abbrev taken : List Token → List Placed
      taken [] = []
      taken (push i ∷ p) = within i ++ taken p
      taken (join l r ∷ p) = taken p

      run_placed : {p : List Token} {st st' : List Fragment} (h : Runs ds p st st') →
          Permuted (gather inside st ++ (taken p ++ placings h)) (gather inside st')
      run_placed (stop {st = st}) = rw (append-nil (gather inside st)) (permuted_refl _)
      run_placed (pushed {i = i} {p = p} {st = st} h) =
          permuted_trans (push_blocks (gather inside st) (within i) (taken p) (placings h)) (run_placed h)
      run_placed (joined {p = p} {x = x} {y = y} {st = st} m n d e h) =
          permuted_trans
          (rw (place_records m x (place_fragment n y end), place_records n y end)
          (join_blocks (inside x) (own m x) (inside y) (own n y) (gather inside st) (taken p) (placings h)))
          (run_placed h)

      taken_append : (p q : List Token) → taken (p ++ q) ≡ taken p ++ taken q
      taken_append [] q = refl
      taken_append (push i ∷ p) q = ap (◌++◌ (within i)) (taken_append p q) ∙ sym (append_assoc (within i) (taken p) (taken q))
      taken_append (join l r ∷ p) q = taken_append p q

      denotes_taken : {K : ℕ} {ks : List Key} {p : List Token} {ns : List ℕ} {a : Key} → Denotes K ks p ns a →
          taken p ≡ gather within ns
      denotes_taken (fanin i l) = refl
      denotes_taken (binary {p = p} {q = q} {ms = ms} {ns = ns} {l = l} {r = r} x y w) =
          taken_append p (q ++ (join l r ∷ []))
          ∙ ap₂ ◌++◌ (denotes_taken x) (taken_append q (join l r ∷ []) ∙ append-nil (taken q) ∙ denotes_taken y)
          ∙ sym (gather_append within ms ns)

    -- within all fanins
    within_all : (ds : List (Bool × Cover)) → gather (within ds) (upto (length ds)) ≡ gather (λ q. inner q.1) ds
    within_all [] = refl
    within_all (d ∷ ds) = ap (◌++◌ (inner d.1)) (gather_map (within (d ∷ ds)) suc (upto (length ds)) ∙ within_all ds)

    -- THE TABLES OF A RUN: those within the fanins and those that it places are those within the fragment that it makes
    pub plan_placed : {K : ℕ} {ks : List Key} {p : List Token} {a : Key} {ds : List (Bool × Cover)} {f : Fragment} →
        length ds ≡ length ks →
        Planned K ks (upto (length ks)) p a → (h : Runs ds p [] (f ∷ [])) →
        Permuted (gather (λ q. inner q.1) ds ++ placings ds h) (inside f)
    plan_placed {ks = ks} {p} {ds = ds} {f} e pl h =
        permuted_trans (permuted_append fanins (permuted_refl _)) (rw (append-nil (inside f)) at (run_placed ds h))
      where
        fanins : Permuted (gather (λ q. inner q.1) ds) (taken ds p)
        fanins = rw (← (within_all ds), e, denotes_taken ds pl.denotes) (permuted_sym (gather_permuted (within ds) pl.once))
