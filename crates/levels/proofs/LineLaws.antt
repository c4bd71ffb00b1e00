-- Laws of the entries that a program keeps: they give the entry at every bound; a net and a gate have them; and they are settled
-- where the entry for one input is no greater than the distance from the nets, which for a gate is so at the latest as many bounds
-- on as it has nets but one.
use Prim.Native.Nat.{ℕ, zero, suc, ◌+◌, ◌-◌, ◌^◌, ◌≤◌, min, max}
use native.Mathlib.Omega.{arith}
use Rattle.std.proofs.Math.Decide.{dec_lt}
use Rattle.std.specs.Prelude.{◌≡◌, refl, ◌⊎◌, Bool, List, [], ◌∷◌, T, length}
use Rattle.std.proofs.Common.{inl, inr}
use Rattle.std.proofs.Math.Logic.{by_cases}
use Rattle.lists.specs.Cases.{and_split, if_leb}
use Rattle.lists.specs.ListLaws.{every_none, every_cons, every_head, every_tail}
use Rattle.tree.specs.declared.Kind.{Kind}
use Rattle.tree.specs.Trusted.Tree.{Node, leaf, gate, Edges}
use Rattle.tree.specs.Measures.{many, proper, propers}
use Rattle.cover.specs.Trusted.Cover.{pick}
use Rattle.plan.specs.MaskLaws.{select_all}
use Rattle.levels.specs.Gives.{fanins, Nets, size, Gives, net, drawn, AtMost, LeastEntry}
use Rattle.levels.specs.GivesLaws.{nets_in, nets_out, fanins_many, gives_higher, gives_lower, gives_wide, gives_few, gate_out}
use Rattle.levels.specs.EntryLaws.{entry_gate, entry_no_input, entry_below}
use Rattle.levels.specs.Groups.{LevelRow}
use Rattle.levels.specs.GroupLaws.{entry_groups}
use Rattle.levels.specs.Lines.{Greatest, LevelSettled, LevelLines, look}
use Rattle.levels.proofs.Found.{some_gives*}

-- the bound to start at, for n fanins whose nets have levels of at most a
pub start_enough : (a n ℓ : ℕ) → 1 ≤ n → a ≤ ℓ → (a - (n - 1) ≡ 0) ⊎ (a - (n - 1) + n ≤ suc ℓ)
start_enough a n ℓ h l = by_cases (dec_lt (n - 1) a) (λ b. inr (omega arith)) (λ b. inl (omega arith))

-- ---- the greatest level

module _ {lev : ℕ → ℕ} where
  pub greatest_net_lem : (i : Bool) (n : ℕ) → Greatest lev ((i, leaf n) ∷ []) (lev n)
  greatest_net_lem i n = record { nets = every_cons (every_cons (omega arith) (every_none _)) (every_none _); least = λ ℓ h. every_head (every_head h) }

  pub greatest_more : {z : Bool × Node} {zs : List (Bool × Node)} {a b : ℕ} → Greatest lev (z ∷ []) a → Greatest lev zs b →
      Greatest lev (z ∷ zs) (max a b)
  greatest_more g h = record {
    nets = every_cons (λ n m. omega (arith, every_head g.nets n m)) (λ z m n l. omega (arith, h.nets z m n l));
    least = λ ℓ s. omega (arith, g.least ℓ (every_cons (every_head s) (every_none _)), h.least ℓ (every_tail s));
  }

  pub greatest_gate : {i : Bool} {k : Kind} (es : Edges) {a : ℕ} → Greatest lev (fanins es) a → Greatest lev ((i, gate k es) ∷ []) a
  greatest_gate es g = record { nets = every_cons (nets_out es g.nets) (every_none _); least = λ ℓ s. g.least ℓ (nets_in es (every_head s)) }

-- ---- where nothing changes any more

module _ {K : ℕ} {lev : ℕ → ℕ} where
  -- so at a higher bound
  pub settled_later : {zs : List (Bool × Node)} {ℓ : ℕ} → LevelSettled K lev zs ℓ → (m : ℕ) → ℓ ≤ m → LevelSettled K lev zs m
  settled_later s m l ℓ' w c g = let (v, e, i, j, h) = s ℓ' w c g in (v, e, i, j, gives_higher m h l)

module _ {K : ℕ} {lev : ℕ → ℕ} {big : ℕ} where
  pub settled_entry : {zs : List (Bool × Node)} {ℓ ℓ' w e : ℕ} → LevelSettled K lev zs ℓ → ℓ ≤ ℓ' → LeastEntry big (AtMost (Gives K lev zs ℓ) w) e →
      LeastEntry big (AtMost (Gives K lev zs ℓ') w) e
  settled_entry {ℓ' = ℓ'} s l x = record {
    some = λ b. let p = x.some b in (p.0, p.1, gives_higher ℓ' p.2 l);
    low = λ c p. let (v, d, i, j, g) = s ℓ' p.0 c p.2 in omega (arith, x.low d (v, omega (arith, p.1), g));
    most = x.most;
  }

  -- by the entry for one input, the greatest of all
  pub settled_few : {zs : List (Bool × Node)} {ℓ e : ℕ} (a : ℕ) → size zs ≤ suc big → Nets (λ n. lev n ≤ a) zs → a + e ≤ ℓ →
      LeastEntry big (AtMost (Gives K lev zs ℓ) 1) e → LevelSettled K lev zs ℓ
  settled_few {ℓ = ℓ} {e = e} a r s l x ℓ' w c g =
      let (v, d, i, j, t, h) = gives_few g in
      let m = gives_wide h in
      by_cases (dec_lt e d)
      (λ b. let (u, k, q) = x.some (omega arith) in (u, e, omega arith, omega arith, q))
      (λ b. (v, d, i, j, gives_higher ℓ (gives_lower a s h) (omega arith)))

-- ---- lines

module _ {K : ℕ} {lev : ℕ → ℕ} {big : ℕ} where
  pub lines_net : (i : Bool) (n : ℕ) → LevelLines K lev big ((i, leaf n) ∷ []) (lev n) 0 (λ j w. pick w big 0)
  lines_net i n = record { greatest = greatest_net_lem i n; exact = λ j w l b. exact j w; final = final }
    where
      exact : (j w : ℕ) → LeastEntry big (AtMost (Gives K lev ((i, leaf n) ∷ []) (lev n + j)) w) (pick w big 0)
      exact j zero = entry_no_input
      exact j (suc w) = record {
        some = λ l. (1, omega arith, net {n = n} {ℓ = lev n + j} (omega arith));
        low = λ c p. omega arith;
        most = omega arith;
      }

      final : LevelSettled K lev ((i, leaf n) ∷ []) (lev n + 0)
      final ℓ w c g = (1, 0, gives_wide g, omega arith, net {n = n} {ℓ = lev n + 0} (omega arith))

  pub lines_gate : {i : Bool} {k : Kind} (es : Edges) {a top : ℕ} {f : ℕ → ℕ → ℕ} → LevelLines K lev big (fanins es) a top f →
      LevelLines K lev big ((i, gate k es) ∷ []) a top f
  lines_gate {i} {k} es {a} {top} x =
      record { greatest = greatest_gate es x.greatest; exact = λ j w l b. entry_gate (x.exact j w l b); final = final }
    where
      final : LevelSettled K lev ((i, gate k es) ∷ []) (a + top)
      final ℓ w c g = let (v, e, l, b, h) = x.final ℓ w c (gate_out g) in (v, e, l, b, drawn h)

  pub look_entry : {zs : List (Bool × Node)} {a top : ℕ} {f : ℕ → ℕ → ℕ} → LevelLines K lev big zs a top f → (ℓ w : ℕ) → w ≤ K →
      LeastEntry big (AtMost (Gives K lev zs ℓ) w) (look big a top f ℓ w)
  unfolding look
  look_entry {zs} {a} {top} {f} x ℓ w l =
      if_leb (LeastEntry big (AtMost (Gives K lev zs ℓ) w)) a ℓ inside
      (λ b. entry_below (λ s. omega (arith, x.greatest.least ℓ s)))
    where
      inside : a ≤ ℓ → LeastEntry big (AtMost (Gives K lev zs ℓ) w) (f (min (ℓ - a) top) w)
      inside b =
          by_cases (dec_lt top (ℓ - a))
          (λ h. let m : min (ℓ - a) top ≡ top = omega arith in rw m (settled_entry x.final (omega arith) (x.exact top w (omega arith) l)))
          (λ h.
          let m : min (ℓ - a) top ≡ ℓ - a = omega arith in
          let e : a + (ℓ - a) ≡ ℓ = omega arith in
          rw m (rw e at (x.exact (ℓ - a) w (omega arith) l)))

  -- ---- from a gate's arrays

  -- the row of all fanins
  pub row_whole : {from : ℕ} (zs : List (Bool × Node)) {ℓ w : ℕ} {f : ℕ → ℕ} → (from ≡ 0) ⊎ (from + length zs ≤ suc ℓ) →
      LevelRow K lev from big zs ℓ f (2 ^ length zs - 1) → w ≤ K → LeastEntry big (AtMost (Gives K lev zs ℓ) w) (f w)
  row_whole zs {w = w} b row l = entry_groups b (rw (select_all zs (length zs) refl) at (row w l))

  -- the last line that is needed
  pub line_final : (k : Kind) (es : Edges) {a j e : ℕ} → 2 ≤ K → T (proper (gate k es)) → Greatest lev (fanins es) a → size (fanins es) ≤ suc j →
      LeastEntry big (AtMost (Gives K lev (fanins es) (a + j)) 1) e → e ≤ j
  line_final k es {a} {j} two p g h x =
      let q = and_split (many es) (propers es) p in
      let s = some_gives* K lev two es q.1 (omega (arith, fanins_many es q.0)) in
      let (v, e, b, d, r, t) = gives_few s.2 in
      let m = gives_wide t in
      omega (arith, x.low e (v, b, gives_higher (a + j) (gives_lower a g.nets t) (omega arith)))
