-- Every cover is counted: a group of fanins gives what a cover of it gives, with the cover's level, inputs and tables.
-- By induction over the cover, as in Lower of the crate `plan`.
use Rattle.std.specs.Prelude.{ℕ, zero, suc, ◌+◌, ◌≤◌, max, ◌≡◌, refl, Bool, List, [], ◌∷◌}
use Rattle.std.proofs.Common.{add-zero, zero-add, arith}
use Rattle.lists.specs.Trusted.Lists.{Permuted, empty, more}
use Rattle.lists.specs.Sequences.{Mix, left, Paired, no_pair, pair}
use Rattle.lists.specs.MixLaws.{mix_none, mix_all, paired_insert, paired_split}
use Rattle.tree.specs.declared.Kind.{Kind}
use Rattle.tree.specs.Trusted.Tree.{Node, gate, Edges}
use Rattle.cover.specs.Trusted.Cover.{
  Cover,
  net,
  top,
  Fanins,
  end,
  old,
  new,
  pick,
  arity,
  frontier,
  tables,
  tables*,
  width,
  widths,
  Fits,
  Fits*,
  SplitOf,
  same,
  split,
  Matched,
  done,
  match,
  CoverOf,
  Rooted,
  rooted,
}
use Rattle.levels.specs.Trusted.Levels.{level, levels}
use Rattle.levels.specs.Gives.{fanins, Gives, drawn, both, placed}
use Rattle.levels.specs.GivesLaws.{gives_permuted, gives_higher}

-- the cover splits the fanin, inverted as drawn
abbrev Splits : Bool × Cover → Bool × Node → Type 0
Splits q z = (q.0 ≡ z.0) × SplitOf z.1 q.1

-- the drawn gate's fanins, in the order in which the cover has them
matched_splits : {es : Edges} {xs : List (Bool × Cover)} → Matched es xs →
    (zs : List (Bool × Node)) × Permuted (fanins es) zs × Paired Splits xs zs
matched_splits done = ([], empty, no_pair)
matched_splits (match {i = i} {t = t} j s m) =
    let r = matched_splits m in
    let q = paired_insert {y = (i, t)} j (refl, s) r.2 in
    (q.0, more q.1 r.1, q.2)

module _ (K : ℕ) (lev : ℕ → ℕ) where
  -- held or chosen
  raise : {zs : List (Bool × Node)} {ℓ w c : ℕ} (m : ℕ) → Gives K lev zs ℓ w c →
      Gives K lev zs (pick m ℓ (1 + ℓ)) (pick m w 1) (pick m 0 1 + c)
  raise {c = c} zero g = rw (zero-add c) g
  raise {ℓ = ℓ} {c = c} (suc m) g =
      let e : 1 + ℓ ≡ suc ℓ = omega arith in
      let d : 1 + c ≡ suc c = omega arith in
      rw (e, d) (placed g)

  -- the same of any number of fanins
  data Sum : ℕ → List (Bool × Node) → ℕ → ℕ → ℕ → Type 0 where
    nothing : {ℓ : ℕ} → Sum 0 [] ℓ 0 0
    some : {n : ℕ} {zs : List (Bool × Node)} {ℓ w c : ℕ} → Gives K lev zs ℓ w c → Sum n zs ℓ w c

  sum_gives : {n ℓ w c : ℕ} {zs : List (Bool × Node)} → 2 ≤ n → Sum n zs ℓ w c → Gives K lev zs ℓ w c
  sum_gives h nothing = absurd (omega arith)
  sum_gives h (some g) = g

  add : {xs ys zs : List (Bool × Node)} {n ℓ ℓ' v w c d : ℕ} → Mix xs ys zs → Gives K lev xs ℓ v c → Sum n ys ℓ' w d → v + w ≤ K →
      Gives K lev zs (max ℓ ℓ') (v + w) (c + d)
  add {ℓ = ℓ} {ℓ' = ℓ'} {v = v} {c = c} m g nothing f = rw (add-zero v, add-zero c, ← mix_all m) (gives_higher (max ℓ ℓ') g (omega arith))
  add {ℓ = ℓ} {ℓ' = ℓ'} m g (some h) f =
      both m (gives_higher (max ℓ ℓ') g (omega arith)) (gives_higher (max ℓ ℓ') h (omega arith)) f

  -- a table that fits is as wide as what it holds
  held_fits : (m w : ℕ) → pick m (Unit {0}) (w ≤ K) → pick m w 1 ≤ K → w ≤ K
  held_fits zero w f h = h
  held_fits (suc m) w f h = f

  gate_gives : {es : Edges} {xs : List (Bool × Cover)} {ℓ w c : ℕ} → Matched es xs →
      ((zs : List (Bool × Node)) → Paired Splits xs zs → Gives K lev zs ℓ w c) → Gives K lev (fanins es) ℓ w c
  gate_gives m f = let q = matched_splits m in gives_permuted (f q.0 q.2) q.1

  mutual
    under : (c : Cover) {i : Bool} {t : Node} → SplitOf t c → Fits c K → width c ≤ K →
        Gives K lev ((i, t) ∷ []) (level lev c) (width c) (tables c)
    under (net n) same f w = Gives.net {n = n} {ℓ = lev n} (omega arith)
    under (top m k fs) (split d) f w =
        let v = held_fits m (widths fs) f.1 w in
        raise m (drawn (gate_gives d (λ zs p. sum_gives f.0 (under* fs p f.2 v))))

    under* : (fs : Fanins) {zs : List (Bool × Node)} → Paired Splits (frontier fs) zs → Fits* fs K → widths fs ≤ K →
        Sum (arity fs) zs (levels lev fs) (widths fs) (tables* fs)
    under* end no_pair f w = nothing
    under* (old i c fs) (pair b d) f w =
        some (add (left (mix_none _)) (under c b.1 f.0 (omega arith)) (under* fs d f.1 (omega arith)) w)
    under* (new m s fs) d f w =
        let q = paired_split (frontier s) (frontier fs) d in
        let v = held_fits m (widths s) f.0.1 (omega arith) in
        some (add q.2 (raise m (sum_gives f.0.0 (under* s q.3 f.0.2 v))) (under* fs q.4 f.1 (omega arith)) w)

  -- what the root's table of a cover reads, and how many tables are below it
  root_under : {k : Kind} {es : Edges} {c : Cover} → Rooted c → SplitOf (gate k es) c → Fits c K →
      (ℓ : ℕ) × (w : ℕ) × (n : ℕ) × (level lev c ≡ suc ℓ) × (tables c ≡ suc n) × Gives K lev (fanins es) ℓ w n
  root_under (rooted {fs = fs}) (split d) f =
      (levels lev fs, widths fs, tables* fs, omega arith, omega arith, gate_gives d (λ zs p. sum_gives f.0 (under* fs p f.2 f.1)))

  pub cover_gives : {k : Kind} {es : Edges} (c : Cover) → CoverOf K (gate k es) c →
      (ℓ : ℕ) × (w : ℕ) × (n : ℕ) × (level lev c ≡ suc ℓ) × (tables c ≡ suc n) × Gives K lev (fanins es) ℓ w n
  cover_gives c o = root_under o.root o.split o.fits
