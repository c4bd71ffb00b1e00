-- How many tables a cover has, which is as many as it has chosen gates, and how large they are: two to K inputs, and no bit
-- of a truth table past their indices.
use Rattle.std.specs.Prelude.{ℕ, zero, suc, ◌^◌, ◌≤◌, ◌<◌, ◌≡◌, refl, Bool, false, List, [], ◌++◌, length}
use Rattle.std.proofs.Common.{arith, sym, ◌∙◌, length-append}
use Rattle.lists.specs.Trusted.Lists.{Every, sorted}
use Rattle.lists.specs.ListLaws.{every_none, every_cons, every_append, permuted_length}
use Rattle.lists.specs.NumberLaws.{sorted_permuted}
use Rattle.tree.specs.declared.Kind.{Kind}
use Rattle.tree.specs.Trusted.Tree.{turned}
use Rattle.cover.specs.Trusted.Bits.{bit, place}
use Rattle.cover.specs.BitLaws.{truth_of_lt}
use Rattle.cover.specs.Trusted.Cover.{Cover, net, top, Fanins, end, old, new, pick, arity, tables, tables*, width, widths, Fits, Fits*}
use Rattle.cover.specs.Trusted.Tables.{LookupTable, Placed}
use Rattle.cover.specs.Trusted.Placed.{code, codes, codes*, held*, gate_table, placed, records, records*}

-- 2 to K inputs, and no bit in the truth table but at an index of theirs
pub record SizedTable (K : ℕ) (p : Placed) : Type 0 where
  pub least : 2 ≤ length p.1.inputs
  pub most : length p.1.inputs ≤ K
  pub bits : p.1.truth < 2 ^ (2 ^ length p.1.inputs)

module _ (base : ℕ) where
  code_length : (m : ℕ) (xs : List ℕ) (w : ℕ) → length xs ≡ w → length (code base m xs) ≡ pick m w 1
  code_length zero xs w e = e
  code_length (suc m) xs w e = refl

  -- a gate gives as many codes as its width says
  mutual
    codes_length : (c : Cover) → length (codes base c) ≡ width c
    codes_length (net n) = refl
    codes_length (top m k fs) = code_length m (codes* base fs) (widths fs) (codes_length* fs)

    pub codes_length* : (fs : Fanins) → length (codes* base fs) ≡ widths fs
    codes_length* end = refl
    codes_length* (old i c fs) = simp length-append (omega (arith, codes_length c, codes_length* fs))
    codes_length* (new m s fs) = simp length-append (omega (arith, code_length m (codes* base s) (widths s) (codes_length* s), codes_length* fs))

  placed_length : (m : ℕ) (r : LookupTable) → length (placed m r) ≡ pick m 0 1
  placed_length zero r = refl
  placed_length (suc m) r = refl

  -- a cover has as many tables as chosen gates
  mutual
    pub records_length : (c : Cover) (n : ℕ) (v : Bool) → length (records base c n v) ≡ tables c
    records_length (net c) n v = refl
    records_length (top m k fs) n v = simp length-append (omega (arith, placed_length m (gate_table base n v k fs), records_length* fs k))

    pub records_length* : (fs : Fanins) (k : Kind) → length (records* base fs k) ≡ tables* fs
    records_length* end k = refl
    records_length* (old i c fs) k = simp length-append (omega (arith, records_length c 0 false, records_length* fs k))
    records_length* (new m s fs) k = simp length-append (omega (arith, placed_length m (gate_table base 0 false k s), records_length* s k, records_length* fs k))

  module _ (K : ℕ) where
    gate_sized : (m n : ℕ) (v : Bool) (k : Kind) (fs : Fanins) → 2 ≤ arity fs → pick m (Unit {0}) (widths fs ≤ K) →
        (arity fs ≤ widths fs) × Every (SizedTable K) (records* base fs k) →
        (1 ≤ pick m (widths fs) 1) × Every (SizedTable K) (records* base fs k ++ placed m (gate_table base n v k fs))
    gate_sized zero n v k fs h f g = (omega arith, every_append (records* base fs k) [] g.1 (every_none _))
    gate_sized (suc m) n v k fs h f g =
        (omega arith, every_append (records* base fs k) (placed (suc m) (gate_table base n v k fs)) g.1 (every_cons own (every_none _)))
      where
        u : length (sorted (codes* base fs)) ≡ widths fs
        u = sym (permuted_length (sorted_permuted (codes* base fs))) ∙ codes_length* fs

        own : SizedTable K (suc m, gate_table base n v k fs)
        own = record {
          least = omega (arith, u);
          most = omega (arith, u);
          bits = truth_of_lt (λ i. turned v (held* base fs k (λ c. bit i (place c (sorted (codes* base fs)))))) (2 ^ length (sorted (codes* base fs)));
        }

    mutual
      pub fits_sized : (c : Cover) (n : ℕ) (v : Bool) → Fits c K → (1 ≤ width c) × Every (SizedTable K) (records base c n v)
      fits_sized (net c) n v f = (omega arith, every_none _)
      fits_sized (top m k fs) n v f = gate_sized m n v k fs f.0 f.1 (fits_sized* fs k f.2)

      fits_sized* : (fs : Fanins) (k : Kind) → Fits* fs K → (arity fs ≤ widths fs) × Every (SizedTable K) (records* base fs k)
      fits_sized* end k f = (omega arith, every_none _)
      fits_sized* (old i c fs) k f =
          let g = fits_sized c 0 false f.0 in
          let h = fits_sized* fs k f.1 in
          (omega arith, every_append (records base c 0 false) (records* base fs k) g.1 h.1)
      fits_sized* (new m s fs) k f =
          let g = gate_sized m 0 false k s f.0.0 f.0.1 (fits_sized* s k f.0.2) in
          let h = fits_sized* fs k f.1 in
          (omega arith, every_append (records* base s k ++ placed m (gate_table base 0 false k s)) (records* base fs k) g.1 h.1)
