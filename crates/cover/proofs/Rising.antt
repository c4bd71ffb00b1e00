-- The inputs of a cover's tables are strictly rising, where the drawn tree reads no net twice and no two tables have one number.
-- For each code: it stands among a gate's codes at most as often as among the leaves and the tables below.
use Rattle.std.specs.Prelude.{ℕ, zero, suc, ◌+◌, ◌≤◌, ◌<◌, ◌≡◌, refl, Bool, false, List, [], ◌∷◌, ◌++◌}
use Rattle.std.proofs.Common.{arith, append-nil}
use Rattle.std.proofs.Math.Decide.{dec_lt}
use Rattle.std.proofs.Math.Logic.{by_cases}
use Rattle.lists.specs.Cases.{by_eqb}
use Rattle.lists.specs.Trusted.Lists.{Every, Rising, Distinct, Permuted, sum}
use Rattle.lists.specs.Sequences.{Sorted}
use Rattle.lists.specs.ListLaws.{every_none, every_cons, every_append}
use Rattle.lists.specs.NumberLaws.{sum_append, sum_permuted, one_if, is, times, sorted_permuted, sorted_sorted, no_times, distinct_times, sorted_rising}
use Rattle.tree.specs.declared.Kind.{Kind}
use Rattle.tree.specs.Trusted.Tree.{Node}
use Rattle.tree.specs.Measures.{leaves}
use Rattle.cover.specs.Trusted.Cover.{Cover, net, top, Fanins, end, old, new, SplitOf}
use Rattle.cover.specs.Trusted.Tables.{LookupTable, Placed, numbered}
use Rattle.cover.specs.Trusted.Placed.{code, codes, codes*, gate_table, placed, records, records*}
use Rattle.cover.specs.Nets.{nets, nets*, split_nets}

module _ (base x : ℕ) where
  -- how many of the tables have the code x
  abbrev tally : List Placed → ℕ
  tally = sum (λ p. is x (base + p.0))

  tally_numbered : (n : ℕ) (rs : List LookupTable) → (tally (numbered n rs) ≤ 1) × (x ≤ base + n → tally (numbered n rs) ≡ 0)
  tally_numbered n [] = (omega arith, λ l. refl)
  tally_numbered n (r ∷ rs) =
      let h = tally_numbered (suc n) rs in
      by_eqb (λ b. (one_if b + tally (numbered (suc n) rs) ≤ 1) × (x ≤ base + n → one_if b + tally (numbered (suc n) rs) ≡ 0)) x (base + suc n)
      (λ e. let z = h.1 (omega arith) in (omega arith, λ l. omega arith)) (λ e. (omega arith, λ l. let z = h.1 (omega arith) in omega arith))

  -- x stands at most N times among the codes, and among the inputs of each table, which are sorted
  abbrev Few : List ℕ → List Placed → ℕ → Type 0
  Few xs ps N = (times x xs ≤ N) × Every (λ p. (times x p.1.inputs ≤ N) × Sorted p.1.inputs) ps

  few_append : (xs ys us vs : List ℕ) (ps qs : List Placed) → Few xs ps (times x us + tally ps) →
      Few ys qs (times x vs + tally qs) →
      Few (xs ++ ys) (ps ++ qs) (times x (us ++ vs) + tally (ps ++ qs))
  few_append xs ys us vs ps qs g h =
      let e = sum_append (λ p. is x (base + p.0)) ps qs in
      let f = sum_append (is x) us vs in (
        omega (arith, sum_append (is x) xs ys),
        every_append ps qs (λ p i. (omega (arith, (g.1 p i).0), (g.1 p i).1)) (λ p i. (omega (arith, (h.1 p i).0), (h.1 p i).1)),
      )

  few_gate : (m n : ℕ) (v : Bool) (k : Kind) (fs : Fanins) →
      Few (codes* base fs) (records* base fs k) (times x (nets* fs) + tally (records* base fs k)) →
      Few (code base m (codes* base fs)) (records* base fs k ++ placed m (gate_table base n v k fs))
      (times x (nets* fs) + tally (records* base fs k ++ placed m (gate_table base n v k fs)))
  few_gate zero n v k fs h = rw (append-nil (records* base fs k)) h
  few_gate (suc m) n v k fs h =
      let own = placed (suc m) (gate_table base n v k fs) in
      let e = sum_append (λ p. is x (base + p.0)) (records* base fs k) own in (
        omega arith,
        every_append (records* base fs k) own (λ p i. (omega (arith, (h.1 p i).0), (h.1 p i).1))
            (every_cons (omega (arith, sum_permuted (is x) (sorted_permuted (codes* base fs))), sorted_sorted (codes* base fs)) (every_none _)),
      )

  mutual
    few : (c : Cover) (n : ℕ) (v : Bool) → Few (codes base c) (records base c n v) (times x (nets c) + tally (records base c n v))
    few (net c) n v = (omega arith, every_none _)
    few (top m k fs) n v = few_gate m n v k fs (few* fs k)

    few* : (fs : Fanins) (k : Kind) → Few (codes* base fs) (records* base fs k) (times x (nets* fs) + tally (records* base fs k))
    few* end k = (omega arith, every_none _)
    few* (old i c fs) k =
        few_append (codes base c) (codes* base fs) (nets c) (nets* fs) (records base c 0 false) (records* base fs k) (few c 0 false)
        (few* fs k)
    few* (new m s fs) k =
        few_append (code base m (codes* base s)) (codes* base fs) (nets* s) (nets* fs)
        (records* base s k ++ placed m (gate_table base 0 false k s)) (records* base fs k)
        (few_gate m 0 false k s (few* s k)) (few* fs k)

-- where its tables are numbered, its leaves lie below the base, and no net stands at two leaves
pub records_rising : (base n b : ℕ) (v : Bool) (rs : List LookupTable) {t : Node} {c : Cover} → SplitOf t c →
    Every (λ x. x < base) (leaves t) →
    Distinct (leaves t) → Permuted (numbered b rs) (records base c n v) → Every (λ p. Rising p.1.inputs) (records base c n v)
records_rising base n b v rs {t} {c} s l d q p m = sorted_rising p.1.inputs (few_of 0).1 (λ x. omega (arith, (few_of x).0, once x))
  where
    few_of : (x : ℕ) → (times x p.1.inputs ≤ times x (nets c) + tally base x (records base c n v)) × Sorted p.1.inputs
    few_of x = (few base x c n v).1 p m

    -- a code is a net's or a table's
    once : (x : ℕ) → times x (nets c) + tally base x (records base c n v) ≤ 1
    once x =
        let e = sum_permuted (is x) (split_nets s) in
        let f = sum_permuted (λ p. is x (base + p.0)) q in
        let h = tally_numbered base x b rs in
        by_cases (dec_lt x base) (λ g. omega (arith, distinct_times x (leaves t) d, h.1 (omega arith)))
        (λ g. omega (arith, no_times x (leaves t) (λ y i. omega (arith, l y i))))
