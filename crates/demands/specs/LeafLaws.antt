-- Each leaf of a sheet is an input of one of its tables, whichever cover was taken; so what is read and what is driven after an
-- add does not depend on the cover.
use Rattle.std.specs.Prelude.{ℕ, zero, suc, ◌<◌, ◌≡◌, refl, ◌⊎◌, Bool, false, List, [], ◌++◌, length}
use Rattle.std.proofs.Common.{arith, sym, ◌∙◌, inl, inr, ⊎_elim}
use mathlib.Core.List.Memᴰ
use Rattle.lists.specs.Trusted.Lists.{◌∈◌, first, Every}
use Rattle.lists.specs.ListLaws.{every_append, permuted_to, permuted_from}
use Rattle.lists.specs.NumberLaws.{sorted_permuted}
use Rattle.tree.specs.declared.Kind.{Kind}
use Rattle.tree.specs.Trusted.Tree.{Node}
use Rattle.tree.specs.Measures.{leaves}
use Rattle.cover.specs.Trusted.Cover.{Cover, net, top, Fanins, end, old, new, SplitOf, Rooted, rooted}
use Rattle.cover.specs.Nets.{nets, nets*, split_nets}
use Rattle.cover.specs.Trusted.Tables.{LookupTable, Placed, numbered}
use Rattle.cover.specs.Eval.{numbered_is, every_numbered}
use Rattle.cover.specs.Trusted.Placed.{root_number, placed, code, codes, codes*, gate_table, records, records*}
use Rattle.cover.proofs.Inputs.{root_in}
use Rattle.cover.specs.Trusted.CoverTables.{Circuit, CoverTables}
use Rattle.cover.proofs.CoverTableLaws.{added_inputs, added_tidy}
use Rattle.part.specs.Trusted.Nets.{Driven, Read}

module _ (base : ℕ) where
  -- one of the tables reads x
  abbrev Somewhere : List Placed → ℕ → Type 0
  Somewhere ps x = (p : Placed) × (p ∈ ps) × (x ∈ p.1.inputs)

  -- x is among the codes, or one of the tables reads it
  abbrev Found : List ℕ → List Placed → ℕ → Type 0
  Found xs ps x = (x ∈ xs) ⊎ Somewhere ps x

  found_left : (xs ys : List ℕ) (ps qs : List Placed) (x : ℕ) → Found xs ps x → Found (xs ++ ys) (ps ++ qs) x
  found_left xs ys ps qs x = ⊎_elim (λ m. inl (Memᴰ.append_left ys m)) (λ s. inr (s.0, Memᴰ.append_left qs s.1, s.2))

  found_right : (xs ys : List ℕ) (ps qs : List Placed) (x : ℕ) → Found ys qs x → Found (xs ++ ys) (ps ++ qs) x
  found_right xs ys ps qs x = ⊎_elim (λ m. inl (Memᴰ.append_right xs m)) (λ s. inr (s.0, Memᴰ.append_right ps s.1, s.2))

  -- a chosen gate's table reads what the gate reads
  found_chosen : (m n : ℕ) (v : Bool) (k : Kind) (fs : Fanins) (x : ℕ) → Found (codes* base fs) (records* base fs k) x →
      Somewhere (records* base fs k ++ placed (suc m) (gate_table base n v k fs)) x
  found_chosen m n v k fs x =
      ⊎_elim
      (λ i. ((suc m, gate_table base n v k fs), Memᴰ.append_right (records* base fs k) (first refl), permuted_from (sorted_permuted (codes* base fs)) (λ y j. j) x i))
      (λ s. (s.0, Memᴰ.append_left (placed (suc m) (gate_table base n v k fs)) s.1, s.2))

  found_gate : (m n : ℕ) (v : Bool) (k : Kind) (fs : Fanins) (x : ℕ) → Found (codes* base fs) (records* base fs k) x →
      Found (code base m (codes* base fs)) (records* base fs k ++ placed m (gate_table base n v k fs)) x
  found_gate zero n v k fs x = ⊎_elim inl (λ s. inr (s.0, Memᴰ.append_left [] s.1, s.2))
  found_gate (suc m) n v k fs x = λ f. inr (found_chosen m n v k fs x f)

  mutual
    found : (c : Cover) (n : ℕ) (v : Bool) → Every (Found (codes base c) (records base c n v)) (nets c)
    found (net m) n v = λ x i. inl i
    found (top m k fs) n v = λ x i. found_gate m n v k fs x (found* fs k x i)

    found* : (fs : Fanins) (k : Kind) → Every (Found (codes* base fs) (records* base fs k)) (nets* fs)
    found* end k = λ x i. inl i
    found* (old i c fs) k =
        every_append (nets c) (nets* fs)
        (λ x m. found_left (codes base c) (codes* base fs) (records base c 0 false) (records* base fs k) x (found c 0 false x m))
        (λ x m. found_right (codes base c) (codes* base fs) (records base c 0 false) (records* base fs k) x (found* fs k x m))
    found* (new m s fs) k =
        every_append (nets* s) (nets* fs)
        (λ x i. found_left (code base m (codes* base s)) (codes* base fs) (records* base s k ++ placed m (gate_table base 0 false k s)) (records* base fs k) x
        (found_gate m 0 false k s x (found* s k x i)))
        (λ x i. found_right (code base m (codes* base s)) (codes* base fs) (records* base s k ++ placed m (gate_table base 0 false k s)) (records* base fs k) x
        (found* fs k x i))

  leaf_found : {t : Node} {c : Cover} (n : ℕ) (v : Bool) → SplitOf t c → Rooted c → Every (Somewhere (records base c n v)) (leaves t)
  leaf_found n v s (rooted {n = m} {k = k} {fs = fs}) =
      permuted_to (split_nets s) (λ x i. found_chosen m n v k fs x (found* fs k x i))

  module _ (K : ℕ) (olds news : List LookupTable) (s : Circuit) (a : CoverTables base K olds news s) where
    -- a leaf is read by one of the new tables
    leaf_read : Every (λ x. Read x news) (leaves s.tree)
    leaf_read x i =
        let f = leaf_found s.out s.inverted a.covers.split a.covers.root x i in
        let m = permuted_to a.taken (λ p j. j) f.0 f.1 in
        (f.0.1, (numbered_is (length olds) news f.0 m).2, f.2)

    -- what is read after the add: what was read before, and the leaves
    pub reads_after : (n : ℕ) → n < base → Read n (olds ++ news) → Read n olds ⊎ (n ∈ leaves s.tree)
    reads_after n l r =
        ⊎_elim (λ m. inl (r.0, m, r.2))
        (λ m. inr (every_numbered (λ t. n ∈ t.inputs → n ∈ leaves s.tree) (length olds) news leafy r.0 m r.2))
        (Memᴰ.append_cases olds r.1)
      where
        leafy : Every (λ p. n ∈ p.1.inputs → n ∈ leaves s.tree) (numbered (length olds) news)
        leafy p m i = ⊎_elim (λ j. j) (λ t. absurd (omega (arith, t.1))) (added_inputs base K olds news s a p m n i)

    pub reads_still : (n : ℕ) → Read n olds ⊎ (n ∈ leaves s.tree) → Read n (olds ++ news)
    reads_still n = ⊎_elim (λ r. (r.0, Memᴰ.append_left news r.1, r.2)) (λ i. let r = leaf_read n i in (r.0, Memᴰ.append_right olds r.1, r.2))

    -- what is driven: what was, and the output net
    pub drives_after : (n : ℕ) → 0 < n → Driven n (olds ++ news) → Driven n olds ⊎ (s.out ≡ n)
    drives_after n l r =
        ⊎_elim (λ m. inl (r.0, m, r.2))
        (λ m. inr (every_numbered (λ t. t.drives ≡ n → s.out ≡ n) (length olds) news only r.0 m r.2))
        (Memᴰ.append_cases olds r.1)
      where
        only : Every (λ p. p.1.drives ≡ n → s.out ≡ n) (numbered (length olds) news)
        only p m e = ⊎_elim (λ z. absurd (omega arith)) (λ f. sym f.0 ∙ e) (added_tidy base K olds news s a p m).0

    pub drives_still : (n : ℕ) → Driven n olds ⊎ (s.out ≡ n) → Driven n (olds ++ news)
    drives_still n =
        ⊎_elim (λ r. (r.0, Memᴰ.append_left news r.1, r.2))
        (λ e. let r = root_in base s.out s.inverted a.covers.root in
        let m = permuted_to a.taken (λ p j. j) (root_number a.cover, r.0) r.1 in
        (r.0, Memᴰ.append_right olds (numbered_is (length olds) news (root_number a.cover, r.0) m).2, r.2 ∙ e))
