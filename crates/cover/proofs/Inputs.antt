-- What a cover's tables read and drive: leaves and other tables of the cover; and only the root's drives a net.
-- `P` is any property that the leaves and the codes of the cover's tables have.
use Rattle.std.specs.Prelude.{ℕ, zero, suc, ◌+◌, ◌≡◌, refl, ◌⊎◌, Bool, false, List, [], ◌++◌}
use Rattle.std.proofs.Common.{inl, inr}
use mathlib.Core.List.Memᴰ
use Rattle.lists.specs.Trusted.Lists.{◌∈◌, first, Every}
use Rattle.lists.specs.ListLaws.{every_none, every_cons, every_head, every_append, every_left, every_right, permuted_to, permuted_from}
use Rattle.lists.specs.NumberLaws.{sorted_permuted}
use Rattle.tree.specs.declared.Kind.{Kind}
use Rattle.tree.specs.Trusted.Tree.{Node}
use Rattle.tree.specs.Measures.{leaves}
use Rattle.cover.specs.Trusted.Cover.{Cover, net, top, Fanins, end, old, new, SplitOf, Rooted, rooted}
use Rattle.cover.specs.Nets.{nets, nets*, split_nets}
use Rattle.cover.specs.Trusted.Tables.{LookupTable, Placed}
use Rattle.cover.specs.Trusted.Placed.{root_number, placed, code, codes, codes*, gate_table, records, records*}

-- the table drives nothing or, if it is the table m, the net n; and its inputs have the property P
abbrev pub Tidy : ℕ → ℕ → (ℕ → Type 0) → Placed → Type 0
Tidy n m P p = ((p.1.drives ≡ 0) ⊎ ((p.1.drives ≡ n) × (p.0 ≡ m))) × Every P p.1.inputs

module _ (base : ℕ) where
  module _ (P : ℕ → Type 0) where
    -- the codes and the inputs of the tables have the property, and the tables drive nothing
    abbrev Reads : List ℕ → List Placed → Type 0
    Reads xs ps = Every P xs × Every (λ p. (p.1.drives ≡ 0) × Every P p.1.inputs) ps

    -- the tables' own codes have it
    abbrev Own : List Placed → Type 0
    Own = Every (λ p. P (base + p.0))

    both : (xs ys : List ℕ) (ps qs : List Placed) → Reads xs ps → Reads ys qs → Reads (xs ++ ys) (ps ++ qs)
    both xs ys ps qs g h = (every_append xs ys g.0 h.0, every_append ps qs g.1 h.1)

    gate_reads : (m : ℕ) (k : Kind) (fs : Fanins) → Own (records* base fs k ++ placed m (gate_table base 0 false k fs)) →
        Reads (codes* base fs) (records* base fs k) →
        Reads (code base m (codes* base fs)) (records* base fs k ++ placed m (gate_table base 0 false k fs))
    gate_reads zero k fs g h = (h.0, every_append (records* base fs k) [] h.1 (every_none _))
    gate_reads (suc m) k fs g h =
        let own = placed (suc m) (gate_table base 0 false k fs) in (
          every_cons (every_head (every_right (records* base fs k) own g)) (every_none _),
          every_append (records* base fs k) own h.1 (every_cons (refl, permuted_to (sorted_permuted (codes* base fs)) h.0) (every_none _)),
        )

    mutual
      cover_reads : (c : Cover) → Every P (nets c) → Own (records base c 0 false) → Reads (codes base c) (records base c 0 false)
      cover_reads (net n) h g = (h, every_none _)
      cover_reads (top m k fs) h g =
          gate_reads m k fs g (fanins_reads fs k h (every_left (records* base fs k) (placed m (gate_table base 0 false k fs)) g))

      fanins_reads : (fs : Fanins) (k : Kind) → Every P (nets* fs) → Own (records* base fs k) →
          Reads (codes* base fs) (records* base fs k)
      fanins_reads end k h g = (every_none _, every_none _)
      fanins_reads (old i c fs) k h g =
          let ps = records base c 0 false in
          let qs = records* base fs k in
          both (codes base c) (codes* base fs) ps qs
          (cover_reads c (every_left (nets c) (nets* fs) h) (every_left ps qs g))
          (fanins_reads fs k (every_right (nets c) (nets* fs) h) (every_right ps qs g))
      fanins_reads (new m s fs) k h g =
          let own = placed m (gate_table base 0 false k s) in
          let ps = records* base s k ++ own in
          let qs = records* base fs k in
          let l = every_left ps qs g in
          both (code base m (codes* base s)) (codes* base fs) ps qs
          (gate_reads m k s l (fanins_reads s k (every_left (nets* s) (nets* fs) h) (every_left (records* base s k) own l)))
          (fanins_reads fs k (every_right (nets* s) (nets* fs) h) (every_right ps qs g))

    pub root_reads : {t : Node} {c : Cover} (n : ℕ) (v : Bool) → SplitOf t c → Rooted c → Every P (leaves t) →
        Own (records base c n v) →
        Every (Tidy n (root_number c) P) (records base c n v)
    root_reads n v s (rooted {n = m} {k = k} {fs = fs}) h g =
        let own = placed (suc m) (gate_table base n v k fs) in
        let r = fanins_reads fs k (permuted_from (split_nets s) h) (every_left (records* base fs k) own g) in
        every_append (records* base fs k) own (λ p i. (inl (r.1 p i).0, (r.1 p i).1))
        (every_cons (inr (refl, refl), permuted_to (sorted_permuted (codes* base fs)) r.0) (every_none _))

  -- the root's table is there, and drives the net
  pub root_in : {c : Cover} (n : ℕ) (v : Bool) → Rooted c → (r : LookupTable) × ((root_number c, r) ∈ records base c n v) × (r.drives ≡ n)
  root_in n v (rooted {n = m} {k = k} {fs = fs}) = (gate_table base n v k fs, Memᴰ.append_right (records* base fs k) (first refl), refl)
