-- The leaves of a split tree, which are those of the drawn tree in another order; and what they say about the number of
-- tables: fewer than leaves, and enough to take them all in, each table at most K - 1 more than it gives.
use Rattle.std.specs.Prelude.{ℕ, zero, suc, ◌+◌, ◌-◌, ◌*◌, ◌≤◌, ◌≡◌, refl, Bool, List, [], ◌∷◌, ◌++◌, length}
use Rattle.std.proofs.Common.{arith, ap, length-append}
use Rattle.lists.specs.Trusted.Lists.{Permuted, empty, gather}
use Rattle.lists.specs.ListLaws.{permuted_refl, permuted_trans, permuted_append, permuted_length, gather_append, gather_inserted}
use Rattle.tree.specs.Trusted.Tree.{Node, Edges}
use Rattle.tree.specs.Measures.{leaves, leaves*}
use Rattle.cover.specs.Trusted.Cover.{
  Cover,
  net,
  top,
  Fanins,
  end,
  old,
  new,
  pick,
  arity,
  frontier,
  tables,
  tables*,
  width,
  widths,
  Fits,
  Fits*,
  SplitOf,
  same,
  split,
  Matched,
  done,
  match,
  Rooted,
  rooted,
  CoverOf,
  Least,
}

abbrev mutual
  pub nets : Cover → List ℕ
  nets (net n) = n ∷ []
  nets (top m k fs) = nets* fs

  pub nets* : Fanins → List ℕ
  nets* end = []
  nets* (old i c fs) = nets c ++ nets* fs
  nets* (new m s fs) = nets* s ++ nets* fs

-- ---- they are the drawn tree's

-- those of a fanin
abbrev fanin_nets_lem : Bool × Cover → List ℕ
fanin_nets_lem q = nets q.1

frontier_nets : (fs : Fanins) → gather fanin_nets_lem (frontier fs) ≡ nets* fs
frontier_nets end = refl
frontier_nets (old i c fs) = ap (◌++◌ (nets c)) (frontier_nets fs)
frontier_nets (new m s fs) = rw (gather_append fanin_nets_lem (frontier s) (frontier fs), frontier_nets s, frontier_nets fs)

mutual
  pub split_nets : {t : Node} {c : Cover} → SplitOf t c → Permuted (nets c) (leaves t)
  split_nets same = permuted_refl _
  split_nets (split {fs = fs} d) = rw (frontier_nets fs) at (matched_nets d)

  matched_nets : {es : Edges} {xs : List (Bool × Cover)} → Matched es xs → Permuted (gather fanin_nets_lem xs) (leaves* es)
  matched_nets done = empty
  matched_nets (match i s d) = permuted_trans (gather_inserted fanin_nets_lem i) (permuted_append (split_nets s) (matched_nets d))

-- ---- how many tables

module _ (K : ℕ) where
  -- a table takes in two inputs or more, and gives one
  gate_most : (m w n l a : ℕ) → 2 ≤ a → (n + w ≤ l) × (a ≤ w) → ((pick m 0 1 + n) + pick m w 1 ≤ l) × (1 ≤ pick m w 1)
  gate_most zero w n l a two h = omega arith
  gate_most (suc m) w n l a two h = omega arith

  mutual
    pub tables_most : (c : Cover) → Fits c K → (tables c + width c ≤ length (nets c)) × (1 ≤ width c)
    tables_most (net n) f = omega arith
    tables_most (top m k fs) f = gate_most m (widths fs) (tables* fs) _ (arity fs) f.0 (tables_most* fs f.2)

    pub tables_most* : (fs : Fanins) → Fits* fs K → (tables* fs + widths fs ≤ length (nets* fs)) × (arity fs ≤ widths fs)
    tables_most* end f = omega arith
    tables_most* (old i c fs) f = simp length-append (omega (arith, tables_most c f.0, tables_most* fs f.1))
    tables_most* (new m s fs) f =
        let g = gate_most m (widths s) (tables* s) _ (arity s) f.0.0 (tables_most* s f.0.2) in
        simp length-append (omega (arith, tables_most* fs f.1))

  pub cover_most : {t : Node} {c : Cover} → CoverOf K t c → tables c + 1 ≤ length (leaves t)
  cover_most {c = c} o = omega (arith, tables_most c o.fits, permuted_length (split_nets o.split))

  rooted_width : {c : Cover} → Rooted c → width c ≡ 1
  rooted_width rooted = refl

  -- a table takes in at most K, and gives one
  module _ (d : ℕ) (h : K ≤ 1 + d) where
    gate_fewest : (m w n l : ℕ) → pick m (Unit {0}) (w ≤ K) → l ≤ w + d * n → l ≤ pick m w 1 + d * (pick m 0 1 + n)
    gate_fewest zero w n l f g = omega arith
    gate_fewest (suc m) w n l f g = omega arith

    mutual
      pub tables_fewest : (c : Cover) → Fits c K → length (nets c) ≤ width c + d * tables c
      tables_fewest (net n) f = omega arith
      tables_fewest (top m k fs) f = gate_fewest m (widths fs) (tables* fs) _ f.1 (tables_fewest* fs f.2)

      pub tables_fewest* : (fs : Fanins) → Fits* fs K → length (nets* fs) ≤ widths fs + d * tables* fs
      tables_fewest* end f = omega arith
      tables_fewest* (old i c fs) f = simp length-append (omega (arith, tables_fewest c f.0, tables_fewest* fs f.1))
      tables_fewest* (new m s fs) f =
          let g = gate_fewest m (widths s) (tables* s) _ f.0.1 (tables_fewest* s f.0.2) in
          simp length-append (omega (arith, tables_fewest* fs f.1))

  pub cover_fewest : {t : Node} {c : Cover} → CoverOf K t c → length (leaves t) - 1 ≤ (K - 1) * tables c
  cover_fewest {c = c} o =
      let h : K ≤ 1 + (K - 1) = omega arith in
      omega (arith, tables_fewest (K - 1) h c o.fits, rooted_width o.root, permuted_length (split_nets o.split))

  -- so with the least number
  pub least_bounds : {t : Node} {n : ℕ} → Least K t n → (n + 1 ≤ length (leaves t)) × (length (leaves t) - 1 ≤ (K - 1) * n)
  least_bounds l =
      let c = l.some in
      (rw (← c.2) (cover_most c.1), rw (← c.2) (cover_fewest c.1))
