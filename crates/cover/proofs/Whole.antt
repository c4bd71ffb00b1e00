-- A cover of one table is the table of the whole tree, however the tree was split: it reads the leaves, in rising order, and
-- has the tree's value.
use Rattle.std.specs.Prelude.{ℕ, zero, suc, ◌+◌, ◌≡◌, refl, Bool, List, [], ◌∷◌, ◌++◌, length}
use Rattle.std.proofs.Common.{arith, ap, ap₂, ◌∙◌}
use Rattle.lists.specs.Trusted.Lists.{Every, sorted}
use Rattle.lists.specs.ListLaws.{every_none, permuted_trans}
use Rattle.lists.specs.NumberLaws.{sorted_permuted, sorted_sorted, sorted_only}
use Rattle.tree.specs.declared.Kind.{Kind}
use Rattle.tree.specs.Trusted.Tree.{Node, gate, Edges, turned}
use Rattle.tree.specs.Measures.{value}
use Rattle.tree.specs.Measures.{leaves, leaves*}
use Rattle.cover.specs.Trusted.Cover.{Cover, net, top, Fanins, end, old, new, pick, frontier, tables, tables*, SplitOf, split, Matched, Rooted, rooted, CoverOf}
use Rattle.cover.specs.Trusted.Tables.{LookupTable, Placed, tabled}
use Rattle.cover.specs.Trusted.Placed.{root_number, code, codes, codes*, gate_table, records, records*}
use Rattle.cover.proofs.Value.{gate_held}
use Rattle.cover.specs.Nets.{nets, nets*, split_nets}
use Rattle.cover.proofs.Size.{records_length*}

-- the table that drives n and has the value of the tree, inverted where v is true
abbrev pub whole : ℕ → Bool → Node → LookupTable
whole n v t = tabled n (sorted (leaves t)) (λ e. turned v (value t e))

length_none : {A : Type 0} (xs : List A) → length xs ≡ 0 → xs ≡ []
length_none [] e = refl
length_none (x ∷ xs) e = absurd (omega arith)

module _ (base : ℕ) where
  code_none : (m n : ℕ) (xs ys : List ℕ) → pick m 0 1 + n ≡ 0 → (n ≡ 0 → xs ≡ ys) → code base m xs ≡ ys
  code_none zero n xs ys e f = f (omega arith)
  code_none (suc m) n xs ys e f = absurd (omega arith)

  -- what no table takes in is read as it stands
  mutual
    codes_none : (c : Cover) → tables c ≡ 0 → codes base c ≡ nets c
    codes_none (net n) e = refl
    codes_none (top m k fs) e = code_none m (tables* fs) (codes* base fs) (nets* fs) e (λ z. codes_none* fs z)

    codes_none* : (fs : Fanins) → tables* fs ≡ 0 → codes* base fs ≡ nets* fs
    codes_none* end e = refl
    codes_none* (old i c fs) e = ap₂ ◌++◌ (codes_none c (omega arith)) (codes_none* fs (omega arith))
    codes_none* (new m s fs) e =
        ap₂ ◌++◌ (code_none m (tables* s) (codes* base s) (nets* s) (omega arith) (λ z. codes_none* s z)) (codes_none* fs (omega arith))

  gate_whole : (n : ℕ) (v : Bool) (k : Kind) {es : Edges} (fs : Fanins) → Matched es (frontier fs) → tables* fs ≡ 0 →
      gate_table base n v k fs ≡ whole n v (gate k es)
  gate_whole n v k {es} fs d e = ap₂ (tabled n) inputs (λ j σ. turned v (gate_held base σ fs d k (none_held _) j))
    where
      inputs : sorted (codes* base fs) ≡ sorted (leaves* es)
      inputs =
          ap sorted (codes_none* fs e)
          ∙ sorted_only (permuted_trans (split_nets (split {k = k} {m = 0} {fs = fs} d)) (sorted_permuted (leaves* es))) (sorted_sorted (leaves* es))

      none_held : (P : Placed → Type 0) → Every P (records* base fs k)
      none_held P = rw (length_none (records* base fs k) (records_length* base fs k ∙ e)) (every_none P)

  split_whole : {t : Node} {c : Cover} (n : ℕ) (v : Bool) → SplitOf t c → Rooted c → tables c ≡ 1 →
      records base c n v ≡ (root_number c, whole n v t) ∷ []
  split_whole n v Rattle.cover.specs.Trusted.Cover.same x7 e = elim x7 [ ]
  split_whole n v (split {k = k} {fs = fs} d) (rooted {n = m}) e =
      let z : tables* fs ≡ 0 = omega arith in
      ap₂ (λ xs r. xs ++ ((suc m, r) ∷ [])) (length_none (records* base fs k) (records_length* base fs k ∙ z)) (gate_whole n v k fs d z)

  pub one_table : {K : ℕ} {t : Node} {c : Cover} (n : ℕ) (v : Bool) → CoverOf K t c → tables c ≡ 1 →
      records base c n v ≡ (root_number c, whole n v t) ∷ []
  one_table n v o e = split_whole n v o.split o.root e
