-- After a sheet is added, its output net has the value of its tree.
-- Each new table goes on holding, since it reads only nets and earlier tables, and no other table drives the output net.
use Rattle.std.specs.Prelude.{ℕ, ◌+◌, ◌≤◌, ◌<◌, ◌≡◌, refl, ◌⊎◌, ◌≢◌, Bool, List, ◌++◌, length}
use Rattle.std.proofs.Common.{arith, sym, ap₂, ◌∙◌, inl, inr, ⊎_elim}
use mathlib.Core.List.Memᴰ
use Rattle.lists.specs.Trusted.Lists.{Every}
use Rattle.lists.specs.ListLaws.{every_cons, every_head, every_append, every_left, every_right, permuted_to}
use Rattle.tree.specs.declared.Kind.{Kind}
use Rattle.tree.specs.Trusted.Tree.{Node, leaf, gate, Edges, none, edge, turned, meet}
use Rattle.tree.specs.Measures.{value, values}
use Rattle.tree.specs.Measures.{leaves, leaves*}
use Rattle.cover.specs.Trusted.Tables.{LookupTable, output, Placed, numbered, writes, run, settled}
use Rattle.cover.specs.Eval.{Agree, output_same, driven_in, numbered_is, settled_append, ValuesHold, uses, Untouched, holds_on, run_holds}
use Rattle.cover.specs.Trusted.Placed.{root_number}
use Rattle.cover.proofs.Value.{root_value_lem}
use Rattle.cover.proofs.Inputs.{Tidy}
use Rattle.cover.proofs.CoverTableLaws.{added_tidy}
use Rattle.cover.specs.Trusted.CoverTables.{Circuit, CoverTables, Fresh}
use Rattle.cover.specs.Legal.{Legal}
use Rattle.cover.specs.History.{Met}

-- a tree looks at nothing but its leaves
mutual
  value_same : (t : Node) (d e : ℕ → Bool) → Agree d e (leaves t) → value t d ≡ value t e
  value_same (leaf n) d e h = every_head h
  value_same (gate k es) d e h = values_same es k d e h

  values_same : (es : Edges) (k : Kind) (d e : ℕ → Bool) → Agree d e (leaves* es) → values es k d ≡ values es k e
  values_same none k d e h = refl
  values_same (edge i t es) k d e h =
      ap₂ (λ a b. meet k (turned i a) b) (value_same t d e (every_left (leaves t) (leaves* es) h))
      (values_same es k d e (every_right (leaves t) (leaves* es) h))

module _ (base K : ℕ) (old new : List LookupTable) (s : Circuit) (legal : Legal base s) (a : CoverTables base K old new s) where
  -- the new tables do not read the output net, and only the root's drives it
  new_tidy : Every (Tidy s.out (root_number a.cover) (λ x. x ≢ s.out)) (numbered (length old) new)
  new_tidy p m =
      let t = added_tidy base K old new s a p m in
      (t.0, λ x i. ⊎_elim (λ l. (legal.leaf_nets_lem x l).2) (λ r. omega (arith, r.1, legal.out_net)) (t.1 x i))

  -- a new table writes its own code and, if it is the root's, the output net
  new_writes : Every (λ p. Every (λ c. (c ≡ base + p.0) ⊎ ((c ≡ s.out) × (p.0 ≡ root_number a.cover))) (writes base p)) (numbered (length old) new)
  new_writes p m =
      every_cons (inl refl)
      (λ c i. let d = driven_in p.1.drives c i in ⊎_elim (λ z. absurd (omega arith)) (λ f. inr (d.0 ∙ f.0, f.1)) (new_tidy p m).0)

  -- nothing that is used is above the table's own code; and the output net is used from the root on
  abbrev pub LowCodes : Placed → Type 0
  LowCodes p = Every (λ c. (c ≤ base + p.0) × (c ≡ s.out → root_number a.cover ≤ p.0)) (uses base p)

  pub new_low : Every LowCodes (numbered (length old) new)
  new_low p m =
      let o = legal.out_net in
      every_append (writes base p) p.1.inputs
      (λ c i. ⊎_elim (λ e. (omega arith, λ q. omega arith)) (λ f. (omega arith, λ q. omega arith)) (new_writes p m c i))
      (λ c i. (let l = a.earlier p m c i in omega arith, λ q. absurd ((new_tidy p m).1 c i q)))

  -- so a new table is clear of those before it
  new_clear : (p : Placed) → LowCodes p → Every (λ q. p.0 < q.0 → Untouched base p q) (numbered (length old) new)
  new_clear p u q m l c i j = ⊎_elim (λ e. let h = (u c i).0 in omega arith) (λ f. let h = (u c i).1 f.0 in omega arith) (new_writes q m c j)

  pub new_holds : (e : ℕ → Bool) → Every (ValuesHold base (run base output (numbered (length old) new) e)) (numbered (length old) new)
  new_holds e =
      run_holds base output output_same (length old) new e
      (λ p m c i j. ⊎_elim (λ e. let h = a.earlier p m c i in omega arith) (λ f. (new_tidy p m).1 c i f.0) (new_writes p m c j))
      (λ p m. new_clear p (new_low p m))

  -- wherever its tables hold, the sheet is met
  pub holds_met : (e : ℕ → Bool) → Every (ValuesHold base e) (numbered (length old) new) → Met e s
  holds_met e h = root_value_lem base e s.out s.inverted a.covers.split a.covers.root legal.out_net.0 (permuted_to a.taken h)

  -- a table of the part goes on holding, where it uses no later one, and not the output net
  pub old_holds : Fresh s old → Every (λ p. Every (λ c. c ≤ base + p.0) (uses base p)) (numbered 0 old) → (e : ℕ → Bool) →
      Every (ValuesHold base e) (numbered 0 old) → Every (ValuesHold base (run base output (numbered (length old) new) e)) (numbered 0 old)
  old_holds f l e h p m =
      let r = numbered_is 0 old p m in
      let g = f p.1 r.2 in
      let u : Every (λ c. c ≢ s.out) (uses base p) =
      every_append (writes base p) p.1.inputs
      (every_cons (omega (arith, legal.out_net)) (λ c i e. g.0 (sym (driven_in p.1.drives c i).0 ∙ e)))
      (λ c i e. g.1 (Memᴰ.cast (sym e) i)) in
      holds_on base output output_same p (numbered (length old) new) e
      (λ q n. new_clear p (λ c i. (l p m c i, λ e. absurd (u c i e))) q n (omega (arith, (numbered_is (length old) new q n).0))) (h p m)

  -- THE VALUE OF ONE SHEET: after the tables are added, the output net has the value of the tree
  pub added_met : (σ : ℕ → Bool) → Met (settled base (old ++ new) σ) s
  added_met σ = holds_met (settled base (old ++ new) σ) (rw (settled_append base old new σ) (new_holds (settled base old σ)))
