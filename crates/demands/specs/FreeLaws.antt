-- In a sound part the values of all nets are settled by those of the free nets, which no table drives: whatever else a setting says
-- makes no difference.
use Rattle.std.specs.Prelude.{ℕ, suc, ◌+◌, ◌≤◌, ◌<◌, ◌≡◌, refl, ◌⊎◌, Bool, List, [], ◌∷◌, map}
use Rattle.std.proofs.Common.{arith, sym, ap, ◌∙◌, subst, inl, inr, ⊎_elim}
use mathlib.Core.List.Memᴰ
use Rattle.lists.specs.Trusted.Lists.{◌∈◌, first, later, Every}
use Rattle.lists.specs.ListLaws.{every_head, every_tail}
use Rattle.tree.specs.Trusted.Limits.{code_base}
use Rattle.cover.specs.Trusted.Tables.{LookupTable, output, Placed, numbered, writes, step, run, settled}
use Rattle.cover.specs.Eval.{output_same, put_same, in_driven, driven_in, numbered_is}
use Rattle.table.specs.Trusted.Records.{table_of}
use Rattle.table.specs.Trusted.Rules.{IsNet, places, Rules}
use Rattle.part.specs.Trusted.Parts.{in_use, tables_of}
use Rattle.part.specs.Trusted.Sound.{Sound}
use Rattle.part.specs.Trusted.Nets.{Driven}
use Rattle.table.specs.declared.Table.{Table}
use Rattle.part.specs.declared.Part.{Part}

-- a table of the list has a number
numbered_in : (n : ℕ) (ts : List LookupTable) (t : LookupTable) → t ∈ ts → (p : Placed) × (p ∈ numbered n ts) × (p.1 ≡ t)
numbered_in n [] t x' = elim x' [ ]
numbered_in n (u ∷ ts) t (first e) = ((suc n, u), first refl, sym e)
numbered_in n (u ∷ ts) t (later m) = let h = numbered_in (suc n) ts t m in (h.0, later h.1, h.2)

module _ (k : ℕ) (rs : List Table) (h : Rules k rs) where
  -- a net, or the code of a table
  abbrev Valid : ℕ → Type 0
  Valid c = IsNet c ⊎ ((p : Placed) × (p ∈ places rs) × (c ≡ code_base + p.0))

  abbrev Written : List Placed → ℕ → Type 0
  Written qs c = (q : Placed) × (q ∈ qs) × (c ∈ writes code_base q)

  -- an input is a net or the code of an earlier table
  input : (q : Placed) → q ∈ places rs → (x : ℕ) → x ∈ q.1.inputs → IsNet x ⊎ ((p : Placed) × (p ∈ places rs) × (x ≡ code_base + p.0) × (p.0 < q.0))
  input q m x i =
      let r = Memᴰ.of_map table_of rs (numbered_is 0 (map table_of rs) q m).2 in
      ⊎_elim inl (λ t. let p = h.sourced q m x i t in inr (p.0, p.1, p.2, p.3)) ((h.coded r.0 r.1).1 x (subst (λ t. x ∈ t.inputs) (sym r.2) i))

  -- no table from the reader on writes it
  not_written : (q : Placed) → q ∈ places rs → (x : ℕ) → x ∈ q.1.inputs → (p : Placed) → p ∈ places rs → q.0 ≤ p.0 → ¬ (x ∈ writes code_base p)
  not_written q m x i p j l (first e) =
      ⊎_elim (λ n. omega (arith, e, n)) (λ t. omega (arith, e, t.2, t.3)) (input q m x i)
  not_written q m x i p j l (later w) =
      let d = driven_in p.1.drives x w in
      let o = h.read_after p j q m d.1 (Memᴰ.cast (sym d.0) i) in
      omega arith

  values_same : (n : ℕ) (ts : List LookupTable) → Every (λ p. p ∈ places rs) (numbered n ts) → (d e : ℕ → Bool) →
      ((c : ℕ) → Valid c → ¬ (Written (numbered n ts) c) → d c ≡ e c) → (c : ℕ) → Valid c →
      run code_base output (numbered n ts) d c ≡ run code_base output (numbered n ts) e c
  values_same n [] f d e g c v = g c v (λ w. Memᴰ.not-nil w.1)
  values_same n (t ∷ ts) f d e g c v =
      values_same (suc n) ts (every_tail f) (step code_base output (suc n, t) d) (step code_base output (suc n, t) e)
      (λ x u w. put_same (writes code_base (suc n, t)) (output t d) (output t e) d e x out (λ o. g x u (other x w o))) c v
    where
      other : (x : ℕ) → ¬ (Written (numbered (suc n) ts) x) → ¬ (x ∈ writes code_base (suc n, t)) → ¬ (Written ((suc n, t) ∷ numbered (suc n) ts) x)
      other x w o y = one y.0 y.1 y.2
        where
          one : (p : Placed) → p ∈ (suc n, t) ∷ numbered (suc n) ts → x ∈ writes code_base p → ⊥
          one p (first q) i = o (subst (λ z. x ∈ writes code_base z) q i)
          one p (later m) i = w (p, m, i)

      reads : Every (λ x. d x ≡ e x) t.inputs
      reads x i = g x (⊎_elim inl (λ p. inr (p.0, p.1, p.2)) (input (suc n, t) (every_head f) x i)) (λ y. not_written (suc n, t) (every_head f) x i y.0 (f y.0 y.1)
          (numbered_is n (t ∷ ts) y.0 y.1).0 y.2)

      out : output t d ≡ output t e
      out = output_same t d e reads

-- THE VALUES OF A SOUND PART depend on the free nets alone
pub values_by_free_nets : (p : Part) → Sound p → (σ τ : ℕ → Bool) → ((n : ℕ) → IsNet n → ¬ (Driven n (tables_of p)) → σ n ≡ τ n) → (n : ℕ) → IsNet n →
    settled code_base (tables_of p) σ n ≡ settled code_base (tables_of p) τ n
values_by_free_nets p h σ τ g n l = values_same p.k (in_use p) h.rules 0 (tables_of p) (λ q m. m) σ τ unwritten n (inl l)
  where
    -- a net that is driven is written
    driven_written : (c : ℕ) → 1 ≤ c → Driven c (tables_of p) → Written p.k (in_use p) h.rules (places (in_use p)) c
    driven_written c i d =
        let q = numbered_in 0 (tables_of p) d.0 d.1 in
        let e : q.0.1.drives ≡ c = ap (λ t. t.drives) q.2 ∙ d.2 in
        (q.0, q.1, later (Memᴰ.cast (sym e) (in_driven q.0.1.drives (omega arith))))

    unwritten : (c : ℕ) → Valid p.k (in_use p) h.rules c → ¬ (Written p.k (in_use p) h.rules (places (in_use p)) c) → σ c ≡ τ c
    unwritten c v w = ⊎_elim (λ i. g c i (λ d. w (driven_written c i.0 d))) (λ q. absurd (w (q.0, q.1, first q.2))) v
