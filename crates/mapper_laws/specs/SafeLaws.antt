-- The run of a plan has room: a plan of ten fanins at most, whose tables have six inputs at most.
use Rattle.std.specs.Prelude.{ℕ, ◌+◌, ◌*◌, ◌-◌, ◌≤◌, ◌<◌, ◌≡◌, refl, Bool, true, false, List, [], ◌∷◌, ◌++◌, length, get_or}
use Rattle.std.proofs.Common.{arith, sym, ap, ◌∙◌, append_assoc, append-nil, length-append}
use Rattle.lists.specs.Sequences.{upto}
use Rattle.lists.specs.ListLaws.{permuted_length}
use Rattle.lists.specs.NumberLaws.{sorted_permuted, upto_length}
use Rattle.tree.specs.declared.Kind.{Kind}
use Rattle.plan.specs.declared.Key.{Key}
use Rattle.plan.specs.declared.Token.{Token}
use Rattle.plan.specs.declared.Token.TheVariants.{Join as join}
use Rattle.plan.specs.Key.{leaf_key, KeyTaken, held, cut}
use Rattle.cover.specs.Trusted.Tables.{LookupTable}
use Rattle.plan.specs.Plans.{Denotes, fanin, binary, Planned}
use Rattle.pending.specs.Operands.{Operand, single, merged}
use Rattle.mapper_laws.specs.Run.{merge, operand, tables_after, SafeRun}

pub merged_length : (k : Kind) (x y : Operand) → length (merged k x y).inputs ≡ length x.table.inputs + length y.table.inputs
unfolding merged
merged_length k x y =
    sym (permuted_length (sorted_permuted (x.table.inputs ++ y.table.inputs))) ∙ length-append x.table.inputs y.table.inputs

denotes_some : {K : ℕ} {ks : List Key} {p : List Token} {ns : List ℕ} {a : Key} → Denotes K ks p ns a → 1 ≤ length ns
denotes_some (fanin i l) = omega arith
denotes_some (binary {ms = ms} {ns = ns} u v w) = omega (arith, denotes_some u, length-append ms ns)

module _ (base n : ℕ) where
  operand_length : (l : Bool) (ts : List LookupTable) (x : Operand) {a b : Key} → length x.table.inputs ≡ a.width → KeyTaken a l b →
      length (operand base n l ts x).table.inputs ≡ b.width
  operand_length false ts x e held = e
  operand_length true ts x e (cut h) = refl

  tables_length : (l : Bool) (ts : List LookupTable) (x : Operand) → length (tables_after base n l ts x) ≤ length ts + 1
  tables_length false ts x = omega arith
  tables_length true ts x = omega (arith, length-append ts (x.table ∷ []))

  module _ (k : Kind) (fanins : List Operand) {K : ℕ} {ks : List Key} (small : K ≤ 6) (count : length fanins ≡ length ks)
      (widths : (i : ℕ) → i < length ks → length (get_or fanins i (record { inverted = false; table = single 0 })).table.inputs ≡ (get_or ks i leaf_key).width) where
    -- what a plan needs of the stack and of the tables placed, and what it leaves for the tokens after it
    safe_denotes : {p : List Token} {ns : List ℕ} {a : Key} → Denotes K ks p ns a → (q : List Token) (st : List Operand) (ts : List LookupTable) →
        length ns + length st ≤ 10 → length ts + 2 * (length ns - 1) ≤ 18 →
        ((o : Operand) (us : List LookupTable) → length o.table.inputs ≡ a.width → length us ≤ length ts + 2 * (length ns - 1) →
        SafeRun base n k fanins q (record { stack = o ∷ st; placed = us })) →
        SafeRun base n k fanins (p ++ q) (record { stack = st; placed = ts })
    safe_denotes (fanin i l) q st ts room put go = ((omega arith, omega arith), go _ ts (widths i l) (omega arith))
    safe_denotes (binary {p = p₁} {q = p₂} {ms = ms} {ns = ns} {a = a} {b = b} {l = l} {r = r} u v w) q st ts room put go =
        let few = denotes_some u in
        let some = denotes_some v in
        let both = length-append ms ns in
        rw (append_assoc p₁ (p₂ ++ (join l r ∷ [])) q, append_assoc p₂ (join l r ∷ []) q)
        (safe_denotes u (p₂ ++ (join l r ∷ q)) st ts (omega arith) (omega arith)
        (λ x us ex lx. safe_denotes v (join l r ∷ q) (x ∷ st) us (omega arith) (omega arith)
        (λ y vs ey ly.
        let el = operand_length l vs x ex w.took_left in
        let er = operand_length r (tables_after base n l vs x) y ey w.took_right in
        let tl = tables_length l vs x in
        let tr = tables_length r (tables_after base n l vs x) y in (
          (omega (arith, w.fits), omega arith),
          go (merge k (operand base n l vs x) (operand base n r (tables_after base n l vs x) y)) (tables_after base n r (tables_after base n l vs x) y)
              (omega (arith, merged_length k (operand base n l vs x) (operand base n r (tables_after base n l vs x) y), ap (λ z. z.width) w.is))
              (omega arith),
        ))))

    pub safe_planned : {p : List Token} {a : Key} → length ks ≤ 10 → Planned K ks (upto (length ks)) p a →
        SafeRun base n k fanins p (record { stack = []; placed = [] })
    safe_planned {p} few pl =
        let e = permuted_length pl.once in
        let f = upto_length (length ks) in
        rw append-nil at (safe_denotes pl.denotes [] [] [] (omega arith) (omega arith) (λ o us g h. tt))
