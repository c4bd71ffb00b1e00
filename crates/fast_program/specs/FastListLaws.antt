-- The list and the slacks after it, written the slacks first.
use Rattle.std.specs.Prelude.{ℕ, ◌+◌, ◌≤◌, ◌≡◌, refl, cond, List, ◌++◌, length, take, drop, Result, Ok, Err}
use Rattle.std.proofs.Common.{arith, sym, ap, ap₂, ◌∙◌, subst, append_assoc, le-leb, length-append, drop_at, length-take-le}
use Rattle.std.proofs.lemmas.Bool.{lt-leb}
use Rattle.lists.specs.Cases.{by_leb}
use Rattle.lists.specs.Trusted.Checked.{passed, refused}
use Rattle.part.specs.declared.Part.{Part}
use Rattle.list_line.specs.Trusted.Writes.{WriteOutcome, pasted}
use Rattle.list_line.specs.Line.{top_line}
use Rattle.list_line.specs.PasteLaws.{paste_length}
use Rattle.listing.specs.Trusted.Listing.{list_of}
use Rattle.listing.specs.Lines.{turned_down, fitted, table_lines}
use Rattle.listing.proofs.LineLaws.{list_is, fitted_in, fitted_out}
use Rattle.printing.specs.Promises.{printed_result}
use Rattle.printing.specs.declared.NoRoom.{NoRoom}

-- line 0 has 19 bytes
pub list_width : (p : Part) (n : ℕ) → n ≡ length (table_lines p p.used) → 19 + n ≡ length (list_of p)
list_width p n e =
    let t : length (top_line p.k p.capacity p.used) ≡ 19 = refl in
    sym (ap length (list_is p) ∙ length-append (top_line p.k p.capacity p.used) (table_lines p p.used) ∙ omega (arith, e, t))

-- what is pasted in front of what was pasted just behind it
paste_before : (old xs ys : List ℕ) → length xs + length ys ≤ length old → pasted (pasted old (length xs) ys) 0 xs ≡ pasted old 0 (xs ++ ys)
paste_before old xs ys l =
    let rest = drop (length xs + length ys) old in
    let n : 0 + length xs ≡ length xs = omega arith in
    let m : length xs + length ys ≡ 0 + length (xs ++ ys) = omega (arith, length-append xs ys) in
    ap (λ z. xs ++ z) (ap (λ k. drop k (pasted old (length xs) ys)) n ∙ drop_at (take (length xs) old) (ys ++ rest) (length xs) (length-take-le (length xs) old (omega arith)))
    ∙ sym (append_assoc xs ys rest)
    ∙ ap (λ k. (xs ++ ys) ++ drop k old) m

module _ (old xs ys : List ℕ) (width : ℕ) (w : width ≡ length xs) where
  list_before : (mid new : List ℕ) (r : Result ℕ NoRoom) → width + length ys ≤ length old → mid ≡ pasted old width ys →
      record { result = printed_result r; bytes = new } ≡ fitted mid 0 xs → new ≡ pasted old 0 (xs ++ ys)
  list_before mid new r l b f =
      let k : length mid ≡ length old = ap length b ∙ paste_length old width ys l in
      ap (λ (o : WriteOutcome). o.bytes) (f ∙ fitted_in mid 0 {line = xs} refl (le-leb (0 + length xs) (length mid) (omega arith)))
      ∙ ap (λ z. pasted z 0 xs) (b ∙ ap (λ z. pasted old z ys) w)
      ∙ paste_before old xs ys (omega arith)

  all_written : (new : List ℕ) (n : ℕ) → n ≡ length ys → width + length ys ≤ length old → new ≡ pasted old 0 (xs ++ ys) →
      record { result = passed (width + n); bytes = new } ≡ fitted old 0 (xs ++ ys)
  all_written new n m l h =
      let s : width + n ≡ length (xs ++ ys) = omega (arith, length-append xs ys) in
      ap₂ (λ z t. record { result = passed z; bytes = t }) s h
      ∙ sym (fitted_in old 0 {line = xs ++ ys} refl (le-leb (0 + length (xs ++ ys)) (length old) (omega (arith, length-append xs ys))))

  -- where there was room for what stands behind, there is room for all
  pub written_behind : (mid new : List ℕ) {n : ℕ} (a r : Result ℕ NoRoom) → a ≡ Ok n → record { result = printed_result a; bytes = mid } ≡ fitted old width ys →
      record { result = printed_result r; bytes = new } ≡ fitted mid 0 xs →
      (n ≡ length ys) × (record { result = passed (width + n); bytes = new } ≡ fitted old 0 (xs ++ ys))
  written_behind mid new {n} a r q e f =
      by_leb (λ b. record { result = passed n; bytes = mid } ≡ cond b (record { result = passed (length ys); bytes = pasted old width ys }) (turned_down 14 old) →
      (n ≡ length ys) × (record { result = passed (width + n); bytes = new } ≡ fitted old 0 (xs ++ ys))) (width + length ys) (length old)
      (λ l i.
      let c : passed n ≡ passed (length ys) = ap (λ (o : WriteOutcome). o.result) i in
      let m : n ≡ length ys = cc in
      let b : mid ≡ pasted old width ys = ap (λ (o : WriteOutcome). o.bytes) i in
      let h : new ≡ pasted old 0 (xs ++ ys) = list_before mid new r l b f in
      (m, all_written new n m l h))
      (λ l i.
      let c : passed n ≡ refused 14 0 = ap (λ (o : WriteOutcome). o.result) i in
      let z : ◌≡◌ {A = ℕ} 0 1 = cc in
      absurd (omega arith))
      (subst (λ b. record { result = printed_result b; bytes = mid } ≡ fitted old width ys) q e)

  -- and where there was none, there is none for all
  pub unwritten_behind : (new : List ℕ) (a : Result ℕ NoRoom) {x : NoRoom} → a ≡ Err x → record { result = printed_result a; bytes = new } ≡ fitted old width ys →
      record { result = refused 14 0; bytes = new } ≡ fitted old 0 (xs ++ ys)
  unwritten_behind new a q e =
      by_leb (λ b. record { result = refused 14 0; bytes = new } ≡ cond b (record { result = passed (length ys); bytes = pasted old width ys }) (turned_down 14 old) →
      record { result = refused 14 0; bytes = new } ≡ fitted old 0 (xs ++ ys)) (width + length ys) (length old)
      (λ l i.
      let c : refused 14 0 ≡ passed (length ys) = ap (λ (o : WriteOutcome). o.result) i in
      let z : ◌≡◌ {A = ℕ} 0 1 = cc in
      absurd (omega arith))
      (λ l i. i ∙ sym (fitted_out old 0 {line = xs ++ ys} refl (lt-leb (0 + length (xs ++ ys)) (length old) (omega (arith, length-append xs ys)))))
      (subst (λ b. record { result = printed_result b; bytes = new } ≡ fitted old width ys) q e)
