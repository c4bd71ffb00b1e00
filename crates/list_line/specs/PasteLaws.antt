-- Bytes pasted into a buffer, one run after the other.
use Rattle.std.specs.Prelude.{ℕ, suc, ◌+◌, ◌≤◌, ◌<◌, ◌≡◌, List, [], ◌∷◌, ◌++◌, length, take, drop, set}
use Rattle.std.proofs.Common.{arith, sym, ap, ap₂, ◌∙◌, append_assoc, length-append, length-drop, take-append-drop, length-take-le, take_at, drop-drop}
use Rattle.std.proofs.Math.Seq.{drop-append-add}
use Rattle.std.proofs.lemmas.List.{set_split}
use Rattle.list_line.specs.Trusted.Writes.{pasted}

pub paste_none : (old : List ℕ) (at : ℕ) → pasted old at [] ≡ old
paste_none old at = let e : at + 0 ≡ at = omega arith in rw e (take-append-drop at old)

pub paste_one : (old : List ℕ) (at b : ℕ) → at < length old → set old at b ≡ pasted old at (b ∷ [])
paste_one old at b h = let e : at + 1 ≡ suc at = omega arith in rw e (set_split old at b h)

module _ (old : List ℕ) (at : ℕ) (xs : List ℕ) (h : at + length xs ≤ length old) where
  head_length : length (take at old ++ xs) ≡ at + length xs
  head_length = simp length-append (omega (arith, length-take-le at old (omega arith)))

  pub paste_length : length (pasted old at xs) ≡ length old
  paste_length = simp (length-append, length-drop) (omega (arith, length-take-le at old (omega arith)))

  -- what is pasted just after it
  pub paste_append : (ys : List ℕ) → at + length xs + length ys ≤ length old → pasted (pasted old at xs) (at + length xs) ys ≡ pasted old at (xs ++ ys)
  paste_append ys l =
      let a = take at old in
      let d = drop (at + length xs) old in
      let e : a ++ (xs ++ d) ≡ (a ++ xs) ++ d = sym (append_assoc a xs d) in
      let t : take (at + length xs) (a ++ (xs ++ d)) ≡ a ++ xs = ap (take (at + length xs)) e ∙ take_at (a ++ xs) d (at + length xs) head_length in
      let r : drop (at + length xs + length ys) (a ++ (xs ++ d)) ≡ drop (at + length (xs ++ ys)) old =
      ap (drop (at + length xs + length ys)) e ∙ ap (λ n. drop (n + length ys) ((a ++ xs) ++ d)) (sym head_length) ∙ drop-append-add (a ++ xs) d (length ys)
      ∙ drop-drop (length ys) (at + length xs) old ∙ (let f : at + length xs + length ys ≡ at + length (xs ++ ys) = simp length-append (omega arith) in rw f) in
      ap₂ (λ p q. p ++ (ys ++ q)) t r ∙ append_assoc a xs (ys ++ drop (at + length (xs ++ ys)) old)
      ∙ ap (λ p. a ++ p) (sym (append_assoc xs ys (drop (at + length (xs ++ ys)) old)))

-- one more run of bytes, as a loop or a call has it: `buf` has `xs`, and `last` is `buf` with `ys` just after
pub paste_next : (old buf last : List ℕ) (at place : ℕ) (xs ys : List ℕ) → buf ≡ pasted old at xs → place ≡ at + length xs →
    at + length xs + length ys ≤ length old → last ≡ pasted buf place ys → last ≡ pasted old at (xs ++ ys)
paste_next old buf last at place xs ys e p l f = f ∙ ap₂ (λ b n. pasted b n ys) e p ∙ paste_append old at xs (omega arith) ys l
