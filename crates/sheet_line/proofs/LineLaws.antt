-- Laws of a line that is read from a place on: where it ends.
use Prim.Native.Nat.{ℕ, suc, ◌+◌, ◌-◌, ◌≤◌, ◌<◌}
use native.Mathlib.Omega.{arith}
use native.Mathlib.Numerals.{add-one}
use mathlib.Core.Path.{◌≡◌, refl, sym, ap, ◌∙◌}
use mathlib.Core.Logic.{◌≢◌}
use mathlib.Core.Bool.{true, false}
use mathlib.Core.Option.{Option, none, some}
use mathlib.Core.List.{List, [], ◌∷◌, ◌++◌, append_assoc}
use lib.ListN.{length, take, drop, get_or, length-drop}
use lib.Seq.{take-suc, drop-cons, get_or-drop}
use Rattle.lists.specs.Cases.{by_eqb}
use Rattle.sheet.specs.Trusted.Line.{after, line}

-- bytes before the first of two texts
abbrev pub before : List ℕ → Option (List ℕ × List ℕ) → Option (List ℕ × List ℕ)
before bs none = none
before bs (some p) = some (bs ++ p.0, p.1)

before_more : (bs : List ℕ) (b : ℕ) (o : Option (List ℕ × List ℕ)) → before bs (after b o) ≡ before (bs ++ (b ∷ [])) o
before_more bs b none = refl
before_more bs b (some p) = ap (λ l. some (l, p.1)) (sym (append_assoc bs (b ∷ []) p.0))

abbrev Cut : Type 0
Cut = Option (List ℕ × List ℕ)

-- a line that begins with a byte
line_step : (P : Cut → Type 0) (b : ℕ) (bs : List ℕ) → (b ≡ 10 → P (some ([], bs))) → (b ≢ 10 → P (after b (line bs))) → P (line (b ∷ bs))
line_step P b bs = by_eqb (λ c. P (elim c [ true ↦ some ([], bs) | false ↦ after b (line bs) ])) b 10

module _ (text : List ℕ) (start i : ℕ) (from : start ≤ i) (within : i < length text) where
  part : List ℕ
  part = take (i - start) (drop start text)

  here : drop i text ≡ get_or text i 0 ∷ drop (i + 1) text
  here = rw (add-one i, drop-cons text i 0 within)

  part_more : take (i + 1 - start) (drop start text) ≡ part ++ (get_or text i 0 ∷ [])
  unfolding part
  part_more =
      ap (λ n. take n (drop start text)) (let h : i + 1 - start ≡ suc (i - start) = omega arith in h)
      ∙ (take-suc (drop start text) (i - start) 0 (simp length-drop (omega arith))
      ∙ ap (λ b. part ++ (b ∷ [])) (get_or-drop start text (i - start) 0 ∙ ap (λ n. get_or text n 0) (let h : start + (i - start) ≡ i = omega arith in h)))

  pub line_more : (get_or text i 0 ≡ 10 → ⊥) →
      before (take (i - start) (drop start text)) (line (drop i text)) ≡ before (take (i + 1 - start) (drop start text)) (line (drop (i + 1) text))
  unfolding part
  line_more d =
      ap (λ l. before part (line l)) here
      ∙ (line_step (λ o. before part o ≡ before part (after (get_or text i 0) (line (drop (i + 1) text)))) (get_or text i 0) (drop (i + 1) text) (λ e. absurd (d e)) (λ n. refl)
      ∙ (before_more part (get_or text i 0) (line (drop (i + 1) text)) ∙ ap (λ l. before l (line (drop (i + 1) text))) (sym part_more)))
