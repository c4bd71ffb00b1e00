-- A slack at 32 bits, and the bytes of its line from what the writers say.
use Prim.Native.Nat.{ℕ, zero, suc, ◌+◌, ◌-◌, ◌≤◌, ◌<◌}
use native.Mathlib.Omega.{arith}
use mathlib.Core.Path.{◌≡◌, refl, sym, ap, ap₂, subst, ◌∙◌}
use mathlib.Core.Bool.{cond}
use mathlib.Core.List.{List, [], ◌∷◌, ◌++◌}
use borrow.Author.Tests.{lt-ltb, le-ltb}
use lib.IntN.{pos, negsuc, ◌-ℤ◌}
use lib.ListN.{length, set}
use mir.Syntax.{w32}
use mir.Val.{SFits, to_z, of_z}
use mir.Facts.{to_z-of_z}
use Rattle.lists.specs.Cases.{by_leb}
use Rattle.decimal.specs.Trusted.Number.{columns}
use Rattle.decimal.specs.Trusted.Columns.{field_of, signed_field_of}
use Rattle.decimal.specs.Trusted.Reading.{number_of_int}
use Rattle.decimal.specs.Trusted.Writing as writing
use Rattle.decimal.specs.WritingLaws.{signed_written_at_lem}
use Rattle.std.specs.Prelude.{⊤, Result}
use Rattle.decimal.specs.declared.TooWide.{TooWide}
use Rattle.list_line.specs.Trusted.Writes.{pasted}
use Rattle.list_line.specs.PasteLaws.{paste_one, paste_length, paste_next}
use Rattle.list_line.proofs.Written.{number_written}
use Rattle.slacks.specs.Trusted.Slack.{slack_of, slack_line}
use Rattle.slacks.specs.SlackLaws.{above_zero, below_zero, slack_within}

-- ---- the difference

above : (wanted level : ℕ) → level ≤ wanted → pos wanted -ℤ pos level ≡ pos (wanted - level)
above wanted zero h = ap pos (omega arith)
above wanted (suc l) h = ap (λ b. cond b (negsuc (suc l - suc wanted)) (pos (wanted - suc l))) (le-ltb wanted (suc l) h)

below : (wanted level : ℕ) → wanted < level → pos wanted -ℤ pos level ≡ negsuc (level - suc wanted)
below wanted zero h = absurd (omega arith)
below wanted (suc l) h = ap (λ b. cond b (negsuc (suc l - suc wanted)) (pos (wanted - suc l))) (lt-ltb wanted (suc l) h)

difference : (wanted level : ℕ) → number_of_int (pos wanted -ℤ pos level) ≡ slack_of wanted level
difference wanted level =
    by_leb (λ b. number_of_int (pos wanted -ℤ pos level) ≡ cond b (above_zero (wanted - level)) (below_zero (level - wanted))) level wanted
    (λ h. ap number_of_int (above wanted level h))
    (λ h. ap number_of_int (below wanted level h) ∙ ap below_zero (omega arith))

module _ (wanted level : ℕ) (h : wanted < 65536) (k : level < 65536) where
  difference_fits : SFits w32 (pos wanted -ℤ pos level)
  difference_fits =
      by_leb (λ b. SFits w32 (pos wanted -ℤ pos level)) level wanted
      (λ l. subst (λ z. SFits w32 z) (sym (above wanted level l)) (record { sfits = omega arith }))
      (λ l. subst (λ z. SFits w32 z) (sym (below wanted level l)) (record { sfits = omega arith }))

  held : (n : ℕ) → n < 65536 → to_z w32 n ≡ pos n
  held n l = to_z-of_z {w = w32} {z = pos n} (record { sfits = omega arith })

  bits : to_z w32 wanted -ℤ to_z w32 level ≡ pos wanted -ℤ pos level
  bits = ap₂ ◌-ℤ◌ (held wanted h) (held level k)

  pub slack_held : SFits w32 (to_z w32 wanted -ℤ to_z w32 level)
  slack_held = subst (λ z. SFits w32 z) (sym bits) difference_fits

  pub slack_number : number_of_int (to_z w32 (of_z w32 (to_z w32 wanted -ℤ to_z w32 level))) ≡ slack_of wanted level
  slack_number = ap number_of_int (to_z-of_z slack_held ∙ bits) ∙ difference wanted level

-- ---- the line

module _ (old : List ℕ) (at wanted net level : ℕ) (room : at + 13 ≤ length old) (h : wanted < 65536) (few : net < 65536) (k : level < 65536) where
  pub slack_line_lem : (a b : List ℕ) {x y : Result ⊤ TooWide} →
      record { answer = x; bytes = a } ≡ writing.field_written_at old at 6 net →
      record { answer = y; bytes = b } ≡ writing.signed_written_at a (at + 6) 6 (slack_of wanted level) →
      set b (at + 12) 10 ≡ pasted old at (slack_line wanted net level)
  slack_line_lem a b e f =
      let x = field_of 6 net in
      let y = signed_field_of columns (slack_of wanted level) in
      let ea : a ≡ pasted old at x = number_written old a at 6 net (omega arith) (omega arith, omega arith) e in
      let la : length a ≡ length old = ap length ea ∙ paste_length old at x (omega arith) in
      let eb : b ≡ pasted old at (x ++ y) =
      paste_next old a b at (at + 6) x y ea refl (omega arith)
      (ap (λ (o : writing.FieldWrite). o.bytes)
      (f ∙ signed_written_at_lem a (at + 6) 6 (slack_of wanted level) (omega arith) (omega arith) (slack_within wanted level h k))) in
      let lb : length b ≡ length old = ap length eb ∙ paste_length old at (x ++ y) (omega arith) in
      paste_next old b (set b (at + 12) 10) at (at + 12) (x ++ y) (10 ∷ []) eb refl (omega arith) (paste_one b (at + 12) 10 (omega arith))
