-- What is printed, from what the writers say.
use Prim.Native.Nat.{ℕ, zero, suc, ◌+◌, ◌≤◌, ◌<◌}
use native.Mathlib.Omega.{arith}
use mathlib.Core.Path.{◌≡◌, refl, sym, ap, ◌∙◌}
use mathlib.Core.Bool.{true, cond}
use mathlib.Core.List.{List, [], ◌∷◌, ◌++◌}
use borrow.Author.Tests.{le-leb, lt-leb}
use lib.IntN.{pos, ◌-ℤ◌}
use lib.ListN.{length, set}
use mir.Syntax.{w32}
use mir.Val.{SFits, to_z, of_z}
use mir.Facts.{to_z-of_z}
use Rattle.lists.specs.Cases.{by_leb}
use Rattle.lists.specs.TestLaws.{reflects_true}
use Rattle.lists.specs.Trusted.Checked.{passed, refused}
use Rattle.decimal.specs.Trusted.Number.{Number, columns}
use Rattle.decimal.specs.Trusted.Columns.{field_of, signed_field_of}
use Rattle.decimal.specs.Trusted.Reading.{number_of_int}
use Rattle.decimal.specs.Trusted.Writing as writing
use Rattle.decimal.specs.WritingLaws.{signed_written_at_lem}
use Rattle.decimal.proofs.SignLaws.{minus_bits, negated_fits}
use Rattle.std.specs.Prelude.{⊤, Result, Ok, Err}
use Rattle.decimal.specs.declared.TooWide.{TooWide}
use Rattle.part.specs.Trusted.Sound.{Sound}
use Rattle.part.specs.SoundLaws.{sound_reflects}
use Rattle.listing.specs.Trusted.Listing.{list_of}
use Rattle.part.specs.declared.Part.{Part}
use Rattle.list_line.specs.Trusted.Writes.{WriteOutcome, pasted}
use Rattle.listing.specs.Trusted.WriteAnswers.{result_of}
use Rattle.listing.specs.Lines.{turned_down, fitted, list_written}
use Rattle.list_line.specs.PasteLaws.{paste_one, paste_length, paste_next}
use Rattle.listing.proofs.LineLaws.{fitted_out, fitted_in, list_there}
use Rattle.listing.specs.declared.WriteError.{WriteError}
use Rattle.listing.specs.declared.WriteError.TheVariants.{NotSound, NoLine, NoRoom}
use Rattle.list_line.proofs.Written.{number_written}
use Rattle.printing.specs.Trusted.RefusalLine.{refusal_line}
use Rattle.printing.specs.Promises.{WrittenAs}
use Rattle.printing.specs.declared.NoRoom as printing_no_room

-- ---- the list

abbrev pub printed_of : Result ℕ WriteError → Result ℕ printing_no_room.NoRoom
printed_of (Ok n) = Ok n
printed_of (Err e) = Err _

only_14 : (old line : List ℕ) (number : ℕ) → refused number 0 ≡ (fitted old 0 line).result → number ≡ 14
only_14 old line number =
    by_leb (λ b. refused number 0 ≡ (cond b (record { result = passed (length line); bytes = pasted old 0 line }) (turned_down 14 old)).result → number ≡ 14)
    (0 + length line) (length old)
    (λ l e. let z : ◌≡◌ {A = ℕ} 0 1 = cc in absurd (omega arith))
    (λ l e. cc)

pub list_printed : (p : Part) → Sound p → (old new : List ℕ) (a : Result ℕ WriteError) → record { result = result_of a; bytes = new } ≡ list_written p old 0 →
    WrittenAs (list_of p) (printed_of a) new old
list_printed p s old new a e = of a (e ∙ list_there p old 0 (reflects_true (sound_reflects p) s))
  where
    of : (a : Result ℕ WriteError) → record { result = result_of a; bytes = new } ≡ fitted old 0 (list_of p) → WrittenAs (list_of p) (printed_of a) new old
    of (Ok n) i = i
    of (Err NotSound) i = absurd (omega (arith, only_14 old (list_of p) 20 (ap (λ (o : WriteOutcome). o.result) i)))
    of (Err NoLine) i = absurd (omega (arith, only_14 old (list_of p) 15 (ap (λ (o : WriteOutcome). o.result) i)))
    of (Err NoRoom) i = i

-- ---- the line of a refusal

abbrev pub minus : ℕ → Number
minus n = record { negative = true; magnitude = n }

-- a number of a byte, and minus it, at 32 bits
pub byte_fits : (n : ℕ) → n < 256 → SFits w32 (pos n)
byte_fits n h = record { sfits = omega arith }

pub minus_held : (n : ℕ) → n < 256 → SFits w32 (pos 0 -ℤ to_z w32 n)
minus_held n h = rw (minus_bits n (byte_fits n h)) (negated_fits n (byte_fits n h))

pub minus_number : (n : ℕ) → 0 < n → n < 256 → number_of_int (to_z w32 (of_z w32 (pos 0 -ℤ to_z w32 n))) ≡ minus n
minus_number zero s h = absurd (omega arith)
minus_number (suc n) s h = rw (minus_bits (suc n) (byte_fits (suc n) h)) (ap number_of_int (to_z-of_z (negated_fits (suc n) (byte_fits (suc n) h))))

module _ (old : List ℕ) (number sheet place : ℕ) where
  pub refusal_out : length old < 19 → turned_down 14 old ≡ fitted old 0 (refusal_line number sheet place)
  refusal_out l = sym (fitted_out old 0 {line = refusal_line number sheet place} refl (lt-leb 19 (length old) l))

  module _ (room : 19 ≤ length old) (some : 0 < number) (small : number < 256) (few : sheet < 65536) (low : place < 65536) where
    pub refusal_in : (a b d : List ℕ) {x y z : Result ⊤ TooWide} →
        record { answer = x; bytes = a } ≡ writing.signed_written_at old 0 6 (minus number) →
        record { answer = y; bytes = b } ≡ writing.field_written_at a 6 6 sheet →
        record { answer = z; bytes = d } ≡ writing.field_written_at b 12 6 place →
        record { result = passed 19; bytes = set d 18 10 } ≡ fitted old 0 (refusal_line number sheet place)
    refusal_in a b d e f g =
        let x = signed_field_of columns (minus number) in
        let y = field_of 6 sheet in
        let z = field_of 6 place in
        let ea : a ≡ pasted old 0 x =
        ap (λ (o : writing.FieldWrite). o.bytes) (e ∙ signed_written_at_lem old 0 6 (minus number) (omega arith) (omega arith)
        (record { size = omega arith; sign = λ _. (some, omega arith) })) in
        let la : length a ≡ length old = ap length ea ∙ paste_length old 0 x (omega arith) in
        let eb : b ≡ pasted old 0 (x ++ y) =
        paste_next old a b 0 6 x y ea refl (omega arith) (number_written a b 6 6 sheet (omega arith) (omega arith, omega arith) f) in
        let lb : length b ≡ length old = ap length eb ∙ paste_length old 0 (x ++ y) (omega arith) in
        let ed : d ≡ pasted old 0 ((x ++ y) ++ z) =
        paste_next old b d 0 12 (x ++ y) z eb refl (omega arith) (number_written b d 12 6 place (omega arith) (omega arith, omega arith) g) in
        let ld : length d ≡ length old = ap length ed ∙ paste_length old 0 ((x ++ y) ++ z) (omega arith) in
        let es : set d 18 10 ≡ pasted old 0 (refusal_line number sheet place) =
        paste_next old d (set d 18 10) 0 18 ((x ++ y) ++ z) (10 ∷ []) ed refl (omega arith) (paste_one d 18 10 (omega arith)) in
        ap (λ bs. record { result = passed 19; bytes = bs }) es
        ∙ sym (fitted_in old 0 {line = refusal_line number sheet place} refl (le-leb 19 (length old) room))
