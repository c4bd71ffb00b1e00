-- Laws of what is printed after the opening line.
use Rattle.std.specs.Prelude.{ℕ, ◌≡◌, refl, List, drop}
use Rattle.std.proofs.Common.{sym, ap, ◌∙◌, subst}
use Rattle.std.proofs.Math.Option.{Option, none, some}
use Rattle.decimal.specs.Trusted.Number.{Number}
use Rattle.part.specs.Trusted.Parts.{Shaped}
use Rattle.part.specs.Trusted.Sound.{Sound}
use Rattle.part.specs.Trusted.Ways.{least}
use Rattle.part.specs.Trusted.Answers.{Answer, accepted, refused, Result}
use Rattle.part.proofs.OpenLaws.{opened_shaped, opened_sound, opened_empty}
use Rattle.part.proofs.AddLaws.{not_refused}
use Rattle.listing.specs.Trusted.Listing.{list_of}
use Rattle.opening.specs.Trusted.Opening.{opening_numbers, count, opened_by}
use Rattle.opening.specs.Promises.{told, start_result}
use Rattle.opening.specs.declared.Start.{Start}
use Rattle.printing.specs.Trusted.RefusalLine.{refusal_line}
use Rattle.sheets.specs.Trusted.Sheets.{SheetsPrint}
use Rattle.sheets.specs.SheetsLaws.{told_refused, told_accepted}
use Rattle.program.specs.Trusted.Program.{After, Prints}

-- an accepted opening
pub opened_good : (o : Option (Number × Number)) → (opened_by o).answer ≡ accepted → Shaped (opened_by o).part × Sound (opened_by o).part
opened_good none e = absurd (not_refused {a = refused 1 0} refl e)
opened_good (some p) e = (opened_shaped (count p.0) (count p.1), opened_sound (count p.0) (count p.1) e)

-- its part holds no table
opened_none : (o : Option (Number × Number)) → (opened_by o).answer ≡ accepted → (opened_by o).part.used ≡ 0
opened_none none e = refl
opened_none (some p) e = ap (λ q. q.used) (opened_empty (count p.0) (count p.1) e)

module _ (input : List ℕ) (s : Start) (e : start_result s ≡ opened_by (opening_numbers input)) where
  with_answer : {a : Answer} → told s.told ≡ a → record { part = s.part; answer = a } ≡ opened_by (opening_numbers input)
  with_answer i = ap (λ (a : Answer). record { part = s.part; answer = a }) (sym i) ∙ e

  pub opening_refused : (s.told.number ≡ 0 → ⊥) → Prints input (refusal_line s.told.number 0 s.told.line)
  opening_refused d =
      subst (λ (r : Result). After r (drop 13 input) (refusal_line s.told.number 0 s.told.line)) (with_answer (told_refused s.told d)) refl

  pub opening_accepted : s.told.number ≡ 0 → (out : List ℕ) → SheetsPrint least list_of s.part 0 (drop 13 input) out → Prints input out
  opening_accepted z out m = subst (λ (r : Result). After r (drop 13 input) out) (with_answer (told_accepted s.told z)) m

  pub opening_sound : s.told.number ≡ 0 → Sound s.part
  opening_sound z =
      let i = with_answer (told_accepted s.told z) in
      subst Sound (ap (λ (r : Result). r.part) (sym i)) (opened_good (opening_numbers input) (ap (λ (r : Result). r.answer) (sym i))).1

  pub opening_none : s.told.number ≡ 0 → s.part.used ≡ 0
  opening_none z =
      let i = with_answer (told_accepted s.told z) in
      ap (λ (r : Result). r.part.used) i ∙ opened_none (opening_numbers input) (ap (λ (r : Result). r.answer) (sym i))
