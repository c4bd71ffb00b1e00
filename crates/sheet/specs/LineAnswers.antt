-- Laws of what was read of a line, or refused there.
use Rattle.std.specs.Prelude.{ℕ, ◌≡◌, refl, Result, Ok, Err}
use Rattle.sheet.specs.declared.Refusal.{Refusal}
use Rattle.sheet.specs.declared.SheetError.{SheetError}
use Rattle.sheet.specs.Trusted.Answers.{on_line}

module _ {A : Type 0} (line : ℕ) where
  pub read_on_line : (r : Result A Refusal) {s : Result A SheetError} {a : A} → s ≡ on_line line r → s ≡ Ok a → r ≡ Ok a
  read_on_line (Ok b) e f = cc
  read_on_line (Err why) e f = cc

  pub refused_on_line : (r : Result A Refusal) {s : Result A SheetError} {e : SheetError} → s ≡ on_line line r → s ≡ Err e →
      (why : Refusal) × (r ≡ Err why) × (e ≡ record { why = why; line = line })
  refused_on_line (Ok b) e f = cc
  refused_on_line (Err why) e f = (why, refl, cc)
