-- What the code's answer stands for, and what its functions promise. Internal definitions.
use Rattle.std.specs.Prelude.{ℕ, ◌≡◌, List, Result, Ok, Err}
use Rattle.lists.specs.Trusted.Checked.{Checked, passed, refused}
use Rattle.listing.specs.Lines as lines
use Rattle.printing.specs.declared.NoRoom.{NoRoom}

abbrev pub printed_result : Result ℕ NoRoom → Checked ℕ
printed_result (Ok n) = passed n
printed_result (Err e) = refused 14 0

-- the line stands at the front of the buffer, or there is no room for it and no byte is altered
abbrev pub WrittenAs : List ℕ → Result ℕ NoRoom → List ℕ → List ℕ → Type 0
WrittenAs line r new old = record { result = printed_result r; bytes = new } ≡ lines.fitted old 0 line
