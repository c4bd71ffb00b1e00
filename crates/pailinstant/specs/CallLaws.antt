-- A program's answer as the library gives it.
use Rattle.std.specs.Prelude.{ℕ, ◌≤◌, ◌≡◌, refl, List, length, Result, Ok, Err}
use Rattle.printing.specs.declared.NoRoom.{NoRoom}
use Rattle.program.specs.Promises.{AnsweredBy, AtFrontBy}
use Rattle.program.specs.AnsweredLaws.{answered_front, answered_whole}
use Rattle.pailinstant.specs.Calls.{printed_bytes, PrintedBy}

module _ {P : List ℕ → List ℕ → Type 0} (most : ℕ) (short : (input out : List ℕ) → P input out → length out ≤ most) {input new old : List ℕ} where
  all_there : (r : Result ℕ NoRoom) → AnsweredBy P input r new old → most ≤ length old → AtFrontBy P input (printed_bytes r) new old
  all_there (Ok n) h l = answered_front most short l h refl
  all_there (Err x) h l = absurd (answered_whole most short l h refl)

  pub printed_by_lem : {r : Result ℕ NoRoom} {n : ℕ} → AnsweredBy P input r new old → n ≡ printed_bytes r → PrintedBy P most input n new old
  printed_by_lem {r} h e = record { outcome = r; answered = h; count = e; whole = λ l. rw e (all_there r h l) }
