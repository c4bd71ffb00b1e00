-- What the program prints is decided by the first `front_bytes` bytes of its input: the opening line, and as many bytes of sheets as
-- `sheets_front` of sheets/specs/SheetsBounds asks for.
use Rattle.std.specs.Prelude.{ℕ, ◌+◌, ◌≤◌, ◌≡◌, refl, List, ◌++◌, length, take, drop}
use Rattle.std.proofs.Common.{arith, subst, length-drop, take-append-drop, take_all, length-take-le}
use Rattle.std.proofs.Math.ListN.{get_or-append}
use Rattle.std.proofs.lemmas.List.{take-append-le, drop-append-le}
use Rattle.lists.specs.Cases.{by_leb}
use Rattle.decimal.specs.Trusted.Number.{columns}
use Rattle.part.specs.Trusted.Parts.{Shaped}
use Rattle.part.specs.Trusted.Sound.{Sound}
use Rattle.part.specs.Trusted.Answers.{Answer, accepted, refused}
use Rattle.part.specs.declared.Part.{Part}
use Rattle.opening.specs.Trusted.Opening.{opening_numbers, opened_by}
use Rattle.program.specs.Trusted.Program.{After, Prints}
use Rattle.sheets.specs.SheetsBounds.{sheets_enough, sheets_front}
use Rattle.program.specs.ProgramLaws.{opened_good}
use Rattle.program_laws.specs.Front.{front_bytes}

-- ---- the opening line

module _ (more : List ℕ) where
  opening_front : (text : List ℕ) → 13 ≤ length text → opening_numbers (text ++ more) ≡ opening_numbers text
  opening_front text l =
      let d : drop columns (text ++ more) ≡ drop columns text ++ more = drop-append-le columns text more (omega arith) in
      rw (get_or-append text more 0 12 (omega arith), take-append-le columns text more (omega arith), d, take-append-le columns (drop columns text) more (omega (arith, length-drop columns text)))

  after_front : (p : Part) (a : Answer) → (a ≡ accepted → Shaped p × Sound p) → (text out : List ℕ) → sheets_enough ≤ length text →
      After (record { part = p; answer = a }) text out → After (record { part = p; answer = a }) (text ++ more) out
  after_front p accepted h text out l m = let g = h refl in sheets_front more g.0 g.1 (omega arith) m
  after_front p (refused number place) h text out l m = m

-- ---- the whole input

-- the opening line, all tables of a part, and the sheet after them
front_enough : 13 + sheets_enough ≤ front_bytes
unfolding front_bytes
front_enough = omega arith

-- THE FIRST BYTES OF AN INPUT DECIDE WHAT IS PRINTED FOR IT
pub front_decides : (input out : List ℕ) → Prints (take front_bytes input) out → Prints input out
front_decides input out h =
    by_leb (λ b. Prints input out) (length input) front_bytes
    (λ l. subst (λ t. Prints t out) (take_all front_bytes input l) h)
    (λ l. subst (λ t. Prints t out) (take-append-drop front_bytes input) (on (take front_bytes input) (drop front_bytes input) (length-take-le front_bytes input (omega arith)) h))
  where
    on : (text more : List ℕ) → length text ≡ front_bytes → Prints text out → Prints (text ++ more) out
    on text more l h =
        rw (opening_front more text (omega (arith, front_enough)), drop-append-le 13 text more (omega (arith, front_enough)))
        (let r = opened_by (opening_numbers text) in
        after_front more r.part r.answer (opened_good (opening_numbers text)) (drop 13 text) out (omega (arith, front_enough, length-drop 13 text)) h)
