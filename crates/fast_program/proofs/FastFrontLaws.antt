-- What the program prints is decided by the first `front_bytes` bytes of its input: the opening line, and as many bytes of sheets as
-- `sheets_front` of sheets/specs/SheetsBounds asks for.
use Rattle.std.specs.Prelude.{ℕ, ◌+◌, ◌≤◌, ◌≡◌, refl, List, ◌++◌, length, take, drop}
use Rattle.std.proofs.Common.{arith, subst, length-drop, take-append-drop, take_all, length-take-le}
use Rattle.std.proofs.Math.ListN.{get_or-append}
use Rattle.std.proofs.lemmas.List.{take-append-le, drop-append-le}
use Rattle.lists.specs.Cases.{by_leb}
use Rattle.decimal.specs.Trusted.Number.{columns}
use Rattle.part.specs.Trusted.Parts.{Shaped}
use Rattle.part.specs.Trusted.Sound.{Sound}
use Rattle.part.specs.Trusted.Answers.{Answer, accepted, refused}
use Rattle.part.specs.declared.Part.{Part}
use Rattle.fast_opening.specs.Trusted.FastOpening.{fast_numbers, fast_opened_by}
use Rattle.sheets.specs.SheetsBounds.{sheets_enough, sheets_front}
use Rattle.program_laws.specs.Front.{front_bytes}
use Rattle.fast_program.specs.Trusted.FastProgram.{FastAfter, FastPrints}
use Rattle.fast_program.proofs.FastProgramLaws.{fast_opened_good}

-- ---- the opening line

module _ (more : List ℕ) where
  opening_front : (text : List ℕ) → 19 ≤ length text → fast_numbers (text ++ more) ≡ fast_numbers text
  opening_front text l =
      let d : drop 6 (text ++ more) ≡ drop 6 text ++ more = drop-append-le 6 text more (omega arith) in
      let e : drop 12 (text ++ more) ≡ drop 12 text ++ more = drop-append-le 12 text more (omega arith) in
      rw (
        get_or-append text more 0 18 (omega arith),
        take-append-le columns text more (omega arith),
        d,
        take-append-le columns (drop 6 text) more (omega (arith, length-drop 6 text)),
        e,
        take-append-le columns (drop 12 text) more (omega (arith, length-drop 12 text)),
      )

  after_front : (p : Part) (a : Answer) (wanted : ℕ) → (a ≡ accepted → Shaped p × Sound p × (p.used ≡ 0)) → (text out : List ℕ) → sheets_enough ≤ length text →
      FastAfter (record { part = p; answer = a; wanted = wanted }) text out → FastAfter (record { part = p; answer = a; wanted = wanted }) (text ++ more) out
  after_front p accepted wanted h text out l m = let g = h refl in sheets_front more g.0 g.1 (omega arith) m
  after_front p (refused number place) wanted h text out l m = m

-- ---- the whole input

-- the opening line, all tables of a part, and the sheet after them
front_enough : 19 + sheets_enough ≤ front_bytes
unfolding front_bytes
front_enough = omega arith

-- THE FIRST BYTES OF AN INPUT DECIDE WHAT IS PRINTED FOR IT
pub fast_front_decides : (input out : List ℕ) → FastPrints (take front_bytes input) out → FastPrints input out
fast_front_decides input out h =
    by_leb (λ b. FastPrints input out) (length input) front_bytes
    (λ l. subst (λ t. FastPrints t out) (take_all front_bytes input l) h)
    (λ l. subst (λ t. FastPrints t out) (take-append-drop front_bytes input) (on (take front_bytes input) (drop front_bytes input) (length-take-le front_bytes input (omega arith)) h))
  where
    on : (text more : List ℕ) → length text ≡ front_bytes → FastPrints text out → FastPrints (text ++ more) out
    on text more l h =
        rw (opening_front more text (omega (arith, front_enough)), drop-append-le 19 text more (omega (arith, front_enough)))
        (let r = fast_opened_by (fast_numbers text) in
        after_front more r.part r.answer r.wanted (fast_opened_good (fast_numbers text)) (drop 19 text) out (omega (arith, front_enough, length-drop 19 text)) h)
