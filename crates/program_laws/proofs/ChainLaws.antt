-- What the program prints is a list of adds, of all sheets of the input up to the first refusal: demands 2 and 3 hold of it.
use Rattle.std.specs.Prelude.{ℕ, ◌<◌, ◌≡◌, refl, List, [], ◌∷◌, length, drop}
use Rattle.std.proofs.Common.{arith, subst}
use Rattle.std.proofs.Math.Option.{some}
use Rattle.decimal.specs.Trusted.Number.{Number}
use Rattle.sheet.specs.Trusted.Cut.{sheet_text}
use Rattle.part.specs.Trusted.Ways.{least}
use Rattle.part.specs.Trusted.Answers.{accepted, refused}
use Rattle.part.specs.Trusted.Tries.{CallResult}
use Rattle.part.specs.Trusted.Add.{opened}
use Rattle.part.proofs.OpenLaws.{opened_shaped}
use Rattle.demands.specs.Trusted.Calls.{Call, add, one_sheet, Chain, done, call}
use Rattle.demands.proofs.Theorems.{demand_2, demand_3}
use Rattle.part.specs.declared.Part.{Part}
use Rattle.listing.specs.Trusted.Listing.{list_of}
use Rattle.opening.specs.Trusted.Opening.{opening_numbers, count, opened_by}
use Rattle.printing.specs.Trusted.RefusalLine.{refusal_line}
use Rattle.sheets.specs.Trusted.Sheets.{SheetsPrint, ended, stopped, added}
use Rattle.program.specs.Trusted.Program.{After, Prints}
use Rattle.program_laws.specs.Trusted.Runs.{Texts, end, stop, next, printed_by, Run}

-- a text that is not empty has a call
pub texts_some : {text : List ℕ} {cs : List Call} {rs : List CallResult} → Texts text cs rs → 0 < length text → 0 < length cs
texts_some end h = absurd (omega arith)
texts_some (stop number place l e) h = omega arith
texts_some (next l e t) h = omega arith

-- the calls, their results, and what these print
mapped_calls : {p : Part} {n : ℕ} {text out : List ℕ} → SheetsPrint least list_of p n text out →
    (cs : List Call) × (rs : List CallResult) × Chain p cs rs × Texts text cs rs × (out ≡ printed_by p n rs)
mapped_calls ended = ([], [], done, end, refl)
mapped_calls {p} {text = text} (stopped q number place l a) =
    let s = (sheet_text text).0 in
    (_, one_sheet least s p q (refused number place) ∷ [], call {c = add least s} (a, refl) done, stop number place l refl, refl)
mapped_calls {p} {text = text} (added q l a m) =
    let s = (sheet_text text).0 in
    let r = mapped_calls m in
    (_, one_sheet least s p q accepted ∷ r.1, call {c = add least s} (a, refl) r.2, next l refl r.3, r.4)

pub mapped_run : (k capacity : ℕ) (text out : List ℕ) → (opened k capacity).answer ≡ accepted → SheetsPrint least list_of (opened k capacity).part 0 text out →
    Run k capacity text out
mapped_run k capacity text out a m =
    let c = mapped_calls m in
    record {
      calls = c.0;
      results = c.1;
      chain = c.2;
      texts = c.3;
      printed = c.4;
      counted = demand_3 _ (opened_shaped k capacity) c.0 c.1 c.2;
      served = demand_2 k capacity a c.0 c.1 c.2;
    }

pub prints_run : (input out : List ℕ) (x y : Number) → opening_numbers input ≡ some (x, y) → (opened (count x) (count y)).answer ≡ accepted → Prints input out →
    Run (count x) (count y) (drop 13 input) out
prints_run input out x y e a h =
    let k = count x in
    let capacity = count y in
    let g : After (opened k capacity) (drop 13 input) out = subst (λ o. After (opened_by o) (drop 13 input) out) e h in
    mapped_run k capacity (drop 13 input) out a
    (subst (λ b. elim b as (λ z. Type 0) [ accepted ↦ SheetsPrint least list_of (opened k capacity).part 0 (drop 13 input) out | refused number place ↦ out ≡ refusal_line number 0 place ]) a g)
