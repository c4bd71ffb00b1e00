-- Laws of what is printed after the opening line.
use Rattle.std.specs.Prelude.{ℕ, ◌≡◌, refl, Bool, true, false, cond, List, drop}
use Rattle.std.proofs.Common.{sym, ap, ◌∙◌, subst}
use Rattle.std.proofs.Math.Option.{Option, none, some}
use Rattle.decimal.specs.Trusted.Number.{Number}
use Rattle.part.specs.Trusted.Parts.{Shaped}
use Rattle.part.specs.Trusted.Sound.{Sound}
use Rattle.part.specs.Trusted.Ways.{fastest}
use Rattle.part.specs.Trusted.Answers.{Answer, accepted, refused}
use Rattle.part.specs.Trusted.Add.{opened}
use Rattle.part.proofs.OpenLaws.{opened_shaped, opened_sound, opened_empty}
use Rattle.part.proofs.AddLaws.{not_refused}
use Rattle.part.specs.declared.Part.{Part}
use Rattle.opening.specs.Trusted.Opening.{count}
use Rattle.opening.specs.Promises.{told}
use Rattle.fast_opening.specs.Trusted.FastOpening.{FastStart, fast_numbers, is_wanted, unopened, wanted_after, fast_opened_by}
use Rattle.fast_opening.specs.Promises.{fast_start}
use Rattle.fast_opening.specs.declared.FastOpening.{FastOpening}
use Rattle.printing.specs.Trusted.RefusalLine.{refusal_line}
use Rattle.sheets.specs.Trusted.Sheets.{SheetsPrint}
use Rattle.sheets.specs.SheetsLaws.{told_refused, told_accepted}
use Rattle.fast_program.specs.Trusted.FastProgram.{fast_list, FastAfter, FastPrints}

-- an accepted opening: the part is the one that K and the capacity open
wanted_opened : (a : Answer) (q : Part) (z : Number) → (wanted_after a q z).answer ≡ accepted → (a ≡ accepted) × ((wanted_after a q z).part ≡ q)
wanted_opened (refused number place) q z e = absurd (not_refused {a = refused number place} refl e)
wanted_opened accepted q z e = of (is_wanted z) e
  where
    of : (b : Bool) → (cond b (record { part = q; answer = accepted; wanted = z.magnitude }) (unopened 34)).answer ≡ accepted →
        (accepted ≡ accepted) × ((cond b (record { part = q; answer = accepted; wanted = z.magnitude }) (unopened 34)).part ≡ q)
    of true i = (refl, refl)
    of false i = absurd (not_refused {a = refused 34 0} refl i)

-- it is sound and holds no table
pub fast_opened_good : (o : Option (Number × Number × Number)) → (fast_opened_by o).answer ≡ accepted →
    Shaped (fast_opened_by o).part × Sound (fast_opened_by o).part × ((fast_opened_by o).part.used ≡ 0)
fast_opened_good none e = absurd (not_refused {a = refused 1 0} refl e)
fast_opened_good (some p) e =
    let k = count p.0 in
    let capacity = count p.1 in
    let (a, i) = wanted_opened (opened k capacity).answer (opened k capacity).part p.2 e in
    (subst Shaped (sym i) (opened_shaped k capacity), subst Sound (sym i) (opened_sound k capacity a), ap (λ (q : Part). q.used) (i ∙ opened_empty k capacity a))

module _ (input : List ℕ) (s : FastOpening) (e : fast_start s ≡ fast_opened_by (fast_numbers input)) where
  with_answer : {a : Answer} → told s.told ≡ a → record { part = s.part; answer = a; wanted = s.wanted } ≡ fast_opened_by (fast_numbers input)
  with_answer i = ap (λ (a : Answer). record { part = s.part; answer = a; wanted = s.wanted }) (sym i) ∙ e

  pub fast_refused : (s.told.number ≡ 0 → ⊥) → FastPrints input (refusal_line s.told.number 0 s.told.line)
  fast_refused d =
      subst (λ (r : FastStart). FastAfter r (drop 19 input) (refusal_line s.told.number 0 s.told.line)) (with_answer (told_refused s.told d)) refl

  module _ (z : s.told.number ≡ 0) where
    opened_so : record { part = s.part; answer = accepted; wanted = s.wanted } ≡ fast_opened_by (fast_numbers input)
    opened_so = with_answer (told_accepted s.told z)

    pub fast_accepted : (out : List ℕ) → SheetsPrint fastest (fast_list s.wanted) s.part 0 (drop 19 input) out → FastPrints input out
    fast_accepted out m = subst (λ (r : FastStart). FastAfter r (drop 19 input) out) opened_so m

    pub fast_opened : Sound s.part × (s.part.used ≡ 0)
    fast_opened =
        let (_, h, n) = fast_opened_good (fast_numbers input) (ap (λ (r : FastStart). r.answer) (sym opened_so)) in
        (subst Sound (ap (λ (r : FastStart). r.part) (sym opened_so)) h, ap (λ (r : FastStart). r.part.used) opened_so ∙ n)
