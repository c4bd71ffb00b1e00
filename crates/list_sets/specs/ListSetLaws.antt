-- What the functions hand over keeps the promise: of a list, of a call on its part, and of the list that is written.
use Rattle.std.specs.Prelude.{ℕ, ◌+◌, ◌≡◌, refl, ◌≢◌, List, length, Result, Ok, Err}
use Rattle.std.proofs.Common.{arith, sym, ap, ◌∙◌, subst, le-leb}
use Rattle.std.proofs.lemmas.Bool.{lt-leb}
use Rattle.lists.specs.Cases.{by_leb}
use Rattle.lists.specs.Trusted.Checked.{Checked, passed, refused as unread}
use Rattle.lists.specs.Trusted.Tests.{either}
use Rattle.part_records.specs.declared.Reservation.{Reservation}
use Rattle.part.specs.Trusted.Parts.{with_reservation, Shaped}
use Rattle.part.specs.Trusted.Sound.{Sound}
use Rattle.part.specs.Trusted.Answers.{Answer, accepted, refused}
use Rattle.part.specs.Trusted.Tries.{CallResult}
use Rattle.part.specs.Trusted.Sets.{AddSet}
use Rattle.part.proofs.AddLaws.{not_refused}
use Rattle.part.proofs.SetLaws.{SetCase, unsound_part, unfit, in_turn, set_case, set_kept}
use Rattle.part.specs.declared.Part.{Part}
use Rattle.list_line.specs.Trusted.Writes.{WriteOutcome, pasted}
use Rattle.listing.specs.Lines.{turned_down}
use Rattle.listing.proofs.LineLaws.{fitted_out, fitted_in}
use Rattle.list_reading.specs.Trusted.ReadList.{read_list, read_result}
use Rattle.list_reading.specs.Trusted.ListAnswers.{list_answer, list_result}
use Rattle.list_reading.specs.ReadLaws.{read_shaped}
use Rattle.list_reading.specs.declared.ListRead.{ListRead}
use Rattle.list_numbers.specs.Answered.{answer_code}
use Rattle.list_numbers.specs.NumbersLaws.{code_accepted}
use Rattle.printing.specs.Promises.{printed_result, WrittenAs}
use Rattle.printing.specs.declared.NoRoom.{NoRoom}
use Rattle.list_sets.specs.Trusted.ListSets.{set_code, Unwritten, PutInFront, AfterCall, AfterList}
use Rattle.list_sets.specs.Told.{ReadBeside, told_of, PutOutcome}

-- ---- the list

pub read_beside : (r : ListRead) (c : Checked Part) → list_result r ≡ read_result c → (reservation : Reservation) →
    ReadBeside c reservation (with_reservation r.part reservation) (answer_code (list_answer r.answer))
read_beside r (passed p) e reservation = (ap (λ o. with_reservation o.part reservation) e, ap (λ o. answer_code o.answer) e)
read_beside r (unread number line) e reservation =
    (omega (arith, ap (λ o. answer_code o.answer) e), λ z. not_refused (ap (λ o. o.answer) e) (code_accepted r.answer z))

module _ (reservation : Reservation) (q : Part) (read : ℕ) where
  -- a code that is not 0 is that of the list's refusal
  pub by_unread : (P : Checked Part → Type 0) (c : Checked Part) → ReadBeside c reservation q read → read ≢ 0 →
      ((number line : ℕ) → read ≡ set_code 0 number line → P (unread number line)) → P c
  by_unread P (passed p) b d f = absurd (d b.1)
  by_unread P (unread number line) b d f = f number line b.0

  -- with the code 0 there is a part
  pub by_passed : (P : Checked Part → Type 0) (c : Checked Part) → ReadBeside c reservation q read → read ≡ 0 →
      ((p : Part) → q ≡ with_reservation p reservation → P (passed p)) → P c
  by_passed P (passed p) b z f = f p b.0
  by_passed P (unread number line) b z f = absurd (b.1 z)

  module _ (Gives : Part → CallResult → Type 0) (c : Checked Part) (h : ReadBeside c reservation q read) (old : List ℕ) where
    pub list_unread : read ≢ 0 → AfterList Gives c reservation old read old
    list_unread d = by_unread (λ c. AfterList Gives c reservation old read old) c h d (λ number line e. (e, refl))

    pub list_passed : read ≡ 0 → (x : CallResult) → Gives q x → (code : ℕ) (bytes : List ℕ) → AfterCall x old code bytes →
        AfterList Gives c reservation old code bytes
    list_passed z x g code bytes a = by_passed (λ c. AfterList Gives c reservation old code bytes) c h z (λ p e. (x, subst (λ q. Gives q x) e g, a))

  -- the part of a list has its shape
  pub beside_shaped : (list : List ℕ) → ReadBeside (read_list list) reservation q read → read ≡ 0 → Shaped q
  beside_shaped list h z = by_passed (λ c. read_list list ≡ c → Shaped q) (read_list list) h z of refl
    where
      of : (p : Part) → q ≡ with_reservation p reservation → read_list list ≡ passed p → Shaped q
      of p e i = let s = read_shaped list i in subst Shaped (sym e) (record { records = s.records; inputs = s.inputs })

-- ---- the call

-- an outcome that is accepted is told of an accepted answer
pub told_of_accepted : (t : Result (Unit {0}) ℕ) (position : ℕ) (a : Answer) → t ≡ told_of position a → t ≡ Ok tt → a ≡ accepted
told_of_accepted t position accepted e h = refl
told_of_accepted t position (refused number place) e h = let z : ◌≡◌ {A = ℕ} 0 1 = cc in absurd (omega arith)

pub after_call : (r : CallResult) (t : Result (Unit {0}) ℕ) → t ≡ told_of r.position r.answer → (old : List ℕ) (code : ℕ) (bytes : List ℕ) →
    PutOutcome t r.part old code bytes → AfterCall r old code bytes
after_call r t e old code bytes h = of r.answer e
  where
    of : (a : Answer) → t ≡ told_of r.position a → AfterCall (record { part = r.part; answer = a; position = r.position; tries = r.tries }) old code bytes
    of accepted i = subst (λ t. PutOutcome t r.part old code bytes) i h
    of (refused number place) i = subst (λ t. PutOutcome t r.part old code bytes) i h

-- an accepted set leaves a sound part, since it got one
pub added_sound : (p : Part) → Shaped p → (lengths text : List ℕ) (r : CallResult) → AddSet p lengths text r → r.answer ≡ accepted → Sound r.part
added_sound p shape lengths text r a e = (set_kept p shape lengths text r a).sound (of (set_case p lengths text r a))
  where
    of : SetCase p lengths text r → Sound p
    of (unsound_part n i) = absurd (not_refused (ap (λ c. c.answer) i) e)
    of (unfit s n i) = s
    of (in_turn s w t) = s

-- ---- the new list

-- the code of what is printed
abbrev pub printed_code : Result ℕ NoRoom → ℕ
printed_code (Ok n) = n
printed_code (Err x) = set_code 0 14 0

module _ (list new old : List ℕ) where
  abbrev outcome : Result ℕ NoRoom → WriteOutcome
  outcome p = record { result = printed_result p; bytes = new }

  wrote : (p : Result ℕ NoRoom) → outcome p ≡ record { result = passed (length list); bytes = pasted old 0 list } → (printed_code p ≡ length list) × (new ≡ pasted old 0 list)
  wrote (Ok n) e = let w : passed n ≡ passed (length list) = ap (λ o. o.result) e in (cc, ap (λ o. o.bytes) e)
  wrote (Err x) e = let w : unread 14 0 ≡ passed (length list) = ap (λ o. o.result) e in let z : ◌≡◌ {A = ℕ} 0 1 = cc in absurd (omega arith)

  short : (p : Result ℕ NoRoom) → outcome p ≡ turned_down 14 old → Unwritten 0 14 0 old (printed_code p) new
  short (Ok n) e = let w : passed n ≡ unread 14 0 = ap (λ o. o.result) e in let z : ◌≡◌ {A = ℕ} 0 1 = cc in absurd (omega arith)
  short (Err x) e = (refl, ap (λ o. o.bytes) e)

  pub put_in_front : (p : Result ℕ NoRoom) → WrittenAs list p new old → PutInFront list old (printed_code p) new
  put_in_front p e =
      by_leb (λ b. either b ((printed_code p ≡ length list) × (new ≡ pasted old 0 list)) (Unwritten 0 14 0 old (printed_code p) new)) (length list) (length old)
      (λ l. wrote p (e ∙ fitted_in old 0 {line = list} refl (le-leb (0 + length list) (length old) (omega arith))))
      (λ l. short p (e ∙ fitted_out old 0 {line = list} refl (lt-leb (0 + length list) (length old) (omega arith))))
