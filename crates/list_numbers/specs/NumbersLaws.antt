-- How many numbers a part has, one table after the other; and that what is handed back of a reading says what came of it.
use Rattle.std.specs.Prelude.{ℕ, ◌+◌, ◌*◌, ◌≤◌, ◌<◌, ◌≡◌, refl, ◌≢◌, List, [], ◌∷◌, ◌++◌, length, get_or, take}
use Rattle.std.proofs.Common.{zero-add, add-one, arith, ap, ◌∙◌, append-nil, length-append, take-suc, length-take-le, le-leb}
use Rattle.std.proofs.lemmas.Bool.{lt-leb}
use Rattle.lists.specs.Trusted.Lists.{Every, gather}
use Rattle.lists.specs.ListLaws.{every_head, every_tail, every_take, gather_append}
use Rattle.lists.specs.Trusted.Checked.{Checked, passed, refused}
use Rattle.table.specs.declared.Table.{Table}
use Rattle.table.specs.Trusted.Limits.{input_room}
use Rattle.table.specs.Trusted.Records.{blank}
use Rattle.part.specs.Trusted.Parts.{Shaped}
use Rattle.part.specs.Trusted.Answers.{Answer, accepted, refused as turned_away}
use Rattle.part.specs.declared.Part.{Part}
use Rattle.list_line.specs.Trusted.Writes.{pasted}
use Rattle.list_reading.specs.declared.ListAnswer.{ListAnswer}
use Rattle.list_reading.specs.declared.ListAnswer.TheVariants.{Accepted, KOutOfRange, CapacityOutOfRange, NotLaidOut, RuleBroken}
use Rattle.list_reading.specs.Trusted.ListAnswers.{list_answer}
use Rattle.list_reading.specs.Trusted.ReadList.{read_list, read_result}
use Rattle.list_reading.specs.ReadLaws.{list_exactly, read_shaped}
use Rattle.list_numbers.specs.Trusted.Numbers.{record_numbers, part_numbers, refusal_code, list_code, numbers_read}
use Rattle.list_numbers.specs.Answered.{came_of, answer_code}

-- ---- the numbers of the tables

records_length : (rs : List Table) → Every (λ r. length r.inputs ≡ input_room) rs → length (gather record_numbers rs) ≡ 10 * length rs
records_length [] h = refl
records_length (r ∷ rs) h =
    omega (arith, length-append (record_numbers r) (gather record_numbers rs), length-append r.inputs (r.truth ∷ r.level ∷ []), every_head h, records_length rs (every_tail h))

module _ (p : Part) (s : Shaped p) where
  -- the numbers of the first n tables
  pub tables_numbers : (n : ℕ) → n ≤ 800 → length (gather record_numbers (take n p.tables)) ≡ 10 * n
  tables_numbers n h =
      records_length (take n p.tables) (every_take n p.tables s.inputs) ∙ ap (λ m. 10 * m) (length-take-le n p.tables (omega (arith, s.records)))

  pub part_numbers_lem : p.used ≤ 800 → length (part_numbers p) ≡ 3 + 10 * p.used
  part_numbers_lem h = omega (arith, tables_numbers p.used h)

-- one table more
pub numbers_next : (rs : List Table) (t : ℕ) → t < length rs →
    gather record_numbers (take (t + 1) rs) ≡ gather record_numbers (take t rs) ++ record_numbers (get_or rs t blank)
numbers_next rs t h =
    ap (λ n. gather record_numbers (take n rs)) (add-one t) ∙ ap (gather record_numbers) (take-suc rs t blank h)
    ∙ gather_append record_numbers (take t rs) (get_or rs t blank ∷ []) ∙ ap (λ l. gather record_numbers (take t rs) ++ l) (append-nil (record_numbers (get_or rs t blank)))

-- ---- the outcomes, by the tests that lead to them

module _ (p : Part) (old : List ℕ) where
  pub handed_room : {new : List ℕ} → length (part_numbers p) ≤ length old → new ≡ pasted old 0 (part_numbers p) → record { code = 0; numbers = new } ≡ numbers_read (passed p) old
  handed_room h e = rw (le-leb (length (part_numbers p)) (length old) h) (ap (λ b. record { code = 0; numbers = b }) (e ∙ rw zero-add))

  pub handed_short : length old < length (part_numbers p) → numbers_read (passed p) old ≡ record { code = refusal_code 14 0; numbers = old }
  handed_short h = rw (lt-leb (length (part_numbers p)) (length old) h)

  -- a code that is not 0 is a refusal's
  pub code_refused : (a : Answer) → answer_code a ≢ 0 → numbers_read (came_of p a) old ≡ record { code = answer_code a; numbers = old }
  code_refused accepted n = absurd (n refl)
  code_refused (turned_away number line) n = refl

-- the code 0 is that of no refusal
pub code_accepted : (a : ListAnswer) → answer_code (list_answer a) ≡ 0 → list_answer a ≡ accepted
code_accepted Accepted e = refl
code_accepted KOutOfRange e = absurd (omega (arith, e))
code_accepted CapacityOutOfRange e = absurd (omega (arith, e))
code_accepted (NotLaidOut line) e = absurd (omega (arith, e))
code_accepted (RuleBroken line) e = absurd (omega (arith, e))

-- ---- what a reading hands back

pub result_came : (c : Checked Part) → came_of (read_result c).part (read_result c).answer ≡ c
result_came (passed p) = refl
result_came (refused number line) = refl

pub result_code : (c : Checked Part) → answer_code (read_result c).answer ≡ list_code c
result_code (passed p) = refl
result_code (refused number line) = refl

-- a part that is read has its shape and at most 800 tables in use
read_room : (text : List ℕ) (p : Part) → read_list text ≡ passed p → Shaped p × (p.used ≤ 800)
read_room text p e =
    let f = read_shaped text e in
    let s = ((list_exactly text p f).0 e).0 in
    (f, omega (arith, s.used_fits, s.capacity_range.1))

used_at_most : (c : Checked Part) → ((p : Part) → c ≡ passed p → Shaped p × (p.used ≤ 800)) → (read_result c).part.used ≤ 800
used_at_most (passed p) h = (h p refl).1
used_at_most (refused number line) h = omega arith

pub read_used : (text : List ℕ) → (read_result (read_list text)).part.used ≤ 800
read_used text = used_at_most (read_list text) (read_room text)

room_told : (c : Checked Part) → ((p : Part) → c ≡ passed p → Shaped p × (p.used ≤ 800)) → (old : List ℕ) → 8003 ≤ length old → (numbers_read c old).code ≡ list_code c
room_told (passed p) h old l =
    let s = h p refl in
    let fits : length (part_numbers p) ≤ length old = omega (arith, part_numbers_lem p s.0 s.1, s.1) in
    rw (le-leb (length (part_numbers p)) (length old) fits)
room_told (refused number line) h old l = refl

-- 8003 NUMBERS ARE ALWAYS ENOUGH: there is no 14
pub always_room : (text old : List ℕ) → 8003 ≤ length old → (numbers_read (read_list text) old).code ≡ list_code (read_list text)
always_room text = room_told (read_list text) (read_room text)
