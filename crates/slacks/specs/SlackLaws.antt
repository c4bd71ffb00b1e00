-- The lines of slacks one after the other, how long they are, and a slack by its sign.
use Rattle.std.specs.Prelude.{ℕ, zero, suc, ◌+◌, ◌-◌, ◌*◌, ◌≤◌, ◌<◌, ◌≡◌, refl, Bool, true, false, cond, List, [], ◌∷◌, ◌++◌, eqb, length, get_or, take}
use Rattle.std.proofs.Common.{add-one, arith, sym, ap, ◌∙◌, append-nil, eq-eqb, ne_eqb, length-append, take-suc}
use Rattle.lists.specs.Cases.{by_leb}
use Rattle.lists.specs.ListLaws.{gather_append}
use Rattle.lists.specs.Trusted.Lists.{gather}
use Rattle.decimal.specs.Trusted.Number.{Number, columns}
use Rattle.decimal.specs.Inside.{Within}
use Rattle.table.specs.declared.Table.{Table}
use Rattle.table.specs.Trusted.Limits.{table_room}
use Rattle.part.specs.declared.Part.{Part}
use Rattle.list_line.specs.Trusted.Writes.{pasted}
use Rattle.slacks.specs.Trusted.Slack.{slack_of, slack_line, drivers, slack_lines}
use Rattle.slacks.specs.SlackText.{slack_text, driver_line}

-- ---- the slack

abbrev pub above_zero : ℕ → Number
above_zero n = record { negative = false; magnitude = n }

abbrev pub below_zero : ℕ → Number
below_zero n = record { negative = true; magnitude = n }

-- a field has room for the slack of levels of 16 bits
pub slack_within : (wanted level : ℕ) → wanted < 65536 → level < 65536 → Within columns (slack_of wanted level)
slack_within wanted level h k =
    by_leb (λ b. Within columns (cond b (above_zero (wanted - level)) (below_zero (level - wanted)))) level wanted
    (λ l. record { size = omega arith; sign = λ e. let no : ◌≡◌ {A = ℕ} 0 1 = cc in absurd (omega arith) })
    (λ l. record { size = omega arith; sign = λ e. (omega arith, omega arith) })

-- ---- one record more

abbrev one : Table → List Table
one r = cond (eqb r.net 0) [] (r ∷ [])

abbrev line_of_record : ℕ → Table → List ℕ
line_of_record wanted r = slack_line wanted r.net r.level

module _ (rs : List Table) (t : ℕ) (z : Table) (h : t < length rs) where
  pub drivers_next : drivers (take (t + 1) rs) ≡ drivers (take t rs) ++ cond (eqb (get_or rs t z).net 0) [] (get_or rs t z ∷ [])
  drivers_next =
      ap (λ n. drivers (take n rs)) (add-one t) ∙ ap drivers (take-suc rs t z h)
      ∙ gather_append one (take t rs) (get_or rs t z ∷ []) ∙ ap (λ l. drivers (take t rs) ++ l) (append-nil (one (get_or rs t z)))

  pub one_driver : ((get_or rs t z).net ≡ 0 → ⊥) → length (drivers (take (t + 1) rs)) ≡ length (drivers (take t rs)) + 1
  one_driver d =
      ap length drivers_next ∙ length-append (drivers (take t rs)) (one (get_or rs t z))
      ∙ ap (λ b. length (drivers (take t rs)) + length (cond b [] (get_or rs t z ∷ []))) (ne_eqb (get_or rs t z).net 0 d)

  pub no_driver : (get_or rs t z).net ≡ 0 → length (drivers (take (t + 1) rs)) ≡ length (drivers (take t rs))
  no_driver e =
      ap length drivers_next ∙ length-append (drivers (take t rs)) (one (get_or rs t z))
      ∙ ap (λ b. length (drivers (take t rs)) + length (cond b [] (get_or rs t z ∷ []))) (eq-eqb (get_or rs t z).net 0 e)
      ∙ omega arith

  one_line : (wanted : ℕ) (r : Table) (b : Bool) → gather (line_of_record wanted) (cond b [] (r ∷ [])) ≡ cond b [] (line_of_record wanted r)
  one_line wanted r true = refl
  one_line wanted r false = append-nil (line_of_record wanted r)

  pub text_next : (wanted : ℕ) → slack_text wanted (take (t + 1) rs) ≡ slack_text wanted (take t rs) ++ driver_line wanted (get_or rs t z).net (get_or rs t z).level
  text_next wanted =
      ap (gather (line_of_record wanted)) drivers_next ∙ gather_append (line_of_record wanted) (drivers (take t rs)) (one (get_or rs t z))
      ∙ ap (λ l. slack_text wanted (take t rs) ++ l) (one_line wanted (get_or rs t z) (eqb (get_or rs t z).net 0))

  pub text_next_length : (wanted : ℕ) →
      length (slack_text wanted (take (t + 1) rs)) ≡ length (slack_text wanted (take t rs)) + length (driver_line wanted (get_or rs t z).net (get_or rs t z).level)
  text_next_length wanted =
      ap length (text_next wanted) ∙ length-append (slack_text wanted (take t rs)) (driver_line wanted (get_or rs t z).net (get_or rs t z).level)

module _ (wanted net level : ℕ) where
  driver_line_lem : 0 < net → driver_line wanted net level ≡ slack_line wanted net level
  driver_line_lem h = ap (λ b. cond b [] (slack_line wanted net level)) (ne_eqb net 0 (λ e. omega arith))

  pub driver_width : 0 < net → length (driver_line wanted net level) ≡ 13
  driver_width h = ap length (driver_line_lem h)

  pub driver_pasted : (old new : List ℕ) (at : ℕ) → 0 < net → new ≡ pasted old at (slack_line wanted net level) → new ≡ pasted old at (driver_line wanted net level)
  driver_pasted old new at h e = e ∙ ap (pasted old at) (sym (driver_line_lem h))

  pub no_line : net ≤ 0 → driver_line wanted net level ≡ []
  no_line h = ap (λ b. cond b [] (slack_line wanted net level)) (eq-eqb net 0 (omega arith))

-- ---- lengths

lines_length : (wanted : ℕ) (rs : List Table) → length (gather (line_of_record wanted) rs) ≡ 13 * length rs
lines_length wanted [] = refl
lines_length wanted (r ∷ rs) =
    let e : length (line_of_record wanted r) ≡ 13 = refl in
    length-append (line_of_record wanted r) (gather (line_of_record wanted) rs) ∙ omega (arith, lines_length wanted rs)

-- 13 bytes a line
pub text_length : (wanted : ℕ) (rs : List Table) → length (slack_text wanted rs) ≡ 13 * length (drivers rs)
text_length wanted rs = lines_length wanted (drivers rs)

-- more records, more lines
pub drivers_more : (rs : List Table) (t u : ℕ) → t ≤ u → length (drivers (take t rs)) ≤ length (drivers (take u rs))
drivers_more rs zero u h = omega arith
drivers_more rs (suc t) zero h = absurd (omega arith)
drivers_more [] (suc t) (suc u) h = omega arith
drivers_more (r ∷ rs) (suc t) (suc u) h =
    omega (arith, length-append (one r) (drivers (take t rs)), length-append (one r) (drivers (take u rs)), drivers_more rs t u (omega arith))

pub text_more : (wanted : ℕ) (rs : List Table) (t u : ℕ) → t ≤ u → length (slack_text wanted (take t rs)) ≤ length (slack_text wanted (take u rs))
text_more wanted rs t u h = omega (arith, text_length wanted (take t rs), text_length wanted (take u rs), drivers_more rs t u h)

-- where there is room for all lines, there is room for the next one
pub text_room : (wanted : ℕ) (p : Part) (at t n : ℕ) (z : Table) → t < p.used → t < length p.tables → at + length (slack_lines wanted p) ≤ n →
    at + length (slack_text wanted (take t p.tables)) + length (driver_line wanted (get_or p.tables t z).net (get_or p.tables t z).level) ≤ n
text_room wanted p at t n z h k l =
    let whole : at + length (slack_text wanted (take p.used p.tables)) ≤ n = l in
    omega (arith, text_next_length p.tables t z k wanted, text_more wanted p.tables (t + 1) p.used (omega arith))

one_few : (b : Bool) (r : Table) → length (cond b [] (r ∷ [])) ≤ 1
one_few true r = omega arith
one_few false r = omega arith

pub drivers_few : (rs : List Table) (t : ℕ) → length (drivers (take t rs)) ≤ t
drivers_few rs zero = omega arith
drivers_few [] (suc t) = omega arith
drivers_few (r ∷ rs) (suc t) = omega (arith, length-append (one r) (drivers (take t rs)), one_few (eqb r.net 0) r, drivers_few rs t)

-- THE MOST BYTES
pub slacks_short : (wanted : ℕ) (p : Part) → p.used ≤ table_room → length (slack_lines wanted p) ≤ 13 * table_room
slacks_short wanted p h = omega (arith, text_length wanted (take p.used p.tables), drivers_few p.tables p.used)
