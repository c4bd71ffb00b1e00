-- The slack of a net, and the lines of a part's slacks: 02, #107. Definitions only: the laws are in SlackLaws.
use Rattle.std.specs.Prelude.{ℕ, ◌-◌, true, false, cond, List, [], ◌∷◌, ◌++◌, leb, eqb}
use Rattle.lists.specs.Trusted.Lists.{gather}
use Rattle.decimal.specs.Trusted.Number.{Number, columns}
use Rattle.decimal.specs.Trusted.Columns.{field_of, signed_field_of}
use Rattle.table.specs.declared.Table.{Table}
use Rattle.part.specs.declared.Part.{Part}
use Rattle.part.specs.Trusted.Parts.{in_use}

-- wanted level minus root level, which may be below zero
abbrev pub slack_of : (wanted level : ℕ) → Number
slack_of wanted level =
    cond (leb level wanted) (record { negative = false; magnitude = wanted - level }) (record { negative = true; magnitude = level - wanted })

-- the unsigned output net, the slack, and a line feed
abbrev pub slack_line : (wanted net level : ℕ) → List ℕ
slack_line wanted net level = field_of columns net ++ (signed_field_of columns (slack_of wanted level) ++ 10 ∷ [])

-- the records that drive a net, in their order
abbrev pub drivers : List Table → List Table
drivers = gather (λ r. cond (eqb r.net 0) [] (r ∷ []))

-- a line for each record in use that drives a net, in list order
abbrev pub slack_lines : (wanted : ℕ) → Part → List ℕ
slack_lines wanted p = gather (λ r. slack_line wanted r.net r.level) (drivers (in_use p))
