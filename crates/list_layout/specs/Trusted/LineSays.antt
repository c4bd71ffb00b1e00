-- What a line of a list can say of a table. Definitions only: the laws are in LayoutLaws.
use Rattle.std.specs.Prelude.{ℕ, ◌^◌, ◌≤◌, ◌<◌, ◌≡◌, ◌∷◌, length}
use Rattle.lists.specs.Trusted.Lists.{Every}
use Rattle.decimal.specs.Trusted.Number.{columns}
use Rattle.table.specs.Trusted.Limits.{input_room}
use Rattle.table.specs.Trusted.Records.{reads}
use Rattle.table.specs.Trusted.Rules.{Padded}
use Rattle.table.specs.declared.Table.{Table}

-- a field has room for the number
abbrev pub FieldFits : ℕ → Type 0
FieldFits n = n < 10 ^ columns

-- u is from 2 to 6, the unused inputs are zero, each number has room in its field, and the truth table is below 2^64. The level may be
-- anything: a line does not say it.
pub record LineSays (r : Table) : Type 0 where
  pub count : (2 ≤ r.count) × (r.count ≤ input_room)
  pub shaped : length r.inputs ≡ input_room
  pub padded : Padded r
  pub numbers : Every FieldFits (r.net ∷ reads r)
  pub truth : r.truth < 2 ^ 64
