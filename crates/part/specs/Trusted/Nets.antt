-- Which nets the tables of a list drive and read. Definitions only.
use Rattle.std.specs.Prelude.{ℕ, ◌≡◌, List}
use Rattle.lists.specs.Trusted.Lists.{◌∈◌}
use Rattle.cover.specs.Trusted.Tables.{LookupTable}

abbrev pub Driven : ℕ → List LookupTable → Type 0
Driven n ts = (t : LookupTable) × (t ∈ ts) × (t.drives ≡ n)

abbrev pub Read : ℕ → List LookupTable → Type 0
Read n ts = (t : LookupTable) × (t ∈ ts) × (n ∈ t.inputs)
