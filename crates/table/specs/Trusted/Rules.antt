-- The rules of a run of records, by the five points of 01, "Part", in their order, and 02's #103 of levels. A value of the struct may be
-- anything.
-- Definitions only: the laws are in RuleLaws and TestedLaws.
use Rattle.std.specs.Prelude.{ℕ, ◌+◌, ◌^◌, ◌≤◌, ◌<◌, ◌≡◌, ◌⊎◌, List, map, length, take, drop}
use Rattle.lists.specs.Trusted.Lists.{◌∈◌, Every, Rising}
use Rattle.tree.specs.Trusted.Limits.{greatest_net, code_base}
use Rattle.cover.specs.Trusted.Tables.{Placed, numbered, levels_of}
use Rattle.table.specs.Trusted.Records.{reads, table_of}
use Rattle.table.specs.declared.Table.{Table}

abbrev pub AllZero : List ℕ → Type 0
AllZero = Every (λ x. x ≡ 0)

-- a whole record is zero
pub record Blank (r : Table) : Type 0 where
  pub net : r.net ≡ 0
  pub count : r.count ≡ 0
  pub inputs : AllZero r.inputs
  pub truth : r.truth ≡ 0
  pub level : r.level ≡ 0

-- unused inputs are zero
abbrev pub Padded : Table → Type 0
Padded r = AllZero (drop r.count r.inputs)

abbrev pub IsNet : ℕ → Type 0
IsNet x = (1 ≤ x) × (x ≤ greatest_net)

abbrev pub NamesTable : ℕ → Type 0
NamesTable x = code_base < x

-- the net driven is 0 or a net, and an input is a net or names a table
abbrev pub Coded : Table → Type 0
Coded r = (r.net ≤ greatest_net) × Every (λ x. IsNet x ⊎ NamesTable x) (reads r)

-- u is from 2 to K, the inputs rise strictly, and the truth table is below 2^(2^u)
abbrev pub Sized : ℕ → Table → Type 0
Sized k r = (2 ≤ r.count) × (r.count ≤ k) × Rising (reads r) × (r.truth < 2 ^ (2 ^ r.count))

-- of the numbered tables `ps`, the table p: each table input names an earlier table that drives no net
abbrev pub Sourced : List Placed → Placed → Type 0
Sourced ps p = Every (λ x. NamesTable x → (q : Placed) × (q ∈ ps) × (x ≡ code_base + q.0) × (q.0 < p.0) × (q.1.drives ≡ 0)) p.1.inputs

-- two tables that drive one net are one table
abbrev pub DrivenOnce : Placed → Placed → Type 0
DrivenOnce p q = 0 < p.1.drives → p.1.drives ≡ q.1.drives → p.0 ≡ q.0

-- a table that reads the net that p drives stands after p
abbrev pub ReadAfter : Placed → Placed → Type 0
ReadAfter p q = 0 < p.1.drives → p.1.drives ∈ q.1.inputs → p.0 < q.0

abbrev pub EveryTwo : (Placed → Placed → Type 0) → List Placed → Type 0
EveryTwo R ps = Every (λ p. Every (R p) ps) ps

-- the records' tables with their numbers, from 1
abbrev pub places : List Table → List Placed
places rs = numbered 0 (map table_of rs)

-- The rules of a run of records: of the first point that the unused inputs are zero; the second; the third; the fourth; the two
-- halves of the fifth; and that each level is the one worked out.
pub record Rules (k : ℕ) (rs : List Table) : Type 0 where
  pub padded : Every Padded rs
  pub coded : Every Coded rs
  pub sized : Every (Sized k) rs
  pub sourced : Every (Sourced (places rs)) (places rs)
  pub driven_once : EveryTwo DrivenOnce (places rs)
  pub read_after : EveryTwo ReadAfter (places rs)
  pub levels : map (λ r. r.level) rs ≡ levels_of code_base (map table_of rs)

-- ---- the first bad record of a run

-- the run breaks no rule, and is not longer than the capacity
pub record Fine (k capacity : ℕ) (rs : List Table) : Type 0 where
  pub rules : Rules k rs
  pub fits : length rs ≤ capacity

-- the first record, counted from 1, at which the run up to and including it is not fine
pub record FirstBad (k capacity : ℕ) (rs : List Table) (n : ℕ) : Type 0 where
  pub inside : (1 ≤ n) × (n ≤ length rs)
  pub before : (m : ℕ) → m < n → Fine k capacity (take m rs)
  pub bad : ¬ (Fine k capacity (take n rs))
