-- The fanins of a gate one by one, as the code goes through them. Internal definitions: the laws are in FanLaws.
use Rattle.std.specs.Prelude.{ℕ, ◌+◌, ◌≤◌, ◌<◌, ◌≡◌, length, get_or, set}
use Rattle.level_arrays.specs.declared.Fans.{Fans}
use Rattle.level_arrays.specs.declared.Draft.{Draft}

-- one fanin more
abbrev pub with_fan : Fans → (level lines gate : ℕ) → Fans
with_fan f l c g = record {
  count = f.count + 1;
  levels = set f.levels f.count l;
  lines = set f.lines f.count c;
  gates = set f.gates f.count g;
}

-- the first n
abbrev pub first_fans : ℕ → Fans → Fans
first_fans n f = record { count = n; levels = f.levels; lines = f.lines; gates = f.gates }

-- a draft can be asked: each gate that a fanin reads has its place, and no two fanins read one gate
pub record CanAsk (f : Fans) (d : Draft) : Type 0 where
  pub few : f.count ≤ 10
  pub rooms : (length f.lines ≡ 10) × (length f.gates ≡ 10)
  pub asks : (length d.bounds ≡ 10) × (length d.inputs ≡ 10)
  pub placed : (h : ℕ) → h < f.count → 0 < get_or f.lines h 0 → get_or f.gates h 0 < 255
  pub apart : (h i : ℕ) → h < f.count → i < f.count → 0 < get_or f.lines h 0 → 0 < get_or f.lines i 0 → get_or f.gates h 0 ≡ get_or f.gates i 0 → h ≡ i
