-- Every record that a function is handed has six inputs: its type says so.
-- A function's proof has it of its first parameter r: inputs_fill r c.good.0.1.1.1.1.0.1.0.1
use Prim.Native.Nat.{ℕ, min}
use native.Mathlib.Omega.{arith}
use mathlib.Core.Path.{◌≡◌, sym, ap, ◌∙◌}
use mathlib.Core.List.{List, [], map}
use lib.ListN.{length, take, length-take, length-map}
use lib.Seq.{take_all}
use Rattle.lists.specs.Cases.{by_leb}
use Rattle.table.specs.Trusted.Limits.{input_room}
use Rattle.table.specs.Trusted.Records.{reads}
use Rattle.table.specs.declared.Table.{Table}

pub inputs_fill : (r : Table) → length (map (λ n. n) r.inputs) ≡ input_room → length r.inputs ≡ input_room
inputs_fill r h = sym (length-map r.inputs (λ n. n)) ∙ h

pub reads_count : (r : Table) → length r.inputs ≡ input_room → length (reads r) ≡ min r.count 6
reads_count r l = length-take r.count r.inputs ∙ ap (min r.count) l

-- of a list of six, no more than six are taken
module _ (xs : List ℕ) (n : ℕ) (l : length xs ≡ input_room) where
  pub take_room : take (min n 6) xs ≡ take n xs
  take_room =
      by_leb (λ b. take (min n 6) xs ≡ take n xs) n 6
      (λ h. let e : min n 6 ≡ n = omega arith in rw e)
      (λ h. let e : min n 6 ≡ 6 = omega arith in rw e (take_all 6 xs (omega (arith, l)) ∙ sym (take_all n xs (omega (arith, l)))))

-- what a function that reads a record of an array takes to stand past the last one
abbrev pub past : Table
past = record { net = 0; count = 0; inputs = []; truth = 0; level = 0 }
