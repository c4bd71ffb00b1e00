use Prim.Native.Nat.{◌+◌, ◌*◌, ◌≤◌}
use native.Mathlib.Omega.{arith}
use mathlib.Core.Path.{◌≡◌, refl, sym}
use mathlib.Core.List.{[], ◌∷◌}
use lib.ListN.{length}
use Rattle.lists.specs.Trusted.Lists.{gather}
use Rattle.part.specs.Trusted.Parts.{in_use}
use Rattle.part.proofs.Shape.{shaped}
use Rattle.list_line.specs.PasteLaws.{paste_next}
use Rattle.list_numbers.specs.Trusted.Numbers.{record_numbers, part_numbers}
use Rattle.list_numbers.specs.NumbersLaws.{part_numbers_lem, handed_room, handed_short}
use Rattle.list_numbers.proofs.put_part.Goals as goal
use Rattle.list_numbers.proofs.put_part.Goals.{Start}

-- how many numbers the part has
count : (s : Start) → length (part_numbers s.args.p) ≡ 3 + 10 * s.args.p.used
count s =
    let t = s.well_formed.0.1.1.1.1.1.1.0 in
    part_numbers_lem s.args.p (shaped s.args.p t.0 t.1.0.1 t.1.1) s.requires

pub returns-then-numbers-p : goal.returns-then-numbers-p
returns-then-numbers-p c =
    sym (handed_short c.args.p c.args.numbers.now (omega (arith, count (goal.at.returns-then-numbers-p c).Start, c.if-numbers-p.true)))

pub returns : goal.returns
returns c =
    let a = c.args in
    let p = a.p in
    let old = a.numbers.now in
    let top = c.put_top in
    let tables = c.put_records in
    let l : length (part_numbers p) ≤ length old = omega (arith, count (goal.at.returns c).Start, c.if-numbers-p.false) in
    handed_room p old l
    (paste_next old top.new.numbers tables.new.numbers 0 3 (p.k ∷ p.capacity ∷ p.used ∷ []) (gather record_numbers (in_use p)) top.ensures refl (omega (arith, l)) tables.ensures)
