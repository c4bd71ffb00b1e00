use Prim.Native.Nat.{ℕ, suc, ◌+◌, ◌≤◌}
use native.Mathlib.Omega.{arith}
use native.Mathlib.Numerals.{add-one}
use mathlib.Core.Path.{◌≡◌, refl, sym, ap, ◌∙◌, subst}
use mathlib.Core.List.{◌++◌, append-nil}
use lib.ListN.{length, get_or, set, take}
use lib.Seq.{paste-zero, paste-suc}
use Rattle.table.specs.declared.Table.{Table}
use Rattle.table.specs.Trusted.Limits.{table_room}
use Rattle.table.specs.Trusted.Records.{blank}
use Rattle.table.specs.LevelTest.{level_in, LevelsStand}
use Rattle.table.specs.LevelTestLaws.{noted_length, levels_small}
use Rattle.pending.specs.declared.Lut.{Lut}
use Rattle.pending.specs.Luts.{lut_reads}
use Rattle.mapper_laws.specs.CodeRun.{no_table}
use Rattle.part.specs.Trusted.Parts.{tables_of}
use Rattle.part.specs.Storing.{new_tables, new_records}
use Rattle.part.proofs.StoringLaws.{new_room, store_record, store_levels, levels_stored}
use Rattle.part.specs.declared.Part.{Part}
use Rattle.part.proofs.Part.store.Invariants.{holding, records_pasted}
use Rattle.part.proofs.Part.store.Goals as goal
use Rattle.part.proofs.Part.store.Goals.{Start}

-- the record of a table that is placed at a level
abbrev at_level : Lut → ℕ → Table
at_level r l = record { net = r.net; count = r.count; inputs = r.inputs; truth = r.truth; level = l }

-- with so many records more in use
abbrev counting : ℕ → Part → Part
counting n p = record { k = p.k; capacity = p.capacity; used = p.used + n; reservation = p.reservation; tables = p.tables }

self_records : (c : Start) → length c.args.self.now.tables ≡ table_room
self_records c = omega arith

capacity_fits : (c : Start) → c.args.self.now.capacity ≤ table_room
capacity_fits c = c.requires.0.capacity_range.1

pub loop-n-init : goal.loop-n-init
loop-n-init c =
    let p = c.args.self.now in
    let m = c.args.mapping in (
      ap (holding p) (paste-zero p.tables p.used (new_records p m)),
      rw (append-nil (tables_of p)) c.requires.3,
      refl,
    )

pub next_level-level-requires : goal.next_level-level-requires
next_level-level-requires c =
    let l = c.loop-n in
    (omega (arith, capacity_fits (goal.at.next_level-level-requires c).Start, c.requires.2), levels_small l.levels _ l.invariant.1)

pub loop-n-preserved : goal.loop-n-preserved
loop-n-preserved c =
    let p = c.args.self.now in
    let m = c.args.mapping in
    let l = c.loop-n in
    let n = c.next_level-level in
    let r = get_or m.tables l.n no_table in
    let q : Table → Part = λ t. holding p (set (records_pasted p m l.n) (p.used + l.n) t) in
    let e : records_pasted p m (suc l.n) ≡ records_pasted p m (l.n + 1) = rw add-one in
    let left = c.requires.2 in
    let g = c.requires.1.1 in
    let out = c.requires.1.0 in
    let h = self_records (goal.at.loop-n-preserved c).Start in (
      ap (λ o. holding o (set o.tables (p.used + l.n) (at_level r n.result))) l.invariant.0
          ∙ ap q (ap (at_level r) n.ensures.0 ∙ store_record p h c.requires.0 out m g l.levels l.n (omega arith) l.invariant.1)
          ∙ ap (holding p) (paste-suc p.tables p.used (new_records p m) l.n blank (omega (arith, h, capacity_fits (goal.at.loop-n-preserved c).Start, left))
          (omega (arith, new_room p h c.requires.0 out m g)) ∙ e),
      subst (λ xs. LevelsStand xs (tables_of p ++ take (l.n + 1) (new_tables m))) (sym n.ensures.1)
          (store_levels p h c.requires.0 out m g l.levels l.n (omega arith) l.invariant.1 (omega (arith, capacity_fits (goal.at.loop-n-preserved c).Start, left))),
      ap length n.ensures.1 ∙ noted_length l.levels (p.used + l.n) r.net (level_in l.levels (lut_reads r)) ∙ l.invariant.2,
    )

pub shape_of-levels : goal.shape_of-levels
shape_of-levels c = c.loop-n.invariant.2

pub returns : goal.returns
returns c =
    let l = c.loop-n in
    let p = c.args.self.now in
    let h = self_records (goal.at.returns c).Start in
    let m = c.args.mapping in
    let e : l.n ≡ m.count = omega arith in
    let i = ap (counting m.count) (l.invariant.0 ∙ ap (λ n. holding p (records_pasted p m n)) e) in (
      i,
      subst (λ q. LevelsStand l.levels (tables_of q)) (sym i)
          (levels_stored p h c.requires.0 c.requires.1.0 m c.requires.1.1 l.levels (subst (λ n. LevelsStand l.levels (tables_of p ++ take n (new_tables m))) e l.invariant.1)),
    )
