use borrow.Author.Rules.{rules}
use native.Mathlib.Omega.{arith}
use mathlib.Core.Path.{◌≡◌, sym, ap, subst}
use mathlib.Core.List.{[], map}
use lib.ListN.{take}
use Rattle.std.specs.Prelude.{ℕ, ◌+◌, ◌<◌, List, length, drop, Result, Ok, Err, IsErrAnd}
use Rattle.table.specs.Trusted.Records.{table_of}
use Rattle.table.specs.LevelTest.{no_levels, LevelsStand}
use Rattle.table.specs.LevelTestLaws.{levels_none}
use Rattle.part.specs.Trusted.Parts.{tables_of}
use Rattle.part.specs.Trusted.Answers.{refused}
use Rattle.part.specs.Trusted.AddAnswers.{add_refusal}
use Rattle.part.specs.Trusted.Ways.{Way}
use Rattle.part.specs.declared.Part.{Part}
use Rattle.part.specs.declared.AddError.{AddError}
use Rattle.part.specs.declared.NumberedRefusal.{NumberedRefusal}
use Rattle.sheets.specs.Promises.{Stepped, Ended}
use Rattle.sheets.specs.SheetsLaws.{SheetsSoFar, shaped_start, shaped_more, few_sheets, ended_stop, ended_all}
use Rattle.sheets.proofs.add_sheets_by.Goals as goal

pub loop-at-init : goal.loop-at-init
unfolding no_levels
loop-at-init g c =
    let a = c.args in
    let p = a.part.now in
    let none : [] ≡ tables_of p = ap (λ n. map table_of (take n p.tables)) (sym c.requires.1) in
    (shaped_start g.W.Choose.way a.input.now p a.start c.requires.0, subst (LevelsStand no_levels) none levels_none)

pub overflow_add-sheet : goal.overflow_add-sheet
overflow_add-sheet g c = record { fits = omega (arith, few_sheets c.loop-at.invariant.0.so_far) }

pub add_next-requires : goal.add_next-requires
add_next-requires g c = (c.loop-at.invariant.0.so_far.sound, c.loop-at.invariant.1, omega arith)

-- by what is told of a refusal, however it is made
refused_by : (w : Way) (input : List ℕ) (opened part q : Part) (start at sheet : ℕ) → SheetsSoFar w input opened start part at sheet → at < length input →
    (why : AddError) → Stepped w input part at q (Err why) → (r : Result (Unit {0}) NumberedRefusal) →
    IsErrAnd r (λ told. (add_refusal why ≡ refused told.number told.line) × (told.sheet ≡ sheet + 1) × (0 < told.number)) → Ended w opened (drop start input) q r
refused_by w input opened part q start at sheet h l why s (Ok done) t = absurd t
refused_by w input opened part q start at sheet h l why s (Err told) t = ended_stop h q l why s told t.0 t.1 t.2

pub returns-in-Err : goal.returns-in-Err
returns-in-Err g c =
    refused_by _ _ _ _ _ _ _ _ c.loop-at.invariant.0.so_far (omega arith) c.in-Err.why c.in-Err.ensures.0 _ (search rules)

pub loop-at-smaller : goal.loop-at-smaller
loop-at-smaller g c =
    let o = c.in-Ok.ensures.0.onwards in
    omega (arith, o.after, o.within)

pub loop-at-preserved : goal.loop-at-preserved
loop-at-preserved g c = (shaped_more c.loop-at.invariant.0 c.add_next.new.part (omega arith) c.in-Ok.end c.in-Ok.ensures.0, c.add_next.ensures.1)

pub returns : goal.returns
returns g c = ended_all c.loop-at.invariant.0.so_far (omega arith)
