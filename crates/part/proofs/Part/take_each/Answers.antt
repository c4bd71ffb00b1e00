use native.Mathlib.Nat.{add-sub_cancel_left}
use native.Mathlib.Omega.{arith}
use mathlib.Core.Path.{◌≡◌, subst}
use lib.ListN.{get_or, take, drop}
use Rattle.std.specs.Prelude.{Result}
use Rattle.part.specs.Trusted.Ways.{least}
use Rattle.part.specs.Trusted.Add.{Add}
use Rattle.part.specs.Trusted.AddAnswers.{adding_answer}
use Rattle.part.specs.declared.AddError.{AddError}
use Rattle.part.proofs.SetLaws.{set_room, set_stop, set_more, set_all}
use Rattle.part.proofs.Part.take_each.Goals as goal
use Rattle.part.proofs.Part.take_each.Goals.{After-take}

pub overflow_add-end : goal.overflow_add-end
overflow_add-end c = omega (arith, set_room c.loop-i.invariant.0 (omega arith))

-- what came of the sheet
sheet_added : (c : After-take) {r : Result (Unit {0}) AddError} → c.take.result ≡ r → let l = c.loop-i in
    Add least l.part (take (get_or c.args.lengths.now l.i 0) (drop l.at c.args.text.now)) c.take.new.self (adding_answer r)
sheet_added c e =
    let l = c.loop-i in
    subst (λ r. Add least l.part (take (get_or c.args.lengths.now l.i 0) (drop l.at c.args.text.now)) c.take.new.self (adding_answer r)) e
    (rw (add-sub_cancel_left l.at _) at c.take.ensures.0)

pub returns-in-Err : goal.returns-in-Err
returns-in-Err c =
    let l = c.loop-i in
    set_stop l.invariant.0 (omega arith) c.take.new.self c.in-Err.why (sheet_added (goal.at.returns-in-Err c).After-take c.in-Err.is)

pub loop-i-preserved : goal.loop-i-preserved
loop-i-preserved c =
    let l = c.loop-i in
    (set_more l.invariant.0 (omega arith) c.take.new.self (sheet_added (goal.at.loop-i-preserved c).After-take c.in_default.is), c.take.ensures.1, omega arith)

pub returns : goal.returns
returns c = set_all c.loop-i.invariant.0 (omega arith)
