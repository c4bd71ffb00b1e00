use native.Mathlib.Omega.{arith}
use mathlib.Core.Path.{sym, ◌∙◌}
use lib.ListN.{get_or-replicate}
use Rattle.level_rows.specs.Rows.{even_row}
use Rattle.level_lines.proofs.Looking.{fan_below, look_net, fan_line_lem}
use Rattle.level_arrays.specs.Arrays.{big}
use Rattle.level_lines.proofs.look.Goals as goal

pub returns-then-bound-level : goal.returns-then-bound-level
returns-then-bound-level c w l =
    let a = c.args in
    get_or-replicate 8 w big big (omega arith) ∙ sym (fan_below a.store.now a.f a.bound a.h w c.if-bound-level.true)

pub returns-then-lines-eq0 : goal.returns-then-lines-eq0
returns-then-lines-eq0 c w l =
    let a = c.args in
    even_row 0 w l ∙ sym (look_net a.store.now a.f a.bound a.h w (omega arith) c.if-lines-eq0.true)

pub returns : goal.returns
returns c w l =
    let a = c.args in
    c.line_row.ensures w l ∙ sym (fan_line_lem a.store.now a.f a.bound a.h w _ (omega arith) (omega arith) c.min.ensures)
