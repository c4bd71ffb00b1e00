use Prim.Native.Nat.{◌*◌}
use mathlib.Core.Path.{◌≡◌, sym, ap, ◌∙◌}
use lib.ListN.{get_or, take}
use Rattle.std.proofs.lemmas.Bool.Decides.{Decides-eqb}
use Rattle.std.proofs.lemmas.List.{get_or-take}
use Rattle.std.proofs.lemmas.Slice.Eq.{slice_eq-Decides}
use Rattle.level_arrays.specs.Arrays.{big}
use Rattle.level_lines.proofs.same_rows.Goals as goal

pub returns : goal.returns
returns c e i l =
    let n = c.args.end * 8 in
    let x = c.args.x.now in
    let y = c.args.y.now in
    let s : take n x ≡ take n y = (slice_eq-Decides Decides-eqb (take n x) (take n y) c.eq.result c.eq.ensures).0 e in
    sym (get_or-take n y i big l) ∙ ap (λ z. get_or z i big) (sym s) ∙ get_or-take n x i big l
