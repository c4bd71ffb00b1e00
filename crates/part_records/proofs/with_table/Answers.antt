use Rattle.std.proofs.Common.{rules, ◌≡◌, ap, subst, ◌∙◌, arith, length, take}
use Rattle.std.proofs.Math.Seq.{take-length}
use Rattle.lists.specs.Trusted.Tests.{elem}
use Rattle.table.specs.Trusted.Records.{reads}
use Rattle.part_records.specs.UseLaws.{elem_padded}
use Rattle.part_records.proofs.with_table.Goals as goal
use Rattle.part_records.proofs.with_table.Goals.{then-uses, else-uses}

pub returns-else-uses-2 : goal.returns-else-uses-2
returns-else-uses-2 c =
    let t = c.args.t in
    let six : length t.inputs ≡ 6 = search rules in
    let all : take 6 t.inputs ≡ t.inputs = subst (λ n. take n t.inputs ≡ t.inputs) six (take-length t.inputs) in
    let read : c.reads_net.result ≡ elem c.args.net (reads t) =
    c.reads_net.ensures ∙ ap (elem c.args.net) all ∙ elem_padded c.args.net c.requires.1 t.count t.inputs c.requires.0 in
    elim c.if-uses.branch [ then-uses w ↦ grind (arith, read) | else-uses w ↦ grind (arith, read) ]
