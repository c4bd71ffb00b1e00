use Rattle.sheet.specs.Trusted.Answers.{drawn_sheet}
use Rattle.mapper_laws.specs.CodeMap.{BestGoing}
use Rattle.mapper.proofs.map.Given as goal

abbrev pub invariant-loop-g : goal.invariant-loop-g
invariant-loop-g l = BestGoing l.k l.used (drawn_sheet l.fn.sheet).gates l.g l.held l.mapping
