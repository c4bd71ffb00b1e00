use mathlib.Core.Path.{ap}
use Rattle.list_reader.proofs.refused.Goals as goal

pub returns : goal.returns
returns c = ap (λ p. record { part = p; answer = c.args.answer }) c.empty.ensures
