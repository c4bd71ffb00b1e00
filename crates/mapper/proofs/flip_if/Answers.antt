use Rattle.mapper.proofs.flip_if.Goals as goal

pub returns-then-flip : goal.returns-then-flip
returns-then-flip c = rw c.if-flip.true c.inverted.ensures
