use mathlib.Core.Path.{◌≡◌}
use lib.ListN.{take}
use Rattle.pending.specs.Merging.{columns_of, Filled}
use Rattle.pending.specs.MergeLaws.{padded_filled, columns_length}
use Rattle.rows.proofs.values.Goals as goal
use Rattle.rows.proofs.values.Goals.{After-columns-cs}

-- the columns, with zeros after them
filled : (c : After-columns-cs) → let a = c.args in
    Filled a.n c.columns-cs.result × (take a.n c.columns-cs.result ≡ columns_of (take a.n a.codes.now) (take a.count a.inputs.now))
filled c =
    let a = c.args in
    padded_filled a.n _ _ c.columns-cs.ensures (columns_length (take a.count a.inputs.now) c.requires.0) c.requires.0.fits

pub spread-requires : goal.spread-requires
spread-requires c = (filled (goal.at.spread-requires c).After-columns-cs).0

pub returns : goal.returns
returns c = rw (filled (goal.at.returns c).After-columns-cs).1 at c.spread.ensures
