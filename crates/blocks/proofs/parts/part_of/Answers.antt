-- Five constructors in a row. Assumes nothing.
use Rattle.document.specs.Rows.{part_of}
use Rattle.due.proofs.Chain.{◌&◌, done, taken_as}
use Rattle.blocks.proofs.parts.part_of.Goals as goal

pub returns : goal.returns
returns c = taken_as part_of (c.checked-mass.ensures & c.checked-material.ensures & c.checked-c.ensures & c.checked-before.ensures & c.checked-firing.ensures & done)
