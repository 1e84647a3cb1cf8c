-- Four constructors in a row. Assumes nothing.
use Rattle.document.specs.Rows.{setter_of}
use Rattle.due.proofs.Chain.{◌&◌, done, taken_as}
use Rattle.blocks.proofs.setters.setter_of.Goals as goal

pub returns : goal.returns
returns c = taken_as setter_of (c.checked-mass.ensures & c.checked-entry.ensures & c.checked-material.ensures & c.checked-c.ensures & done)
