-- Four constructors in a row. Assumes nothing.
use Rattle.document.specs.Rows.{wall_of}
use Rattle.due.proofs.Chain.{◌&◌, done, taken_as}
use Rattle.walls.proofs.line.wall_of.Goals as goal

pub returns : goal.returns
returns c = taken_as wall_of (c.checked-section.ensures & c.checked-stage.ensures & c.checked-surface.ensures & c.checked-air.ensures & done)
