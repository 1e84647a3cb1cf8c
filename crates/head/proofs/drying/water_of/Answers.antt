-- Three constructors in a row. Assumes nothing.
use Rattle.document.specs.Rows.{water_of}
use Rattle.due.proofs.Chain.{◌&◌, done, taken_as}
use Rattle.head.proofs.drying.water_of.Goals as goal

pub returns : goal.returns
returns c = taken_as water_of (c.checked-adsorbed.ensures & c.checked-crystal.ensures & c.checked-flue.ensures & done)
