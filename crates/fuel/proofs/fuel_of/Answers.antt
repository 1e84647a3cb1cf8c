-- Two constructors in a row. Assumes nothing.
use Rattle.document.specs.Rows.{fuel_of}
use Rattle.due.proofs.Chain.{◌&◌, done, taken_as}
use Rattle.fuel.proofs.fuel_of.Goals as goal

pub returns : goal.returns
returns c = taken_as fuel_of (c.checked-heating.ensures & c.checked-temperature.ensures & done)
