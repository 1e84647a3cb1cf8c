-- Three constructors in a row. Assumes nothing.
use Rattle.document.specs.Rows.{section_of}
use Rattle.due.proofs.Chain.{◌&◌, done, taken_as}
use Rattle.sections.proofs.section_of.Goals as goal

pub returns : goal.returns
returns c = taken_as section_of (c.checked-number.ensures & c.checked-place.ensures & c.checked-area.ensures & done)
