-- Five constructors in a row. Assumes nothing.
use Rattle.document.specs.Rows.{ware_of}
use Rattle.due.proofs.Chain.{◌&◌, done, taken_as}
use Rattle.head.proofs.drying.ware_of.Goals as goal

pub returns : goal.returns
returns c =
    taken_as ware_of
    (c.checked-green.ensures & c.checked-entry.ensures & c.checked-highest.ensures & c.checked-material.ensures & c.checked-c.ensures & done)
