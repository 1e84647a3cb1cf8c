-- A comma, and the number behind it. Assumes nothing.
use Rattle.pen.proofs.Numbers.{same}
use Rattle.pen.proofs.Writing.{next}
use Rattle.pen.proofs.behind_comma.Goals as goal

pub returns : goal.returns
returns c = next c.bytes_at-behind.ensures (rw (same c.args.number c.from.result c.ranges.number.fits c.from.ensures) at c.number_at.ensures)
