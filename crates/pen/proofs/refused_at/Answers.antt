-- Three pieces, one behind the other. Assumes nothing.
use Rattle.std.proofs.Common.{pos, append_assoc}
use Rattle.text.specs.Bytes.{bytes}
use Rattle.text.specs.Decimal.{decimal}
use Rattle.pen.specs.Refused.{behind_comma}
use Rattle.pen.proofs.Numbers.{same}
use Rattle.pen.proofs.Writing.{next}
use Rattle.pen.proofs.refused_at.Goals as goal

pub returns-clause-written : goal.returns-clause-written
returns-clause-written c =
    let number = rw (same c.args.number c.from.result c.ranges.number.fits c.from.ensures) at c.number_at-behind.ensures in
    rw (← append_assoc (bytes "refused=") (decimal (pos c.args.number)) (behind_comma c.args.place))
    (next (next c.bytes_at-word.ensures number) c.behind_comma.ensures)
