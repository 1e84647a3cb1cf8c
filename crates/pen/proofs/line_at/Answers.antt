-- What was written at the front of the part stands at its place in the whole. Assumes nothing.
use Rattle.std.proofs.Common.{w64}
use mir.ValLaws.{to_z-of_z}
use Rattle.pen.proofs.Writing.{in_part}
use Rattle.pen.proofs.line_at.Goals as goal

pub returns : goal.returns
returns c = in_part (rw (to_z-of_z w64 c.args.z c.ranges.z) at c.put_line.ensures)
