-- The bytes before the turn's stand at the place.
use Rattle.std.proofs.Common.{◌+◌, take}
use Rattle.pen.specs.Writing.{Written}
use Rattle.pen.proofs.bytes_at.Given as goal

abbrev pub invariant-loop-i : goal.invariant-loop-i
invariant-loop-i l = Written l.at (take l.i l.src) l.fn.out l.out (l.at + l.i)
