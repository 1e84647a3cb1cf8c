-- What stands for a number lies between the limits, whether it is the number or the least. Assumes nothing.
use Rattle.std.proofs.Common.{arith}
use Rattle.limits.proofs.Laws.{within}
use Rattle.limits.proofs.Measure.checked.Goals as goal

pub of-requires : goal.of-requires
of-requires g c = let b = within c.measured-read.ensures (grind arith) in (grind (arith, b.low), grind (arith, b.high))
