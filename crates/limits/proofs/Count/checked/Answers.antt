-- What stands for a number lies between the limits, whether it is the number or the least. Assumes nothing.
use Rattle.std.proofs.Common.{arith}
use Rattle.limits.proofs.Laws.{within}
use Rattle.limits.proofs.Count.checked.Goals as goal

pub numbered-requires : goal.numbered-requires
numbered-requires g c = let b = within c.counted-read.ensures (grind arith) in (grind (arith, b.low), grind (arith, b.high))
