use Rattle.std.proofs.Common.{arith}
use Rattle.roots.proofs.Pairs.{small, last_brought}
use Rattle.roots.proofs.several.finished.Goals as goal

pub step-requires : goal.step-requires
step-requires c = (omega arith, omega (arith, small c.requires c.ranges.n.fits), omega (arith, c.requires.least))

pub returns : goal.returns
returns c = last_brought c.requires (rw (c.from.ensures, c.from-2.ensures) at c.step.ensures)
