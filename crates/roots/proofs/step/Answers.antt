-- The digit is that of the numbers that the words count as.
use Rattle.std.proofs.Common.{rules}
use Rattle.roots.proofs.Pairs.{digit_one, digit_zero}
use Rattle.roots.proofs.step.Goals as goal

pub returns-then-le : goal.returns-then-le
returns-then-le g c = digit_one c.requires.0 c.requires.2 (search rules) (search rules) (search rules)

pub returns-else-le : goal.returns-else-le
returns-else-le g c = digit_zero c.requires.0 c.requires.2 (search rules) (search rules) (search rules)
