-- A number between the limits is taken as it stands; one that is not has the least in its place. Assumes nothing.
use Rattle.std.proofs.Common.{arith}
use Rattle.limits.proofs.Laws.{taken, refused}
use Rattle.limits.proofs.counted.Goals as goal

pub returns-in-Some : goal.returns-in-Some
returns-in-Some c = taken _ (grind arith) (grind arith) (grind arith)

pub returns-in-None : goal.returns-in-None
returns-in-None c = refused (λ low high. grind (arith, low, high)) (grind arith) c.first_fault.ensures
