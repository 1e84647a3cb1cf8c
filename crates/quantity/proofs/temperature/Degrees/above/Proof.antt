-- Both temperatures are widened, and stand as they are. Assumes nothing.
use Rattle.limits.proofs.Casts.{casts}
use Rattle.quantity.proofs.temperature.Degrees.above.Statement.{statement}
use Rattle.quantity.proofs.temperature.Degrees.above.Tie as tie

cast-t3 : tie.Need-overflow_cast-result
cast-t3 c = search casts

cast-t4 : tie.Need-overflow_cast-result-2
cast-t4 c = search casts

sub-t5 : tie.Need-overflow_sub-result
sub-t5 c = search casts

returns : tie.Need-returns
returns c = search casts

pub above_spec : {M : Type 1} → statement M
above_spec = tie.close (tie.spec cast-t3 cast-t4 sub-t5 returns)
