-- Reading on from each number, with those before it stored, gives what reading from the first gives. Assumes nothing.
use Rattle.quick.proofs.Rows.{Due}
use Rattle.quick.proofs.row.Given as goal

abbrev pub invariant-loop-i : goal.invariant-loop-i
invariant-loop-i l = Due l.s l.start l.n l.fn.v l.at l.i l.v
