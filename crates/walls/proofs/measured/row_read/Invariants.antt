-- The section was read in every stage that was passed.
use Rattle.std.proofs.Common.{◌≡◌, true}
use Rattle.walls.specs.Cells.{row_read}
use Rattle.walls.proofs.measured.row_read.Given as goal

abbrev pub invariant-loop-stage : goal.invariant-loop-stage
invariant-loop-stage l = row_read l.readings l.stage ≡ true
