-- Every section that was passed was read in every stage.
use Rattle.std.proofs.Common.{◌≡◌, true}
use Rattle.walls.specs.Cells.{all_read}
use Rattle.walls.proofs.measured.all_read.Given as goal

abbrev pub invariant-loop-row : goal.invariant-loop-row
invariant-loop-row l = all_read l.readings l.row l.stages ≡ true
