-- What is summed so far is the heat of the first sections in all stages, and of the next one in the first stages.
use Rattle.std.proofs.Common.{◌*◌}
use Rattle.sheet.specs.Quantities.{stages_most}
use Rattle.formulas.specs.Formulas.{joule}
use Rattle.formulas.specs.Sizes.{wall_heat_most}
use Rattle.formulas.proofs.Sums.{Running}
use Rattle.surface.proofs.Grid.{grid, Reached}
use Rattle.surface.proofs.Coded.{coded}
use Rattle.surface.proofs.x9.Given as goal

abbrev pub invariant-loop-i : goal.invariant-loop-i
invariant-loop-i l = Running joule wall_heat_most (l.i * stages_most) l.sum.0 (grid (coded l.readings l.places l.times) l.i l.columns)

abbrev pub invariant-loop-j : goal.invariant-loop-j
invariant-loop-j l = Reached joule wall_heat_most (coded l.readings l.places l.times) l.columns l.i l.j l.sum.0
