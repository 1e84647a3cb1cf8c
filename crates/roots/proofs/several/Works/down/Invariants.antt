use Rattle.std.proofs.Common.{◌≤◌}
use Rattle.roots.specs.Steps.{EachBrought}
use Rattle.roots.proofs.several.Works.down.Given as goal

abbrev pub invariant-loop-pair : goal.invariant-loop-pair
invariant-loop-pair l = (l.to ≤ l.pair) × EachBrought l.fn.n l.pair l.works.0
