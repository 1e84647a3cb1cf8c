-- The number, then each heat in its place. Assumes nothing.
use Prim.Native.Nat.{◌+◌}
use mathlib.Core.Path.{◌≡◌}
use lib.ListN.{length, take}
use lib.IntN.{ℤ}
use Rattle.sheet.specs.Firing.{Firing}
use Rattle.formulas.specs.Items.{shuttle}
use Rattle.formulas.specs.Report.{figures, line_count}
use Rattle.report.specs.Figures.{Found}
use Rattle.report.proofs.joules.figures.Given as goal

abbrev pub invariant-loop-i : goal.invariant-loop-i
invariant-loop-i l = record {
  long : length l.out ≡ line_count shuttle;
  filled : (f : Firing) (n : ℤ) → Found f n l.product.0 l.heat-items → take 1 l.initial.out ≡ take 1 (figures f) → take (l.i + 1) l.out ≡ take (l.i + 1) (figures f);
}
