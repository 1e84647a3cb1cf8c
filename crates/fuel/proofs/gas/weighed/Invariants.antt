-- What is summed up and what is still to come make the whole, and no sum so far is large.
use Rattle.std.proofs.Common.{◌≡◌, ◌≤◌, ◌*◌, ◌+ℤ◌, nat_abs, drop}
use Rattle.document.specs.Tests.{weigh}
use Rattle.fuel.specs.Fuel.{shares}
use Rattle.fuel.proofs.gas.weighed.Given as goal

abbrev pub invariant-loop-i : goal.invariant-loop-i
invariant-loop-i l =
    (nat_abs l.sum.0 ≤ l.i * 130000) × (l.sum.0 +ℤ weigh (drop l.i l.weights) (drop l.i (shares l.gas)) ≡ weigh l.weights (shares l.gas))
