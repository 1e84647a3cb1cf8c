-- A step brings a pair down to the number as it does to the rest, and at the end it is n.
use Rattle.std.proofs.Common.{◌≡◌, ◌+◌, ◌-◌, arith}
use lib.Count.{leading_le}
use Rattle.roots.proofs.Pairs.{none_brought, highest, one_brought, all_brought}
use Rattle.roots.proofs.floor_root.Goals as goal

pub loop-behind-init : goal.loop-behind-init
loop-behind-init c = none_brought c.args.n _ (highest c.args.n _ c.ranges.n.fits (omega (arith, leading_le 64 c.args.n)))

pub loop-behind-preserved : goal.loop-behind-preserved
loop-behind-preserved c =
    let one : c.loop-behind.behind ≡ c.loop-behind.behind - 1 + 1 = omega arith in
    one_brought one c.loop-behind.invariant c.step-work.ensures

pub returns : goal.returns
returns c = all_brought (omega arith) c.loop-behind.invariant
