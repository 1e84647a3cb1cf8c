-- The shares up to i have been checked, one after the other.
use Rattle.std.proofs.Common.{◌≡◌, length, take, replicate}
use Rattle.sheet.specs.Quantities.{share, gases}
use Rattle.due.specs.Taking.{from}
use Rattle.fuel.specs.Fuel.{shares}
use Rattle.due.proofs.Chain.{Chain}
use Rattle.fuel.proofs.gas.gas_of.Given as goal

abbrev pub invariant-loop-i : goal.invariant-loop-i
invariant-loop-i l =
    (length l.value ≡ gases) × Chain 0 1 (replicate l.i share) (from 0 l.i l.v) (shares (take l.i l.value)) l.fault
