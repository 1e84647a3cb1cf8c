-- None of so many pairs is brought down at first, and all at last.
use Rattle.std.proofs.Common.{◌*◌, ◌≤◌, get_or, arith}
use native.Mathlib.Nat.{lt_of_lt_of_le}
use lib.Pow.{pow_mono}
use Rattle.roots.specs.Steps.{side, EachBelow, no_work}
use Rattle.roots.proofs.Pairs.{none_brought}
use Rattle.roots.proofs.Sides.{same_at}
use Rattle.roots.proofs.several.floor_roots.Goals as goal

-- numbers of so many pairs, of which 31 is the most
below : (c : goal.Start) → EachBelow c.args.n 31
below c = λ k h.
    let pairs : 2 * c.args.pairs ≤ 2 * 31 = omega (arith, c.requires) in
    lt_of_lt_of_le (c.requires.2 k h) (pow_mono pairs)

pub down-requires : goal.down-requires
down-requires c = (
  omega arith,
  omega (arith, c.requires),
  omega (arith, c.requires),
  omega arith,
  below c,
  λ k h. rw (same_at no_work side k) (none_brought (get_or c.args.n k 0) c.args.pairs (c.requires.2 k h)),
)

pub down-requires-2 : goal.down-requires-2
down-requires-2 c = (omega arith, omega arith, omega arith, omega arith, below c.before, c.down.ensures)
