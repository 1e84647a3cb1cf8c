-- The readings of one section more stand in the array. Assumes nothing.
use native.Mathlib.Omega.{arith}
use mathlib.Core.Path.{refl}
use lib.ListN.{length-set}
use Rattle.sections.proofs.Mapped.{one_more, all-filled}
use Rattle.walls.proofs.rows.by_section.Goals as goal

pub loop-i-init : goal.loop-i-init
loop-i-init c = (refl, refl)

pub loop-i-preserved : goal.loop-i-preserved
loop-i-preserved c =
    let at = c.loop-i in (
      simp length-set at.invariant.0,
      one_more (λ row. record { stages = row }) c.args.cells at.readings at.i at.invariant.1 _ (omega (arith, at.invariant.0)) (omega arith),
    )

pub returns : goal.returns
returns c =
    let at = c.loop-i in
    all-filled (λ row. record { stages = row }) c.args.cells at.readings at.i at.invariant.1 (omega (arith, at.invariant.0)) (omega arith)
