-- One number more stands in the array. Assumes nothing.
use native.Mathlib.Omega.{arith}
use lib.ListN.{length-set}
use Rattle.sections.proofs.Mapped.{one_more, all-filled}
use Rattle.sections.proofs.numbers_of.Goals as goal

pub loop-i-preserved : goal.loop-i-preserved
loop-i-preserved c =
    let at = c.loop-i in
    (simp length-set at.invariant.0, one_more (λ x. x.number.0) c.args.sections at.r at.i at.invariant.1 _ (omega (arith, at.invariant.0)) (omega arith))

pub returns : goal.returns
returns c =
    let at = c.loop-i in
    all-filled (λ x. x.number.0) c.args.sections at.r at.i at.invariant.1 (omega (arith, at.invariant.0)) (omega arith)
