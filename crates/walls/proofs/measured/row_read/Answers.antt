-- One stage more is read, or the first that is not says so of the section. Assumes nothing.
use native.Mathlib.Omega.{arith}
use mathlib.Core.Path.{◌≡◌, refl, sym, ap, ◌∙◌}
use mathlib.Core.Bool.{not}
use Rattle.walls.specs.Cells.{every}
use Rattle.walls.proofs.Every.{every_more, every-not}
use Rattle.walls.proofs.measured.row_read.Goals as goal

pub loop-stage-init : goal.loop-stage-init
unfolding every
loop-stage-init c = refl

pub loop-stage-preserved : goal.loop-stage-preserved
loop-stage-preserved c = every_more _ _ (c.is_none.ensures ∙ ap not c.if-is_none.false) c.loop-stage.invariant

pub returns-then-is_none : goal.returns-then-is_none
returns-then-is_none c = sym (every-not _ _ _ c.loop-stage-test.true (c.is_none.ensures ∙ ap not c.if-is_none.true))

pub returns : goal.returns
returns c =
    let e : c.args.stages ≡ c.loop-stage.stage = omega arith in
    rw e (sym c.loop-stage.invariant)
