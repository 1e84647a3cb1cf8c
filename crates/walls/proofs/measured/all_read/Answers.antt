-- One section more is read, or the first that is not says so of all. Assumes nothing.
use native.Mathlib.Omega.{arith}
use mathlib.Core.Path.{◌≡◌, refl, sym, ◌∙◌}
use Rattle.walls.specs.Cells.{every, all_read}
use Rattle.walls.proofs.Every.{every_more, every-not}
use Rattle.walls.proofs.measured.all_read.Goals as goal

pub loop-row-init : goal.loop-row-init
unfolding all_read every
loop-row-init c = refl

pub loop-row-preserved : goal.loop-row-preserved
unfolding all_read
loop-row-preserved c = every_more _ _ (sym c.row_read.ensures ∙ c.if-not-row_read.false) c.loop-row.invariant

pub returns-then-not-row_read : goal.returns-then-not-row_read
unfolding all_read
returns-then-not-row_read c = sym (every-not _ _ _ c.loop-row-test.true (sym c.row_read.ensures ∙ c.if-not-row_read.true))

pub returns : goal.returns
returns c =
    let e : c.args.sections ≡ c.loop-row.row = omega arith in
    rw e (sym c.loop-row.invariant)
