use Rattle.formulas.proofs.Sums.{begun, again}
use Rattle.solids.proofs.records.all_heats.Goals as goal

pub loop-line-init : goal.loop-line-init
loop-line-init g c = begun

pub loop-line-preserved : goal.loop-line-preserved
loop-line-preserved g c =
    let h = c.heats-heats.ensures in
    again c.line-item.result c.loop-line-test.true c.loop-line.invariant (rw (← c.line-item.is) h.brings) (rw (← c.line-item.is) h.takes) c.plus-brought.ensures
    c.plus-taken.ensures
