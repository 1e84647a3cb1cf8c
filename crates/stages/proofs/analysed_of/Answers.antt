-- Seven constructors in a row. Assumes nothing.
use Rattle.std.proofs.Common.{true}
use Rattle.stages.specs.Stages.{held_by}
use Rattle.due.proofs.Chain.{◌&◌, done, taken_as}
use Rattle.stages.proofs.analysed_of.Goals as goal

pub returns : goal.returns
returns c =
    rw c.from.ensures
    (taken_as (held_by true)
    (c.checked-gas.ensures & c.checked-excess.ensures & c.checked-flue.ensures & c.checked-co.ensures & c.checked-pair.ensures & c.checked-oxygen.ensures
    & c.checked-minutes.ensures & done))
