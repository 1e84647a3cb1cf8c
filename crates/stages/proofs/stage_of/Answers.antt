-- Five constructors in a row. Assumes nothing.
use Rattle.std.proofs.Common.{false}
use Rattle.stages.specs.Stages.{held_by}
use Rattle.due.proofs.Chain.{◌&◌, done, taken_as}
use Rattle.stages.proofs.stage_of.Goals as goal

pub returns : goal.returns
returns c =
    rw c.analysis.ensures
    (taken_as (held_by false)
    (c.checked-gas.ensures & c.checked-excess.ensures & c.checked-flue.ensures & c.checked-co.ensures & c.checked-minutes.ensures & done))
