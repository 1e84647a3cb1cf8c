-- What is summed so far, twice, is the sum over the first stages.
use Rattle.sheet.specs.Shown.{stage}
use Rattle.formulas.specs.Rounding.{paper}
use Rattle.formulas.specs.Formulas.{joule, flue_heat, monoxide_heat}
use Rattle.formulas.specs.Sizes.{flue_heat_most, monoxide_heat_most}
use Rattle.formulas.proofs.Sums.{Both}
use Rattle.burning.specs.Mixture.{burning as burningOf}
use Rattle.flue.proofs.flue_heats.Given as goal

abbrev pub invariant-loop-stage : goal.invariant-loop-stage
invariant-loop-stage l =
    Both (flue_heat paper (burningOf l.burning) l.moisture.0 l.t.0) (monoxide_heat paper (burningOf l.burning)) stage l.stage-items
    joule flue_heat_most monoxide_heat_most l.stage-index l.x7.0 l.x8.0
