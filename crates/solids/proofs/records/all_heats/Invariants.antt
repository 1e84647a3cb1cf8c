-- What is summed so far, twice, is the sum over the first records.
use Rattle.formulas.specs.Formulas.{joule}
use Rattle.formulas.specs.Sizes.{sensible_most}
use Rattle.formulas.proofs.Sums.{Both}
use Rattle.solids.proofs.records.all_heats.Given as goal

abbrev pub invariant-loop-line : goal.invariant-loop-line
invariant-loop-line g l =
    Both (λ x. g.L.Load.brought x l.at) (λ x. g.L.Load.taken x l.at) (λ x. x) l.lines joule sensible_most sensible_most l.line-index l.brought.0 l.taken.0
