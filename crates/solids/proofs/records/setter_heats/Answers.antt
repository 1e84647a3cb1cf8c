-- The setters that are lent are those of the block, and each is within its limits.
use Rattle.std.proofs.Common.{◌≡◌, length, ℤ, rules}
use Rattle.sheet.specs.Firing.{Setter}
use Rattle.sheet.specs.Shown.{setter}
use Rattle.sheet.specs.Quantities.{setters_most}
use Rattle.sheet.proofs.Sums.{unmapped}
use Rattle.document.specs.Lawful.{SetterIn}
use Rattle.formulas.specs.Rounding.{paper}
use Rattle.formulas.specs.Formulas.{sensible, q3, x5}
use Rattle.formulas.proofs.Sums.{lent}
use Rattle.solids.proofs.Blocks.{every_kept, sum_shown}
use Rattle.solids.proofs.records.setter_heats.Goals as goal

pub all_heats-heats-requires-clause-each : goal.all_heats-heats-requires-clause-each
all_heats-heats-requires-clause-each c =
    let long : length c.args.setters.lines ≡ setters_most = search (rules, unmapped) in
    let own = lent c.args.setters.lines c.args.setters.count.0 long c.held-count.ensures in
    every_kept SetterIn _ setter (λ x h. (h, c.requires.loads.other, c.requires.within)) _ (rw (← own) at c.requires.loads.each)

pub returns-clause-figure : goal.returns-clause-figure
unfolding q3
returns-clause-figure c =
    let long : length c.args.setters.lines ≡ setters_most = search (rules, unmapped) in
    let own = lent c.args.setters.lines c.args.setters.count.0 long c.held-count.ensures in
    let heat : Setter → ℤ = λ s. sensible paper s.mass s.stuff s.entry c.args.t.0 in
    λ f e₁ e₂. rw (e₁, e₂, ← sum_shown heat setter, ← own) c.all_heats-heats.ensures.brings

pub returns-clause-figure_2 : goal.returns-clause-figure_2
unfolding x5
returns-clause-figure_2 c =
    let long : length c.args.setters.lines ≡ setters_most = search (rules, unmapped) in
    let own = lent c.args.setters.lines c.args.setters.count.0 long c.held-count.ensures in
    let heat : Setter → ℤ = λ s. sensible paper s.mass s.stuff c.args.highest.0 s.entry in
    λ f e₁ e₂. rw (e₁, e₂, ← sum_shown heat setter, ← own) c.all_heats-heats.ensures.takes
