-- The parts that are lent are those of the block, and each is within its limits.
use Rattle.std.proofs.Common.{◌≡◌, length, ℤ, rules}
use Rattle.sheet.specs.Firing.{Part}
use Rattle.sheet.specs.Shown.{part}
use Rattle.sheet.specs.Quantities.{parts_most}
use Rattle.sheet.proofs.Sums.{unmapped}
use Rattle.document.specs.Lawful.{PartIn}
use Rattle.formulas.specs.Rounding.{paper}
use Rattle.formulas.specs.Formulas.{sensible, q8, x10}
use Rattle.formulas.proofs.Sums.{lent}
use Rattle.solids.proofs.Blocks.{every_kept, sum_shown}
use Rattle.solids.proofs.records.part_heats.Goals as goal

pub all_heats-heats-requires-clause-each : goal.all_heats-heats-requires-clause-each
all_heats-heats-requires-clause-each c =
    let long : length c.args.parts.lines ≡ parts_most = search (rules, unmapped) in
    let own = lent c.args.parts.lines c.args.parts.count.0 long c.held-count.ensures in
    every_kept PartIn _ part (λ x h. (h, c.requires.other)) _ (rw (← own) at c.requires.each)

pub returns-clause-figure : goal.returns-clause-figure
unfolding q8
returns-clause-figure c =
    let long : length c.args.parts.lines ≡ parts_most = search (rules, unmapped) in
    let own = lent c.args.parts.lines c.args.parts.count.0 long c.held-count.ensures in
    let heat : Part → ℤ = λ s. sensible paper s.mass s.stuff s.before c.args.t.0 in
    λ f e₁ e₂. rw (e₁, e₂, ← sum_shown heat part, ← own) c.all_heats-heats.ensures.brings

pub returns-clause-figure_2 : goal.returns-clause-figure_2
unfolding x10
returns-clause-figure_2 c =
    let long : length c.args.parts.lines ≡ parts_most = search (rules, unmapped) in
    let own = lent c.args.parts.lines c.args.parts.count.0 long c.held-count.ensures in
    let heat : Part → ℤ = λ s. sensible paper s.mass s.stuff s.firing c.args.t.0 in
    λ f e₁ e₂. rw (e₁, e₂, ← sum_shown heat part, ← own) c.all_heats-heats.ensures.takes
