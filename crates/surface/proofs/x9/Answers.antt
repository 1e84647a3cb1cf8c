-- Over all sections and stages it is the sum over the walls of the sheet.
use Rattle.std.proofs.Common.{◌≡◌, ◌<◌, min, length, rules, arith, subst, ap, Option}
use mathlib.Core.Path.{sym, ◌∙◌}
use Rattle.sheet.specs.declared.Reading.{Reading}
use Rattle.surface.specs.Cells.{ReadingIn}
use Rattle.sheet.specs.Quantities.{sections_most, stages_most}
use Rattle.sheet.specs.Shown.{cell, was_read}
use Rattle.sheet.proofs.Sums.{unmapped}
use Rattle.formulas.specs.Formulas.{joule}
use Rattle.formulas.specs.Sizes.{cells_most, wall_heat_most}
use Rattle.formulas.proofs.Sums.{more-fits, at_most}
use Rattle.surface.proofs.Terms.{read_of, wall_of}
use Rattle.surface.proofs.Grid.{begun, row-begun, cell-more, row-ended}
use Rattle.surface.proofs.Cells.{true_not_false}
use Rattle.surface.proofs.Coded.{read, cell_in, coded-total}
use Rattle.surface.proofs.x9.Goals as goal
use Rattle.surface.proofs.x9.Goals.{in-Some, in_default}

pub gathered-requires : goal.gathered-requires
gathered-requires c =
    let long : length c.args.sections.lines ≡ sections_most = search (rules, unmapped) in
    let wide : length c.args.stages.lines ≡ stages_most = search (rules, unmapped) in
    (omega arith, omega arith, λ i j h k x e. subst (λ (o : Option Reading). ReadingIn (read_of o)) e (cell_in c.requires.1 long wide i j (omega arith) (omega arith)).wall.reading)

pub loop-i-init : goal.loop-i-init
loop-i-init c = begun joule wall_heat_most _ _

pub loop-j-init : goal.loop-j-init
loop-j-init c = row-begun joule wall_heat_most _ _ c.loop-i.i c.loop-i.invariant

pub wall_heat-requires : goal.wall_heat-requires
wall_heat-requires c =
    let long : length c.args.sections.lines ≡ sections_most = search (rules, unmapped) in
    let wide : length c.args.stages.lines ≡ stages_most = search (rules, unmapped) in
    let row : c.loop-i.i < min c.args.sections.count.0 sections_most = omega (arith, c.held-rows.ensures) in
    let column : c.loop-j.j < min c.args.stages.count.0 stages_most = omega (arith, c.held-columns.ensures) in
    let lost = cell_in c.requires.1 long wide c.loop-i.i c.loop-j.j row column in
    let reading = subst (λ (o : Option Reading). ReadingIn (read_of o)) c.in-Some.is lost.wall.reading in
    record { wall = record { reading = reading; section = lost.wall.section }; stage = lost.stage }

pub plus-sum-requires : goal.plus-sum-requires
plus-sum-requires c =
    let same = ap read_of c.in-Some.is in
    let w = wall_of (read_of (cell c.args.readings c.loop-i.i c.loop-j.j)) in
    let heat = c.wall_heat.ensures w (ap (λ (x : Reading). x.surface.0) same) (ap (λ (x : Reading). x.air.0) same) in
    more-fits c.loop-j.invariant heat cells_most (omega arith) tt

pub loop-j-preserved : goal.loop-j-preserved
loop-j-preserved c =
    let long : length c.args.sections.lines ≡ sections_most = search (rules, unmapped) in
    let wide : length c.args.stages.lines ≡ stages_most = search (rules, unmapped) in
    let row : c.loop-i.i < min c.args.sections.count.0 sections_most = omega (arith, c.held-rows.ensures) in
    let column : c.loop-j.j < min c.args.stages.count.0 stages_most = omega (arith, c.held-columns.ensures) in
    let w = wall_of (read_of (cell c.args.readings c.loop-i.i c.loop-j.j)) in
    elim c.match-row-j.branch [
      | in-Some t ↦
          let same = ap read_of t.in-Some.is in
          let heat = t.wall_heat.ensures w (ap (λ (x : Reading). x.surface.0) same) (ap (λ (x : Reading). x.air.0) same) in
          rw (t.sum-is, t.plus-sum.ensures) (cell-more joule wall_heat_most _ _ c.loop-i.i c.loop-j.j c.loop-j.invariant heat)
      | in_default t ↦
          let none = sym (read c.requires.1 long wide c.loop-i.i c.loop-j.j row column) ∙ ap was_read t.in_default.is in
          absurd (true_not_false none)
    ]

pub loop-i-preserved : goal.loop-i-preserved
loop-i-preserved c = row-ended joule wall_heat_most _ _ c.loop-i.i c.loop-j.j (omega arith) (omega arith) c.loop-j.invariant

pub returns : goal.returns
returns c =
    let long : length c.args.sections.lines ≡ sections_most = search (rules, unmapped) in
    let wide : length c.args.stages.lines ≡ stages_most = search (rules, unmapped) in
    let rows : min c.args.sections.count.0 sections_most ≡ c.loop-i.i = omega arith in
    let columns : min c.args.stages.count.0 stages_most ≡ c.held-columns.result = omega arith in
    let all = at_most cells_most (omega arith) c.loop-i.invariant in
    λ f seen. rw (← coded-total seen long wide, rows, columns) all
