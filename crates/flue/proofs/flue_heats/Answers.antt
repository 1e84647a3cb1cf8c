-- The stages that are lent are those of the block, and each is within its limits.
use Rattle.std.proofs.Common.{◌≡◌, length, arith, rules}
use Rattle.std.proofs.lemmas.List.{length-take}
use Rattle.sheet.specs.Shown.{stage}
use Rattle.sheet.specs.Quantities.{stages_most}
use Rattle.sheet.proofs.Sums.{unmapped, stage_beyond}
use Rattle.document.specs.Lawful.{StageIn}
use Rattle.formulas.proofs.Sums.{each_of, lent, begun, again, more-fits}
use Rattle.flue.proofs.flue_heats.Goals as goal

pub loop-stage-init : goal.loop-stage-init
loop-stage-init c = begun

pub stage_heats-heats-requires : goal.stage_heats-heats-requires
stage_heats-heats-requires c =
    let p = c.requires in
    let long : length c.args.stages.lines ≡ stages_most = search (rules, unmapped) in
    let own = lent c.args.stages.lines c.args.stages.count.0 long c.held-count.ensures in
    let h = each_of StageIn stage _ c.loop-stage.stage-index stage_beyond (rw (← own) at p.stages) c.loop-stage-test.true in
    record { moist = record { burns = record { burning = p.burning; stage = h }; moisture = p.moisture }; ambient = p.ambient }

pub plus-x7-requires : goal.plus-x7-requires
plus-x7-requires c = more-fits c.loop-stage.invariant.one c.stage_heats-heats.ensures.figure stages_most (omega (arith, length-take c.held-count.result c.args.stages.lines)) tt

pub plus-x8-requires : goal.plus-x8-requires
plus-x8-requires c = more-fits c.loop-stage.invariant.two c.stage_heats-heats.ensures.figure_2 stages_most (omega (arith, length-take c.held-count.result c.args.stages.lines)) tt

pub loop-stage-preserved : goal.loop-stage-preserved
loop-stage-preserved c =
    again stage_beyond c.loop-stage-test.true c.loop-stage.invariant c.stage_heats-heats.ensures.figure c.stage_heats-heats.ensures.figure_2 c.plus-x7.ensures
    c.plus-x8.ensures
