-- The sum of two heats, and a third from the same volume. Assumes nothing.
use mathlib.Core.List.{[], ◌∷◌}
use borrow.Author.Rules.{rules}
use Rattle.arith.proofs.Machine.{raw, ◌⟨+⟩◌, ◌⟨*⟩◌}
use Rattle.sheet.specs.Shown.{stage}
use Rattle.formulas.specs.Formulas.{flue_heat}
use Rattle.formulas.proofs.Units.{plus}
use Rattle.formulas.proofs.Capacity.{capacity-most, carried-most}
use Rattle.formulas.proofs.Sizes.{within, most, fit}
use Rattle.flue.specs.Steps.{FilledIn}
use Rattle.flue.proofs.stage_heats.Statement.{statement}
use Rattle.flue.proofs.stage_heats.Tie as tie

dry-flue-requires : tie.Need-dry_flue-volume-requires
dry-flue-requires c κs = search rules

filled : (c : tie.After-dry_flue-volume) → FilledIn c.dry_flue-volume.result.0 (stage c.args.stage)
filled c =
    let p = c.requires.moist.burns in
    record { volume = c.dry_flue-volume.ensures.size; stage = p.stage }

flue-capacity-requires : tie.Need-flue_capacity-c-requires
flue-capacity-requires c κs = c.requires.moist.burns.stage

dry-heat-requires : tie.Need-dry_heat-dry-requires
dry-heat-requires c κs =
    let v = c.before in
    let p = v.requires in
    let stage = p.moist.burns.stage in
    rw c.flue_capacity-c.ensures
    (record {
      filled = filled v;
      first = fit (within v.dry_flue-volume.ensures.size ∷ within (capacity-most _ stage) ∷ []) (raw 0 ⟨*⟩ raw 1) tt;
      carried = carried-most _ stage p.ambient;
      ambient = p.ambient;
    })

vapour-heat-requires : tie.Need-vapour_heat-requires
vapour-heat-requires c κs = search rules

plus-requires : tie.Need-plus-x7-requires
plus-requires c κs =
    let v = c.before.before.before in
    let dry = c.dry_heat-dry.ensures _ v.dry_flue-volume.ensures in
    fit (within dry.size ∷ within c.vapour_heat.ensures.size ∷ []) (raw 0 ⟨+⟩ raw 1) tt

monoxide-heat-requires : tie.Need-monoxide_heat-x8-requires
monoxide-heat-requires c κs = filled c.before.before.before.before

returns : tie.Need-returns
unfolding flue_heat
returns c =
    let d = c.before.before.before in
    let v = d.dry_flue-volume.ensures in
    let vapour = c.vapour_heat.ensures in (
      let dry = rw d.flue_capacity-c.ensures at (d.dry_heat-dry.ensures _ v) in rw c.plus-x7.ensures
          (record { is = plus dry.is vapour.is; size = most (within dry.size ∷ within vapour.size ∷ []) (raw 0 ⟨+⟩ raw 1) tt }),
      c.monoxide_heat-x8.ensures _ v,
    )

pub stage_heats_spec : {M : Type 1} → statement M
stage_heats_spec =
    tie.close (tie.spec dry-flue-requires flue-capacity-requires dry-heat-requires vapour-heat-requires plus-requires monoxide-heat-requires returns)
