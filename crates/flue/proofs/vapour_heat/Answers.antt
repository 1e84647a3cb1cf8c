-- The rounded mass times 1.93 times the rise is in millionths of a joule; `joules` rounds it.
use mathlib.Core.List.{[], ◌∷◌}
use Prim.Native.Nat.{◌*◌, ◌/◌, ◌^◌}
use lib.IntN.{pos, ◌-ℤ◌}
use Rattle.arith.proofs.Machine.{raw, num, ◌⟨-⟩◌, ◌⟨*⟩◌}
use Rattle.formulas.specs.Formulas.{joule, vapour_heat}
use Rattle.formulas.proofs.Units.{times, finer}
use Rattle.formulas.proofs.Capacity.{flue_in}
use Rattle.formulas.proofs.Sizes.{limits, within, fit, rounded}
use Rattle.flue.proofs.vapour_heat.Goals as goal

pub vapour_carried-requires : goal.vapour_carried-requires
vapour_carried-requires c =
    let p = c.requires in
    let ks = within c.vapour.ensures.size ∷ limits (flue_in _ p.moist.burns.stage) ∷ limits p.ambient ∷ [] in
    rw (c.above-rise.ensures, c.from.ensures)
    (record { one = fit ks (raw 0 ⟨*⟩ num (pos 193)) tt; all = fit ks (raw 0 ⟨*⟩ num (pos 193) ⟨*⟩ (raw 1 ⟨-⟩ raw 2)) tt })

pub returns : goal.returns
unfolding vapour_heat
returns c =
    let mass = c.vapour.ensures in
    let rise = c.args.stage.flue.0 -ℤ c.args.t.0 in
    rounded (within mass.size ∷ limits (flue_in _ c.requires.moist.burns.stage) ∷ limits c.requires.ambient ∷ [])
    (raw 0 ⟨*⟩ num (pos 193) ⟨*⟩ (raw 1 ⟨-⟩ raw 2)) (10 ^ 6) (joule / 10 ^ 6) tt
    (finer (times (times mass.is (pos 193)) rise) (joule / (56 * 10 ^ 17)))
    (rw (c.joules.ensures, c.vapour_carried.ensures, c.above-rise.ensures, c.from.ensures))
