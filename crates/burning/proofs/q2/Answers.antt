-- Formula 2 is in thousand-millionths of a joule; `joules` rounds it.
use mathlib.Core.List.{List, [], ◌∷◌}
use Prim.Native.Nat.{◌/◌, ◌^◌}
use lib.IntN.{ℤ, pos}
use Rattle.arith.proofs.Machine.{Known, Mx, raw, num, ◌⟨+⟩◌, ◌⟨-⟩◌, ◌⟨*⟩◌}
use Rattle.formulas.specs.Formulas.{joule, gas_heat}
use Rattle.burning.specs.Steps.{WarmFuelIn}
use Rattle.formulas.proofs.Units.{units}
use Rattle.formulas.proofs.Sizes.{limits, within, fit, rounded}
use Rattle.burning.proofs.q2.Goals as goal

abbrev mixed : Mx
mixed = raw 1 ⟨*⟩ num (pos 1000) ⟨+⟩ raw 2 ⟨*⟩ raw 3

abbrev known : {n cold rise T t : ℤ} → WarmFuelIn n cold rise T t → List Known
known p = limits p.gas ∷ within p.start ∷ within p.on ∷ limits p.at ∷ limits p.from ∷ []

pub mixed_heat-requires : goal.mixed_heat-requires
mixed_heat-requires c =
    let ks = known c.requires in
    record { start = fit ks (raw 1 ⟨*⟩ num (pos 1000)) tt; on = fit ks (raw 2 ⟨*⟩ raw 3) tt; all = fit ks mixed tt }

pub brought-requires : goal.brought-requires
brought-requires c =
    let ks = known c.requires in
    rw (c.mixed_heat.ensures, c.above.ensures)
    (record { one = fit ks (raw 0 ⟨*⟩ mixed) tt; all = fit ks (raw 0 ⟨*⟩ mixed ⟨*⟩ (raw 3 ⟨-⟩ raw 4)) tt })

pub returns : goal.returns
unfolding gas_heat
returns c =
    rounded (known c.requires) (raw 0 ⟨*⟩ mixed ⟨*⟩ (raw 3 ⟨-⟩ raw 4)) (10 ^ 9) (joule / 10 ^ 9) tt units
    (rw (c.joules.ensures, c.brought.ensures, c.above.ensures, c.mixed_heat.ensures))
