-- The product of mass, specific heat and rise is in millionths of a joule; `joules` rounds it.
use mathlib.Core.List.{[], ◌∷◌}
use Prim.Native.Nat.{◌/◌, ◌^◌}
use Rattle.arith.proofs.Machine.{raw, ◌⟨-⟩◌, ◌⟨*⟩◌}
use Rattle.formulas.specs.Formulas.{joule, sensible}
use Rattle.formulas.proofs.Units.{units}
use Rattle.formulas.proofs.Sizes.{within, fit, rounded}
use Rattle.solids.proofs.material.sensible.Goals as goal

pub stored-requires : goal.stored-requires
stored-requires c =
    let p = c.requires in
    let ks = within p.mass ∷ within c.specific_heat-c.ensures.size ∷ within p.at ∷ within p.from ∷ [] in
    rw c.above.ensures (record { one = fit ks (raw 0 ⟨*⟩ raw 1) tt; all = fit ks (raw 0 ⟨*⟩ raw 1 ⟨*⟩ (raw 2 ⟨-⟩ raw 3)) tt })

pub returns : goal.returns
unfolding sensible
returns c =
    let h = c.specific_heat-c.ensures in
    let p = c.requires in
    let ks = within p.mass ∷ within (rw h.is at h.size) ∷ within p.at ∷ within p.from ∷ [] in
    rounded ks (raw 0 ⟨*⟩ raw 1 ⟨*⟩ (raw 2 ⟨-⟩ raw 3)) (10 ^ 6) (joule / 10 ^ 6) tt units
    (rw (c.joules.ensures, c.stored.ensures, c.above.ensures, h.is))
