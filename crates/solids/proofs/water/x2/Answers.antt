-- Formula 14 is in tenths of a joule; `joules` rounds it.
use mathlib.Core.List.{[], ◌∷◌}
use Prim.Native.Nat.{◌/◌}
use lib.IntN.{pos}
use Rattle.arith.proofs.Machine.{Mx, raw, num, ◌⟨+⟩◌, ◌⟨-⟩◌, ◌⟨*⟩◌}
use Rattle.formulas.specs.Formulas.{joule, x2}
use Rattle.formulas.proofs.Units.{units}
use Rattle.formulas.proofs.Sizes.{limits, fit, rounded}
use Rattle.solids.proofs.water.x2.Goals as goal

-- 2490 + 1.93 (flue − t)
abbrev bracket : Mx
bracket = num (pos 2490000) ⟨+⟩ num (pos 193) ⟨*⟩ (raw 2 ⟨-⟩ raw 3)

pub returns : goal.returns
unfolding x2
returns c =
    let p = c.requires in
    let ks = limits p.water.adsorbed ∷ limits p.water.crystal ∷ limits p.water.flue ∷ limits p.ambient ∷ [] in
    λ f e₁ e₂.
    rw (e₁, e₂) (rounded ks ((raw 0 ⟨+⟩ raw 1) ⟨*⟩ bracket) 10 (joule / 10) tt units
    (rw (c.joules.ensures, c.steam.ensures, c.above.ensures, c.from.ensures)))

pub steam-requires : goal.steam-requires
steam-requires c =
    let p = c.requires in
    let ks = limits p.water.adsorbed ∷ limits p.water.crystal ∷ limits p.water.flue ∷ limits p.ambient ∷ [] in
    rw (c.above.ensures, c.from.ensures)
    (record {
      both = fit ks (raw 0 ⟨+⟩ raw 1) tt;
      on = fit ks (num (pos 193) ⟨*⟩ (raw 2 ⟨-⟩ raw 3)) tt;
      bracket = fit ks bracket tt;
      all = fit ks ((raw 0 ⟨+⟩ raw 1) ⟨*⟩ bracket) tt;
    })
