-- Formula 33 is in tenths of a joule; `joules` rounds it.
use mathlib.Core.List.{[], ◌∷◌}
use Prim.Native.Nat.{ℕ, ◌/◌}
use lib.IntN.{pos}
use Rattle.arith.proofs.Machine.{Mx, raw, num, ◌⟨+⟩◌, ◌⟨-⟩◌, ◌⟨*⟩◌}
use Rattle.formulas.specs.Formulas.{joule, water_heat}
use Rattle.formulas.proofs.Units.{units}
use Rattle.formulas.proofs.Sizes.{limits, fit, rounded}
use Rattle.solids.proofs.water.water_heat.Goals as goal

-- (33), with the ware's temperature as variable i
abbrev boil : ℕ → ℕ → Mx
boil i Δ = (num (pos 1000) ⟨-⟩ raw i) ⟨*⟩ num (pos 418) ⟨+⟩ (num (pos 2260000) ⟨+⟩ num (pos Δ) ⟨*⟩ num (pos 1930))

pub two_waters-requires : goal.two_waters-requires
two_waters-requires c =
    let p = c.requires in
    let ks = limits p.water.adsorbed ∷ limits p.water.crystal ∷ limits p.entry ∷ [] in
    rw (c.boiled.ensures, c.boiled-2.ensures)
    (record {
      first = fit ks (raw 0 ⟨*⟩ boil 2 25) tt;
      second = fit ks (raw 1 ⟨*⟩ boil 2 450) tt;
      all = fit ks (raw 0 ⟨*⟩ boil 2 25 ⟨+⟩ raw 1 ⟨*⟩ boil 2 450) tt;
    })

pub returns : goal.returns
unfolding water_heat
returns c =
    let p = c.requires in
    let ks = limits p.water.adsorbed ∷ limits p.water.crystal ∷ limits p.entry ∷ [] in
    λ f e₁ e₂.
    rw (e₁, e₂) (rounded ks (raw 0 ⟨*⟩ boil 2 25 ⟨+⟩ raw 1 ⟨*⟩ boil 2 450) 10 (joule / 10) tt units
    (rw (c.joules.ensures, c.two_waters.ensures, c.boiled-2.ensures, c.boiled.ensures)))
