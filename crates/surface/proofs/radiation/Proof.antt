-- The exact difference is the formula's, and `units` rounds it. Assumes nothing.
use mathlib.Core.Path.{refl}
use mathlib.Core.List.{List, [], ◌∷◌}
use Prim.Native.Nat.{ℕ, ◌^◌}
use borrow.Author.Rules.{rules}
use mir.Syntax.{w64}
use mir.Val.{SFits}
use mir.Facts.{to_z-of_z}
use lib.IntN.{ℤ, pos}
use Rattle.arith.proofs.Machine.{Known, Mx, raw, num, ◌⟨+⟩◌, ◌⟨-⟩◌, ◌⟨*⟩◌}
use Rattle.formulas.specs.Formulas.{radiation}
use Rattle.sheet.specs.Quantities.{surface}
use Rattle.formulas.specs.Figures.{Within}
use Rattle.formulas.specs.Sizes.{greatest}
use Rattle.surface.specs.Cells.{FourthFits, HotIn}
use Rattle.formulas.proofs.Units.{exactly}
use Rattle.formulas.proofs.Sizes.{sized, within, limits, fit, rounded}
use Rattle.surface.proofs.radiation.Statement.{statement}
use Rattle.surface.proofs.radiation.Tie as tie

abbrev kelvin : ℕ → Mx
kelvin i = num (pos 2730) ⟨+⟩ raw i

abbrev power : ℕ → Mx
power i = kelvin i ⟨*⟩ kelvin i ⟨*⟩ kelvin i ⟨*⟩ kelvin i

abbrev known : {T T₀ : ℤ} → HotIn T T₀ → List Known
known p = limits p.surface ∷ limits p.air ∷ []

-- either temperature: the air is not as hot as a surface can be
fourth-fits : {T : ℤ} → Within (greatest surface) T → FourthFits T
fourth-fits h =
    let ks = within h ∷ [] in
    record {
      one = fit ks (kelvin 0) tt;
      two = fit ks (kelvin 0 ⟨*⟩ kelvin 0) tt;
      three = fit ks (kelvin 0 ⟨*⟩ kelvin 0 ⟨*⟩ kelvin 0) tt;
      four = fit ks (power 0) tt;
    }

fourth-power-requires : tie.Need-fourth_power-requires
fourth-power-requires c κs = fourth-fits (sized c.requires.surface tt)

fourth-power-requires-2 : tie.Need-fourth_power-requires-2
fourth-power-requires-2 c κs = fourth-fits (sized c.requires.air tt)

radiated-requires : tie.Need-radiated-requires
radiated-requires c κs =
    let ks = known c.requires in
    rw (c.fourth_power.ensures, c.fourth_power-2.ensures)
    (record { difference = fit ks (power 0 ⟨-⟩ power 1) tt; all = fit ks (num (pos 454) ⟨*⟩ (power 0 ⟨-⟩ power 1)) tt })

units-requires : tie.Need-units-requires
units-requires c κs = rw c.radiated.ensures (search rules)

returns : tie.Need-returns
unfolding radiation
returns told =
    let c = told.before in
    let fits : SFits w64 c.units.result.0 = search rules in
    let air = c.before.before in
    let surface = air.before in
    λ w e₁ e₂.
    rw (e₁, e₂) (rounded (known surface.requires) (num (pos 454) ⟨*⟩ (power 0 ⟨-⟩ power 1)) (10 ^ 9) 1 tt (exactly refl)
    (rw (to_z-of_z fits, c.units.ensures, c.radiated.ensures, air.fourth_power-2.ensures, surface.fourth_power.ensures)))

pub radiation_spec : {M : Type 1} → statement M
radiation_spec =
    tie.close
    (tie.spec fourth-power-requires fourth-power-requires-2 radiated-requires units-requires returns)
