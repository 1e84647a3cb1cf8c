-- What the code finds of the fuel, column by column of table A.1.
use Rattle.std.specs.Prelude.{◌≡◌, ℤ, pos, ◌+ℤ◌, ◌-ℤ◌, ◌*ℤ◌}
use Rattle.std.specs.Int.{w64}
use Rattle.std.proofs.Common.{SFits}
use Rattle.sheet.specs.Firing.{Gas}
use Rattle.burning.specs.declared.mixture.Kind.{Kind}
use Rattle.burning.specs.declared.mixture.Warmth.{Warmth}
use Rattle.burning.specs.declared.mixture.Burning.{Burning as Burningˢ}
use Rattle.formulas.specs.Formulas.{mixed_heat, Burning, of_gas}
use Rattle.formulas.specs.Figures.{Within}
use Rattle.formulas.specs.Sizes.{mixed_cold_most, mixed_rise_most, air_most, dry_most, vapour_most}

-- a column's sum with one gas more, which does not overflow
pub record Fits (sum weight share : ℤ) : Type 0 where
  pub one : SFits w64 (weight *ℤ share)
  pub all : SFits w64 (sum +ℤ weight *ℤ share)

-- ---- specific heat
pub record WarmthFits (m : Warmth) (k : Kind) (share : ℤ) : Type 0 where
  pub difference : SFits w64 (k.hot -ℤ k.cold)
  pub cold : Fits m.cold k.cold share
  pub rise : Fits m.rise (k.hot -ℤ k.cold) share

pub record WarmthWith (m : Warmth) (k : Kind) (share : ℤ) (r : Warmth) : Type 0 where
  pub cold : r.cold ≡ m.cold +ℤ k.cold *ℤ share
  pub rise : r.rise ≡ m.rise +ℤ (k.hot -ℤ k.cold) *ℤ share

-- of a fuel
pub record Warmed (g : Gas) (m : Warmth) : Type 0 where
  pub heat : (T : ℤ) → m.cold *ℤ pos 1000 +ℤ m.rise *ℤ T ≡ mixed_heat g T
  pub cold : Within mixed_cold_most m.cold
  pub rise : Within mixed_rise_most m.rise

-- ---- burning
pub record BurningFits (m : Burningˢ) (k : Kind) (share : ℤ) : Type 0 where
  pub air : Fits m.air k.air share
  pub dry : Fits m.dry k.dry share
  pub vapour : Fits m.vapour k.vapour share

pub record BurningWith (m : Burningˢ) (k : Kind) (share : ℤ) (r : Burningˢ) : Type 0 where
  pub air : r.air ≡ m.air +ℤ k.air *ℤ share
  pub dry : r.dry ≡ m.dry +ℤ k.dry *ℤ share
  pub vapour : r.vapour ≡ m.vapour +ℤ k.vapour *ℤ share

-- a struct's record
abbrev pub burning : Burningˢ → Burning
burning m = record { air = m.air; dry = m.dry; vapour = m.vapour }

-- what no fuel exceeds
pub record BurningIn (b : Burning) : Type 0 where
  pub air : Within air_most b.air
  pub dry : Within dry_most b.dry
  pub vapour : Within vapour_most b.vapour

-- of a gas
pub record Burns (g : Gas) (m : Burningˢ) : Type 0 where
  pub is : burning m ≡ of_gas g
  pub within : BurningIn (burning m)
