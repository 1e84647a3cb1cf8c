-- What the code of the fuel's heats asks: that no step of it leaves an i64, or the ranges from which that follows.
use Rattle.std.specs.Prelude.{ℤ, pos, ◌+ℤ◌, ◌*ℤ◌}
use Rattle.std.specs.Int.{w64}
use Rattle.std.proofs.Common.{SFits}
use Rattle.sheet.specs.Quantities.{ambient, heating, fuel_temperature, gas_total}
use Rattle.document.specs.Lawful.{In}
use Rattle.formulas.specs.Figures.{Within}
use Rattle.formulas.specs.Sizes.{mixed_cold_most, mixed_rise_most}

pub record MixedFits (cold rise T : ℤ) : Type 0 where
  pub start : SFits w64 (cold *ℤ pos 1000)
  pub on : SFits w64 (rise *ℤ T)
  pub all : SFits w64 (cold *ℤ pos 1000 +ℤ rise *ℤ T)

pub record FuelIn (n value : ℤ) : Type 0 where
  pub gas : In gas_total n
  pub heating : In heating value

pub record WarmFuelIn (n cold rise T t : ℤ) : Type 0 where
  pub gas : In gas_total n
  pub start : Within mixed_cold_most cold
  pub on : Within mixed_rise_most rise
  pub at : In fuel_temperature T
  pub from : In ambient t
