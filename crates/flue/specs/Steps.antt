-- What each formula's code asks: that no step of it leaves an i64, or the ranges from which that follows.
use Rattle.std.specs.Prelude.{ℕ, ◌^◌, List, ℤ, pos, nat_abs, ◌+ℤ◌, ◌-ℤ◌, ◌*ℤ◌}
use Rattle.std.specs.Int.{w64}
use Rattle.std.proofs.Common.{SFits}
use Rattle.sheet.specs.Firing.{Stage}
use Rattle.sheet.specs.Quantities.{ambient, moisture, analysed_flue}
use Rattle.document.specs.Rules.{Every}
use Rattle.document.specs.Lawful.{In, StageIn}
use Rattle.formulas.specs.Rounding.{paper}
use Rattle.formulas.specs.Tables.{flue_row}
use Rattle.formulas.specs.Formulas.{Burning, dry_flue}
use Rattle.formulas.specs.Figures.{Within, Figure}
use Rattle.formulas.specs.Sizes.{dry_flue_most, carried_most}
use Rattle.burning.specs.Mixture.{BurningIn}

pub record DryFits (excess dry air : ℤ) : Type 0 where
  pub more : SFits w64 (excess -ℤ pos 210)
  pub aired : SFits w64 ((excess -ℤ pos 210) *ℤ air)
  pub all : SFits w64 (dry +ℤ (excess -ℤ pos 210) *ℤ air)

pub record RateFits (excess air X vapour : ℤ) : Type 0 where
  pub dense : SFits w64 (pos 1293 *ℤ excess)
  pub aired : SFits w64 (pos 1293 *ℤ excess *ℤ air)
  pub moist : SFits w64 (pos 1293 *ℤ excess *ℤ air *ℤ X)
  pub over : SFits w64 (pos 1293 *ℤ excess *ℤ air *ℤ X *ℤ pos 56)
  pub all : SFits w64 (pos 1293 *ℤ excess *ℤ air *ℤ X *ℤ pos 56 +ℤ vapour)

-- the hottest flue that is analysed
abbrev pub hottest : ℕ
hottest = nat_abs analysed_flue.greatest

-- the greatest entry of the table, CO2's in its last row
abbrev pub entry_most : ℕ
entry_most = (flue_row 10).co2

-- a stage that burns a fuel
pub record BurnsIn (b : Burning) (s : Stage) : Type 0 where
  pub burning : BurningIn b
  pub stage : StageIn s

-- n hundred-thousandths of a cubic metre are the dry flue gas of a stage
abbrev pub Volume : Burning → Stage → ℤ → Type 0
Volume b s n = Figure (10 ^ 5) dry_flue_most n (dry_flue paper b s)

-- a stage, and so much dry flue gas as one can give
pub record FilledIn (n : ℤ) (s : Stage) : Type 0 where
  pub volume : Within dry_flue_most n
  pub stage : StageIn s

-- and its c: what has a size is c (flue − t), since a flue gas of greater c may leave colder
pub record DryIn (n c : ℤ) (s : Stage) (t : ℤ) : Type 0 where
  pub filled : FilledIn n s
  pub first : SFits w64 (n *ℤ c)
  pub carried : Within carried_most (c *ℤ (s.flue -ℤ t))
  pub ambient : In ambient t

pub record MoistIn (b : Burning) (X : ℤ) (s : Stage) : Type 0 where
  pub burns : BurnsIn b s
  pub moisture : In moisture X

pub record FlueIn (b : Burning) (X : ℤ) (s : Stage) (t : ℤ) : Type 0 where
  pub moist : MoistIn b X s
  pub ambient : In ambient t

-- all stages
pub record AllFlueIn (b : Burning) (X : ℤ) (l : List Stage) (t : ℤ) : Type 0 where
  pub burning : BurningIn b
  pub stages : Every StageIn l
  pub moisture : In moisture X
  pub ambient : In ambient t
