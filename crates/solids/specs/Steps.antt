-- What each formula's code asks: that no step of it leaves an i64, or the ranges from which that follows.
use Rattle.std.specs.Prelude.{ℕ, ◌<◌, max, ◌≡◌, List, map, ℤ, pos, ◌+ℤ◌, ◌-ℤ◌, ◌*ℤ◌, take}
use Rattle.std.specs.Int.{w64}
use Rattle.std.proofs.Common.{SFits}
use Rattle.sheet.specs.declared.Setters.{Setters as Settersˢ}
use Rattle.sheet.specs.declared.Parts.{Parts as Partsˢ}
use Rattle.sheet.specs.Firing.{Stuff, Ware, Water, Setter, Part}
use Rattle.sheet.specs.Shown.{setter, part}
use Rattle.sheet.specs.Quantities.{product, ambient, mass, temperature, setters_most, parts_most}
use Rattle.document.specs.Rules.{Every}
use Rattle.document.specs.Lawful.{In, StuffIn, WareIn, WaterIn}
use Rattle.formulas.specs.Tables.{row_of, straight_at}
use Rattle.formulas.specs.Figures.{Within}
use Rattle.formulas.specs.Sizes.{greatest}

-- ---- specific heat
-- a line of table A.2 with the coefficients of the one that holds
pub record RowIs (m : ℕ) (T : ℤ) (i : ℕ) : Type 0 where
  pub small : i < 21
  pub same : straight_at i ≡ straight_at (row_of m T)

pub record StraightFits (a b T : ℤ) : Type 0 where
  pub start : SFits w64 (a *ℤ pos 100000)
  pub rise : SFits w64 (b *ℤ T)
  pub all : SFits w64 (a *ℤ pos 100000 +ℤ b *ℤ T)

pub record Heated (x : Stuff) (T : ℤ) : Type 0 where
  pub stuff : StuffIn x
  pub at : Within (greatest temperature) T

-- ---- m c (T − T₀)
pub record Warmed (m : ℤ) (x : Stuff) (T T₀ : ℤ) : Type 0 where
  pub mass : Within (greatest mass) m
  pub stuff : StuffIn x
  pub at : Within (greatest temperature) T
  pub from : Within (greatest temperature) T₀

-- ---- the lines of a block
abbrev pub setters_of : Settersˢ → List Setter
setters_of x = map setter (take x.count.0 x.lines)

abbrev pub parts_of : Partsˢ → List Part
parts_of x = map part (take x.count.0 x.lines)

-- no block has more of them, of setters or of parts
abbrev pub records_most : ℕ
records_most = max setters_most parts_most

-- setters or parts within their limits, and the other temperature
pub record Loads {A : Type 0} (In₁ : A → Type 0) (l : List A) (T : ℤ) : Type 0 where
  pub each : Every In₁ l
  pub other : Within (greatest temperature) T

-- ---- ware, water and clay
pub record WareWarmed (x : Ware) (T : ℤ) : Type 0 where
  pub ware : WareIn x
  pub ambient : Within (greatest temperature) T

pub record WareFired (m : ℤ) (x : Ware) : Type 0 where
  pub product : In product m
  pub ware : WareIn x

-- (14)
pub record SteamFits (adsorbed crystal rise : ℤ) : Type 0 where
  pub both : SFits w64 (adsorbed +ℤ crystal)
  pub on : SFits w64 (pos 193 *ℤ rise)
  pub bracket : SFits w64 (pos 2490000 +ℤ pos 193 *ℤ rise)
  pub all : SFits w64 ((adsorbed +ℤ crystal) *ℤ (pos 2490000 +ℤ pos 193 *ℤ rise))

-- (33)
pub record BoiledFits (entry Δ : ℤ) : Type 0 where
  pub below : SFits w64 (pos 1000 -ℤ entry)
  pub water : SFits w64 ((pos 1000 -ℤ entry) *ℤ pos 418)
  pub on : SFits w64 (Δ *ℤ pos 1930)
  pub steam : SFits w64 (pos 2260000 +ℤ Δ *ℤ pos 1930)
  pub all : SFits w64 ((pos 1000 -ℤ entry) *ℤ pos 418 +ℤ (pos 2260000 +ℤ Δ *ℤ pos 1930))

pub record TwoWatersFits (adsorbed a crystal b : ℤ) : Type 0 where
  pub first : SFits w64 (adsorbed *ℤ a)
  pub second : SFits w64 (crystal *ℤ b)
  pub all : SFits w64 (adsorbed *ℤ a +ℤ crystal *ℤ b)

pub record WetIn (x : Water) (T : ℤ) : Type 0 where
  pub water : WaterIn x
  pub ambient : In ambient T

pub record SoakedIn (x : Water) (T : ℤ) : Type 0 where
  pub water : WaterIn x
  pub entry : In temperature T
