-- ALL RULES OF A FIRING, by name and in plain words: each quantity between its least and its greatest, and document 01's rules 4 to 10.
-- A sheet passes the reader's tests just where its firing keeps these (`sheet_lawful`, `lawful_keeps`).
use Rattle.std.specs.Prelude.{◌≤◌, ◌≡◌, List, [], ◌∷◌, length, Bool, true, false, ℤ, pos, ◌+ℤ◌, ◌≤ℤ◌, ◌<ℤ◌}
use Rattle.std.proofs.Math.Option.{Option, none, some}
use Rattle.sheet.specs.Firing.{Stuff, Gas, Ware, Water, Analysis, Stage, Setter, Part, Section, Wall, Firing}
use Rattle.sheet.specs.Block.{sum, total_gas}
use Rattle.sheet.specs.Quantities.{edition, firing, product, ambient, heating, fuel_temperature, share, moisture, mass, temperature, material, capacity, flue, cubic_metres, excess, monoxide, analysed_flue, pair, oxygen, analysis_most, minutes, section_number, place, area, stage_number, surface, near_air, gas_total, stages_most, setters_most, parts_most, sections_most, walls_most, Field, stages_least, sections_least}
use Rattle.document.specs.Tests.{weigh, air_weights}
use Rattle.document.specs.Rules.{Every, NoTwo, OwnHeat, SameNumber, Listed, SameReading, AllRead}
use Rattle.document.specs.Rows.{gas_row, analysed}

pub record In (f : Field) (z : ℤ) : Type 0 where
  pub low : f.least ≤ℤ z
  pub high : z ≤ℤ f.greatest

-- as many numbers as fields, each in its range
abbrev pub InRanges : List Field → List ℤ → Type 0
InRanges [] [] = Unit {0}
InRanges [] (z ∷ zs) = ⊥
InRanges (f ∷ fs) [] = ⊥
InRanges (f ∷ fs) (z ∷ zs) = In f z × InRanges fs zs

pub record StuffIn (x : Stuff) : Type 0 where
  pub material : In material x.material
  pub c : In capacity x.c
  pub own : OwnHeat x.material x.c  -- 4

pub record WareIn (x : Ware) : Type 0 where
  pub green : In mass x.green
  pub entry : In temperature x.entry
  pub highest : In temperature x.highest
  pub stuff : StuffIn x.stuff

pub record WaterIn (x : Water) : Type 0 where
  pub adsorbed : In mass x.adsorbed
  pub crystal : In mass x.crystal
  pub flue : In flue x.flue

-- the temperature of a stage's flue, which with an analysis has another range, and the analysis, beside the stage's CO
pub record AnalysisIn (T co : ℤ) (a : Analysis) : Type 0 where
  pub flue : In analysed_flue T
  pub pair : In pair a.pair
  pub oxygen : In oxygen a.oxygen
  pub together : (co +ℤ a.pair +ℤ a.oxygen) ≤ℤ pos analysis_most  -- 14

abbrev pub FlueIn : ℤ → ℤ → Option Analysis → Type 0
FlueIn T co none = In flue T
FlueIn T co (some a) = AnalysisIn T co a

pub record StageIn (x : Stage) : Type 0 where
  pub gas : In cubic_metres x.gas
  pub excess : In excess x.excess
  pub flue : FlueIn x.flue x.co x.analysis
  pub co : In monoxide x.co
  pub minutes : In minutes x.minutes

-- a stage has an analysis just where its sheet has one
abbrev pub has : {A : Type 0} → Option A → Bool
has none = false
has (some a) = true

abbrev pub Own : ℤ → Stage → Type 0
Own edition x = has x.analysis ≡ analysed edition

pub record SetterIn (x : Setter) : Type 0 where
  pub mass : In mass x.mass
  pub entry : In temperature x.entry
  pub stuff : StuffIn x.stuff

pub record PartIn (x : Part) : Type 0 where
  pub mass : In mass x.mass
  pub stuff : StuffIn x.stuff
  pub before : In temperature x.before
  pub firing : In temperature x.firing

pub record SectionIn (x : Section) : Type 0 where
  pub number : In section_number x.number
  pub place : In place x.place
  pub area : In area x.area

-- 5: the shares, each in its range, adding to 10,000, with theoretical air above 0
pub record GasIn (g : Gas) : Type 0 where
  pub each : Every (In share) (gas_row g).numbers
  pub sum : sum (λ z. z) (gas_row g).numbers ≡ pos 10000
  pub air : pos 0 <ℤ weigh air_weights (gas_row g).numbers

-- 6, 9: a reading at a listed section in one of the stages, not colder than the air near it
pub record WallIn (f : Firing) (w : Wall) : Type 0 where
  pub section : In section_number w.section
  pub stage : In stage_number w.stage
  pub surface : In surface w.surface
  pub air : In near_air w.air
  pub listed : Listed f.sections w
  pub staged : w.stage ≤ℤ pos (length f.stages)
  pub warmer : w.air ≤ℤ w.surface

-- THE RULES
pub record Lawful (f : Firing) : Type 0 where
  pub edition : In edition f.edition
  pub number : In firing f.number
  pub product : In product f.product
  pub ambient : In ambient f.ambient
  pub heating : In heating f.fuel.heating
  pub fuel_temperature : In fuel_temperature f.fuel.temperature
  pub gas : GasIn f.gas
  pub moisture : In moisture f.moisture
  pub ware : WareIn f.ware
  pub water : WaterIn f.water
  pub clay : In mass f.clay
  pub stages : Every StageIn f.stages
  pub own : Every (Own f.edition) f.stages
  pub stages_some : stages_least ≤ length f.stages
  pub stages_most : length f.stages ≤ stages_most
  pub total : In gas_total (total_gas f.stages)  -- 10
  pub setters : Every SetterIn f.setters
  pub setters_most : length f.setters ≤ setters_most
  pub parts : Every PartIn f.parts
  pub parts_most : length f.parts ≤ parts_most
  pub sections : Every SectionIn f.sections
  pub sections_some : sections_least ≤ length f.sections
  pub sections_most : length f.sections ≤ sections_most
  pub numbered : NoTwo SameNumber f.sections  -- 6
  pub walls : Every (WallIn f) f.walls
  pub walls_most : length f.walls ≤ walls_most
  pub once : NoTwo SameReading f.walls  -- 7
  pub read : AllRead f.stages f.sections f.walls  -- 8
