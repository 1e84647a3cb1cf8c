-- What the code's structs show: the firing whose lines their arrays begin with, and whose readings stand by section and stage.
use Rattle.std.specs.Prelude.{is_some, Option as Optionˢ, None, Some, ℕ, suc, ◌-◌, ◌≡◌, Bool, cond, ◌&&◌, List, [], ◌∷◌, map, get_or, take, set, replicate, ℤ, pos, nat_abs}
use Rattle.std.proofs.Math.Option.{Option, none, some}
use Rattle.std.specs.Int.Signed.{le_z}
use Rattle.quantity.specs.declared.gas.Share.{Share}
use Rattle.sheet.specs.declared.Stuff.{Stuff as Stuffˢ}
use Rattle.sheet.specs.declared.Fuel.{Fuel as Fuelˢ}
use Rattle.sheet.specs.declared.Ware.{Ware as Wareˢ}
use Rattle.sheet.specs.declared.Water.{Water as Waterˢ}
use Rattle.sheet.specs.declared.Analysis.{Analysis as Analysisˢ}
use Rattle.sheet.specs.declared.Stage.{Stage as Stageˢ}
use Rattle.sheet.specs.declared.Setter.{Setter as Setterˢ}
use Rattle.sheet.specs.declared.Part.{Part as Partˢ}
use Rattle.sheet.specs.declared.Section.{Section as Sectionˢ}
use Rattle.sheet.specs.declared.Reading.{Reading as Readingˢ}
use Rattle.sheet.specs.declared.SectionReadings.{SectionReadings as SectionReadingsˢ}
use Rattle.sheet.specs.declared.Sheet.{Sheet as Sheetˢ}
use Rattle.sheet.specs.Firing.{Stuff, Fuel, Gas, Ware, Water, Analysis, Stage, Setter, Part, Section, Wall, Firing}
use Rattle.sheet.specs.Quantities.{stages_most, sections_most}

-- ---- a struct's record
abbrev pub stuff : Stuffˢ → Stuff
stuff x = record { material = pos x.material.0; c = x.c.0 }

abbrev pub fuel : Fuelˢ → Fuel
fuel x = record { heating = x.heating.0; temperature = x.temperature.0 }

-- the shares stand in the gas line's order
abbrev pub share : List Share → ℕ → ℤ
share l i = get_or (map (λ x. x.0) l) i (pos 0)

abbrev pub gas : List Share → Gas
gas l = record {
  h2 = share l 0;
  n2 = share l 1;
  co = share l 2;
  o2 = share l 3;
  h2o = share l 4;
  co2 = share l 5;
  ch4 = share l 6;
  c2h4 = share l 7;
  c2h6 = share l 8;
  c3h8 = share l 9;
  c4h10 = share l 10;
  h2s = share l 11;
  so2 = share l 12;
}

abbrev pub ware : Wareˢ → Ware
ware x = record { green = x.green.0; entry = x.entry.0; highest = x.highest.0; stuff = stuff x.stuff }

abbrev pub water : Waterˢ → Water
water x = record { adsorbed = x.adsorbed.0; crystal = x.crystal.0; flue = x.flue.0 }

abbrev pub analysis : Optionˢ Analysisˢ → Option Analysis
analysis None = none
analysis (Some x) = some (record { pair = x.pair.0; oxygen = x.oxygen.0 })

abbrev pub stage : Stageˢ → Stage
stage x = record { gas = x.gas.0; excess = x.excess.0; flue = x.flue.0; co = x.co.0; analysis = analysis x.analysis; minutes = x.minutes.0 }

abbrev pub setter : Setterˢ → Setter
setter x = record { mass = x.mass.0; entry = x.entry.0; stuff = stuff x.stuff }

abbrev pub part : Partˢ → Part
part x = record { mass = x.mass.0; stuff = stuff x.stuff; before = x.before.0; firing = x.firing.0 }

abbrev pub section : Sectionˢ → Section
section x = record { number = pos x.number.0; place = pos x.place.0; area = x.area.0 }

-- the firing that a struct shows, but for the order in which its walls were called
abbrev pub firing : Sheetˢ → List Wall → Firing
firing x walls = record {
  edition = pos x.head.edition.0;
  number = x.head.firing.0;
  product = x.head.product.0;
  ambient = x.head.ambient.0;
  fuel = fuel x.head.fuel;
  gas = gas x.head.gas;
  moisture = x.head.moisture.0;
  ware = ware x.head.ware;
  water = water x.head.water;
  clay = x.head.clay.0;
  stages = map stage (take x.stages.count.0 x.stages.lines);
  setters = map setter (take x.setters.count.0 x.setters.lines);
  parts = map part (take x.parts.count.0 x.parts.lines);
  sections = map section (take x.sections.count.0 x.sections.lines);
  walls = walls;
}

-- ---- the readings by section and stage
abbrev pub same : ℤ → ℤ → Bool
same a b = le_z a b && le_z b a

-- how many sections stand before the one with a number
unfoldable pub before : ℤ → List Section → ℕ
before n [] = 0
before n (x ∷ l) = cond (same n x.number) 0 (suc (before n l))

-- the stage's place: its number counts from 1
abbrev pub column : Wall → ℕ
column w = nat_abs w.stage - 1

abbrev pub measured : Wall → Readingˢ
measured w = record { surface = record { 0 = w.surface }; air = record { 0 = w.air } }

abbrev pub reading : Wall → Optionˢ Readingˢ
reading w = Some (measured w)

abbrev pub unread : Optionˢ Readingˢ
unread = None

abbrev pub was_read : Optionˢ Readingˢ → Bool
was_read x = is_some x

abbrev pub unread_section : SectionReadingsˢ
unread_section = record { stages = replicate stages_most unread }

abbrev pub unread_sections : List SectionReadingsˢ
unread_sections = replicate sections_most unread_section

-- beyond the last section nothing stands
abbrev pub no_readings : SectionReadingsˢ
no_readings = record { stages = [] }

-- the cell of the i-th section in the j-th stage, both from 0
abbrev pub cell : List SectionReadingsˢ → ℕ → ℕ → Optionˢ Readingˢ
cell cells i j = get_or (get_or cells i no_readings).stages j unread

-- a reading laid into it
abbrev pub lay : List SectionReadingsˢ → ℕ → ℕ → Optionˢ Readingˢ → List SectionReadingsˢ
lay cells i j x = set cells i (record { stages = set (get_or cells i no_readings).stages j x })

-- the walls laid into the cells of their sections and stages, one after the other
unfoldable pub laid : List Section → List SectionReadingsˢ → List Wall → List SectionReadingsˢ
laid l cells [] = cells
laid l cells (w ∷ ws) = laid l (lay cells (before w.section l) (column w) (reading w)) ws

-- WHAT THE STRUCT OF A FIRING HOLDS
pub record Shows (x : Sheetˢ) (f : Firing) : Type 0 where
  pub lines : f ≡ firing x f.walls
  pub readings : x.readings ≡ laid f.sections unread_sections f.walls
