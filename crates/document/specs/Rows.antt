-- A firing by name and its sheet by rows: the row of each record, the record of each row, and so the firing of a sheet.
use Rattle.std.specs.Prelude.{ℕ, List, [], ◌∷◌, map, Bool, cond, ℤ, pos}
use Prim.Native.String.{String}
use Rattle.std.proofs.Math.Option.{Option, none, some}
use Rattle.text.specs.Bytes.{bytes}
use Rattle.sheet.specs.Firing.{Stuff, Fuel, Gas, Ware, Water, Analysis, Stage, Setter, Part, Section, Wall, Firing}
use Rattle.sheet.specs.Shown.{same}
use Rattle.document.specs.Schema.{Row, plain, at}
use Rattle.document.specs.Reader.{Sheet, rows_of}

-- a record's row, and a row's record
abbrev pub fuel_row : Fuel → Row
fuel_row x = plain (x.heating ∷ x.temperature ∷ [])

abbrev pub fuel_of : Row → Fuel
fuel_of r = record { heating = at r 0; temperature = at r 1 }

abbrev pub gas_row : Gas → Row
gas_row x = plain (x.h2 ∷ x.n2 ∷ x.co ∷ x.o2 ∷ x.h2o ∷ x.co2 ∷ x.ch4 ∷ x.c2h4 ∷ x.c2h6 ∷ x.c3h8 ∷ x.c4h10 ∷ x.h2s ∷ x.so2 ∷ [])

abbrev pub gas_of : Row → Gas
gas_of r = record {
  h2 = at r 0;
  n2 = at r 1;
  co = at r 2;
  o2 = at r 3;
  h2o = at r 4;
  co2 = at r 5;
  ch4 = at r 6;
  c2h4 = at r 7;
  c2h6 = at r 8;
  c3h8 = at r 9;
  c4h10 = at r 10;
  h2s = at r 11;
  so2 = at r 12;
}

abbrev pub stuff_at : Row → ℕ → ℕ → Stuff
stuff_at r i j = record { material = at r i; c = at r j }

abbrev pub ware_row : Ware → Row
ware_row x = plain (x.green ∷ x.entry ∷ x.highest ∷ x.stuff.material ∷ x.stuff.c ∷ [])

abbrev pub ware_of : Row → Ware
ware_of r = record { green = at r 0; entry = at r 1; highest = at r 2; stuff = stuff_at r 3 4 }

abbrev pub water_row : Water → Row
water_row x = plain (x.adsorbed ∷ x.crystal ∷ x.flue ∷ [])

abbrev pub water_of : Row → Water
water_of r = record { adsorbed = at r 0; crystal = at r 1; flue = at r 2 }

abbrev pub stage_row : Stage → Row
stage_row x = plain (x.gas ∷ x.excess ∷ x.flue ∷ x.co ∷ x.minutes ∷ [])

abbrev pub stage_of : Row → Stage
stage_of r = record { gas = at r 0; excess = at r 1; flue = at r 2; co = at r 3; analysis = none; minutes = at r 4 }

-- on sheet 2; a stage that was not analysed has no row there, and is given one
abbrev pub analysis_of : Option Analysis → Analysis
analysis_of none = record { pair = pos 0; oxygen = pos 0 }
analysis_of (some a) = a

abbrev pub analysed_row : Stage → Row
analysed_row x = let a = analysis_of x.analysis in plain (x.gas ∷ x.excess ∷ x.flue ∷ x.co ∷ a.pair ∷ a.oxygen ∷ x.minutes ∷ [])

abbrev pub analysed_of : Row → Stage
analysed_of r =
    record { gas = at r 0; excess = at r 1; flue = at r 2; co = at r 3; analysis = some (record { pair = at r 4; oxygen = at r 5 }); minutes = at r 6 }

abbrev pub setter_row : Setter → Row
setter_row x = plain (x.mass ∷ x.entry ∷ x.stuff.material ∷ x.stuff.c ∷ [])

abbrev pub setter_of : Row → Setter
setter_of r = record { mass = at r 0; entry = at r 1; stuff = stuff_at r 2 3 }

abbrev pub part_row : Part → Row
part_row x = plain (x.mass ∷ x.stuff.material ∷ x.stuff.c ∷ x.before ∷ x.firing ∷ [])

abbrev pub part_of : Row → Part
part_of r = record { mass = at r 0; stuff = stuff_at r 1 2; before = at r 3; firing = at r 4 }

abbrev pub section_row : Section → Row
section_row x = plain (x.number ∷ x.place ∷ x.area ∷ [])

abbrev pub section_of : Row → Section
section_of r = record { number = at r 0; place = at r 1; area = at r 2 }

abbrev pub wall_row : Wall → Row
wall_row x = plain (x.section ∷ x.stage ∷ x.surface ∷ x.air ∷ [])

abbrev pub wall_of : Row → Wall
wall_of r = record { section = at r 0; stage = at r 1; surface = at r 2; air = at r 3 }

-- WHAT A SHEET SAYS
abbrev pub first : List Row → Row
first [] = plain []
first (row ∷ rows) = row

abbrev pub row_under : String → Sheet → Row
row_under key s = first (rows_of (bytes key) s)

abbrev pub edition_in : Sheet → ℤ
edition_in s = at (row_under "sheet" s) 0

-- whether its flue is analysed, as on sheet 2
abbrev pub analysed : ℤ → Bool
analysed edition = same edition (pos 2)

-- a row of a stage and of a reading, as an edition has it; a reading has the same columns on all so far
abbrev pub stage_by : Bool → Row → Stage
stage_by flue r = cond flue (analysed_of r) (stage_of r)

abbrev pub stage_as : ℤ → Row → Stage
stage_as edition r = stage_by (analysed edition) r

abbrev pub wall_as : ℤ → Row → Wall
wall_as edition r = wall_of r

abbrev pub stages_in : Sheet → List Stage
stages_in s = map (stage_as (edition_in s)) (rows_of (bytes "stage") s)

abbrev pub sections_in : Sheet → List Section
sections_in s = map section_of (rows_of (bytes "section") s)

abbrev pub walls_in : Sheet → List Wall
walls_in s = map (wall_as (edition_in s)) (rows_of (bytes "wall") s)

abbrev pub firing_of : Sheet → Firing
firing_of s = record {
  edition = edition_in s;
  number = at (row_under "firing" s) 0;
  product = at (row_under "product" s) 0;
  ambient = at (row_under "ambient" s) 0;
  fuel = fuel_of (row_under "fuel" s);
  gas = gas_of (row_under "gas" s);
  moisture = at (row_under "air" s) 0;
  ware = ware_of (row_under "ware" s);
  water = water_of (row_under "water" s);
  clay = at (row_under "clay" s) 0;
  stages = stages_in s;
  setters = map setter_of (rows_of (bytes "setter") s);
  parts = map part_of (rows_of (bytes "part") s);
  sections = sections_in s;
  walls = walls_in s;
}
