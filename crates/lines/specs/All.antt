-- What the code has when it has read all lines.
use Rattle.std.specs.Prelude.{ℕ, ◌-◌, ◌≤◌, ◌≡◌, List, length, drop, replicate}
use Rattle.quantity.specs.declared.sheet.Edition.{Edition}
use Rattle.sheet.specs.declared.Head.{Head}
use Rattle.sheet.specs.declared.Sheet.{Sheet as Sheetˢ}
use Rattle.sheet.specs.Shown.{Shows}
use Rattle.document.specs.Reader.{Sheet, read_lines}
use Rattle.document.specs.Editions.{document}
use Rattle.document.specs.Rows.{stages_in, sections_in, walls_in, firing_of}
use Rattle.document.specs.Rules.{Every}
use Rattle.sections.specs.Sections.{Distinct}
use Rattle.walls.specs.Cells.{Placed}
use Rattle.due.specs.declared.Place.{Place}
use Rattle.head.specs.declared.heading.Heading.{Heading}
use Rattle.fuel.specs.declared.Fuelling.{Fuelling}
use Rattle.head.specs.declared.drying.Drying.{Drying}
use Rattle.due.specs.declared.Heard.{Heard}
use Rattle.due.specs.Place.{After}
use Rattle.sheet.specs.Blank.{blank_stage, blank_setter, blank_part, blank_section}
use Rattle.sheet.specs.Quantities.{gases, stages_most, setters_most, parts_most, sections_most}

abbrev pub head_of : Edition → Heading → Fuelling → Drying → Head
head_of e h f d = record {
  edition = e;
  firing = h.firing;
  product = h.product;
  ambient = h.ambient;
  fuel = f.fuel;
  gas = f.gas;
  moisture = d.moisture;
  ware = d.ware;
  water = d.water;
  clay = d.clay;
}

-- an array of its length, a count within it, beyond which nothing could be shown, and blanks beyond the count
pub record Blanked {A : Type 0} (blank : A) (most count : ℕ) (lines : List A) : Type 0 where
  pub long : length lines ≡ most
  pub fits : count ≤ most
  pub rest : drop count lines ≡ replicate (most - count) blank

-- nothing stands in the struct but what it shows
pub record Trimmed (x : Sheetˢ) : Type 0 where
  pub gas : length x.head.gas ≡ gases
  pub stages : Blanked blank_stage stages_most x.stages.count.0 x.stages.lines
  pub setters : Blanked blank_setter setters_most x.setters.count.0 x.setters.lines
  pub parts : Blanked blank_part parts_most x.parts.count.0 x.parts.lines
  pub sections : Blanked blank_section sections_most x.sections.count.0 x.sections.lines

-- the struct holds what the rows of a sheet say, and its rules of sections and walls were kept
pub record Held (x : Sheetˢ) (sheet : Sheet) : Type 0 where
  pub shows : Shows x (firing_of sheet)
  pub trimmed : Trimmed x
  pub stages_are : length (stages_in sheet) ≡ x.stages.count.0
  pub sections_are : length (sections_in sheet) ≡ x.sections.count.0
  pub distinct : Distinct (sections_in sheet)
  pub placed : Every (Placed (sections_in sheet)) (walls_in sheet)

-- what holds of the struct whatever was read
pub record Sized (x : Sheetˢ) : Type 0 where
  pub stages : x.stages.count.0 ≤ stages_most
  pub sections : x.sections.count.0 ≤ sections_most

pub record LinesRead (s : List ℕ) (start : Place) (r : Heard Sheetˢ) : Type 0 where
  pub after : After s start (read_lines document) r.place (Held r.said)
  pub sized : Sized r.said
