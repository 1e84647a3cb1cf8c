-- The lines `wall`: one of them, its rules, and the readings that their rows lay into the cells.
use Rattle.std.specs.Prelude.{ℕ, ◌≤◌, ◌<◌, ◌≡◌, true, not, List, [], map, length, take, pos}
use Rattle.std.specs.Int.Signed.{lt_z}
use Rattle.std.proofs.Math.Option.{Option, none}
use Rattle.sheet.specs.Firing.{Wall, Section}
use Rattle.sheet.specs.declared.Refusal.{Refusal}
use Rattle.sheet.specs.declared.Refusal.TheVariants.{NoSuchWall}
use Rattle.sheet.specs.declared.Section.{Section as Sectionˢ}
use Rattle.sheet.specs.Shown.{section, before, laid, unread_sections}
use Rattle.document.specs.Schema.{Row}
use Rattle.document.specs.Tests.{when, ◌else◌, is_listed, wall-rule}
use Rattle.document.specs.Document01.{wall_line}
use Rattle.document.specs.Rows.{wall_of, stages_in, sections_in}
use Rattle.document.specs.Rules.{Every}
use Rattle.walls.specs.declared.line.Wall.{Wall as Wallˢ}
use Rattle.sheet.specs.declared.SectionReadings.{SectionReadings}
use Rattle.sheet.specs.Quantities.{stages_most, sections_most}
use Rattle.text.specs.Bytes.{bytes}
use Rattle.document.specs.Reader.{Sheet, read_line, read_rows}
use Rattle.walls.specs.declared.rows.NamedWall.{NamedWall}
use Rattle.sections.specs.Sections.{numbers}
use Rattle.walls.specs.Cells.{Placed}
use Rattle.due.specs.declared.Place.{Place}
use Rattle.due.specs.declared.Heard.{Heard}
use Rattle.due.specs.Place.{After, ruled}
use Rattle.due.specs.Block.{lacks}

-- the reading that a wall line gives
abbrev pub wall : Wallˢ → Wall
wall x = record { section = pos x.section.0; stage = pos x.stage.0; surface = x.surface.0; air = x.air.0 }

-- a wall line before its rules; whatever it said, its stage is one of twelve
pub record WallAfter (s : List ℕ) (p : Place) (r : Heard Wallˢ) : Type 0 where
  pub after : After s p (read_line wall_line (λ row. none)) r.place (λ row. wall r.said ≡ wall_of row)
  pub least : 1 ≤ r.said.stage.0
  pub most : r.said.stage.0 ≤ stages_most

-- 6: no such section, or no such stage
abbrev pub six : List Section → ℕ → Wall → Option Refusal
six S k w = when (not (is_listed S w.section)) NoSuchWall else when (lt_z (pos k) w.stage) NoSuchWall

-- a line that breaks it has no cell, and the first section's place
abbrev pub nowhere : ℕ → Place → Wallˢ → Heard NamedWall
nowhere n q w = record { place = ruled n q true NoSuchWall; said = record { wall = w; row = 0 } }

-- a row that keeps it, and the place of its section
pub record Named (S : List Section) (r : Heard NamedWall) (row : Row) : Type 0 where
  pub shown : wall r.said.wall ≡ wall_of row
  pub placed : Placed S (wall r.said.wall)
  pub here : r.said.row ≡ before (wall r.said.wall).section S

-- a wall line and rule 6, by any sections that have these numbers; whatever it said, there is a cell for its section's place and its stage
pub record NamedAfter (s : List ℕ) (p : Place) (ns : List ℕ) (count k : ℕ) (r : Heard NamedWall) : Type 0 where
  pub after : (lines : List Sectionˢ) → ns ≡ numbers lines → let S = map section (take count lines) in
      After s p (read_line wall_line (λ row. six S k (wall_of row))) r.place (Named S r)
  pub inside : r.said.row < sections_most
  pub least : 1 ≤ r.said.wall.stage.0
  pub most : r.said.wall.stage.0 ≤ stages_most

-- the walls' readings by section and stage
pub record WallsShown (S : List Section) (cells : List SectionReadings) (rows : List Row) : Type 0 where
  pub lie : cells ≡ laid S unread_sections (map wall_of rows)
  pub placed : Every (Placed S) (map wall_of rows)

abbrev pub WallsAfter : List ℕ → Place → ℕ → List Section → ℕ → Place → List SectionReadings → Type 0
WallsAfter s p n S k q cells =
    (seen : Sheet) → lacks (bytes "wall") seen ≡ true → sections_in seen ≡ S → length (stages_in seen) ≡ k
    → After s p (read_rows n wall_line wall-rule seen []) q (WallsShown S cells)
