-- The sections and the walls as one group of lines.
use Rattle.std.specs.Prelude.{ℕ, ◌≤◌, ◌≡◌, true, false, List, [], ◌∷◌, length}
use Rattle.text.specs.Bytes.{bytes}
use Rattle.sheet.specs.Firing.{Section}
use Rattle.sheet.specs.Quantities.{sections_most}
use Rattle.document.specs.Reader.{Sheet, read_paragraph, read_paragraphs}
use Rattle.document.specs.Rows.{stages_in, sections_in}
use Rattle.document.specs.Entries.{paragraphs_of}
use Rattle.document.specs.Document01.{section_line, wall_line, walls, surfaces}
use Rattle.due.specs.declared.Place.{Place}
use Rattle.due.specs.Place.{good, Fair, After}
use Rattle.sheet.specs.declared.SectionReadings.{SectionReadings}
use Rattle.due.specs.declared.Heard.{Heard}
use Rattle.due.specs.Block.{With, lacks}
use Rattle.sections.specs.Sections.{sections_of, SectionRows}
use Rattle.walls.specs.Walls.{WallsShown}
use Rattle.walls.specs.declared.Surfaces.{Surfaces}
use Rattle.due.specs.Said.{Saying, says_all, Said}

-- the readings, given the sections and the number of stages above them
abbrev pub WallsRead : List ℕ → Place → List Section → ℕ → Heard (List SectionReadings) → Type 0
WallsRead s p S k r =
    (seen : Sheet) → lacks (bytes "wall") seen ≡ true → sections_in seen ≡ S → length (stages_in seen) ≡ k
    → After s p (read_paragraph walls.paragraph seen) r.place (With wall_line seen (WallsShown S r.said))

abbrev pub surfaces_say : Surfaces → List Saying
surfaces_say r = says_all section_line (SectionRows r.sections) ∷ says_all wall_line (WallsShown (sections_of r.sections) r.readings) ∷ []

-- both, below so many stages and neither of them
pub record Below (k : ℕ) (seen : Sheet) : Type 0 where
  pub sections : lacks (bytes "section") seen ≡ true
  pub walls : lacks (bytes "wall") seen ≡ true
  pub stages : length (stages_in seen) ≡ k

pub record SurfacesRead (s : List ℕ) (p : Place) (k : ℕ) (r : Heard Surfaces) : Type 0 where
  pub after : (seen : Sheet) → Below k seen → After s p (read_paragraphs (paragraphs_of surfaces) seen) r.place (Said (surfaces_say r.said) seen)
  pub passes : good p ≡ false → r.place ≡ p
  pub fair : good r.place ≡ true → Fair s r.place
  pub within : r.said.sections.count.0 ≤ sections_most
