-- WHAT A GOOD LINE IS, in plain words and without tests: no name, as many numbers as fields, each between its least and its greatest, and
-- document 01's rules 4 to 9 for the line with its key, given all that stands above it.
use Rattle.std.specs.Prelude.{ℕ, ◌≡◌, List, [], ◌∷◌, ◌++◌, length, pos}
use Rattle.text.specs.Bytes.{bytes}
use Rattle.sheet.specs.Quantities.{to}
use Rattle.document.specs.Schema.{Line, Row}
use Rattle.document.specs.Reader.{Filled, Sheet, Paragraph, one, many, filled, Document, Along}
use Rattle.document.specs.Rows.{section_of, edition_in, stages_in, sections_in, wall_as, walls_in}
use Rattle.document.specs.Rules.{Some, MaterialKeeps, GasKeeps, AnalysisKeeps, SameNumber, WallKeeps}
use Rattle.document.specs.Lawful.{In, InRanges}

-- THE RULES OF A LINE with this key and so many fields, given all that stands above it; a line with another key has none
pub record RowKeeps (key : List ℕ) (fields : ℕ) (above : Sheet) (row : Row) : Type 0 where
  pub ware : key ≡ bytes "ware" → MaterialKeeps 3 row  -- 4
  pub setter : key ≡ bytes "setter" → MaterialKeeps 2 row
  pub part : key ≡ bytes "part" → MaterialKeeps 1 row
  pub gas : key ≡ bytes "gas" → GasKeeps row  -- 5
  pub stage : key ≡ bytes "stage" → fields ≡ 7 → AnalysisKeeps row  -- 14, of a stage with an analysis
  pub section : key ≡ bytes "section" → ¬ Some (SameNumber (section_of row)) (sections_in above)  -- 6
  pub wall : key ≡ bytes "wall" → WallKeeps (stages_in above) (sections_in above) (walls_in above) (wall_as (edition_in above) row)  -- 6, 7, 9

-- A GOOD LINE
pub record GoodRow (l : Line) (above : Sheet) (row : Row) : Type 0 where
  pub nameless : row.name ≡ []
  pub within : InRanges l.fields row.numbers
  pub keeps : RowKeeps l.key (length l.fields) above row

-- good lines of one kind, one below the other, behind rows of the same kind that stand above them already
abbrev pub GoodRows : Line → Sheet → List Row → List Row → Type 0
GoodRows l above before [] = Unit {0}
GoodRows l above before (row ∷ rows) = GoodRow l (above ++ filled l before) row × GoodRows l above (before ++ (row ∷ [])) rows

-- a good paragraph: one good line, or a count in its range and so many good lines
abbrev pub GoodParagraph : Paragraph → Sheet → Filled → Type 0
GoodParagraph (one l rule) above f = (f.key ≡ l.key) × (length f.rows ≡ 1) × GoodRows l above [] f.rows
GoodParagraph (many key a b l rule) above f = (f.key ≡ l.key) × In (to a b) (pos (length f.rows)) × GoodRows l above [] f.rows

-- ALL LINES GOOD: the first, and those that it chooses
abbrev pub GoodLines : Document → Sheet → Type 0
GoodLines d [] = ⊥
GoodLines d (f ∷ fs) = GoodParagraph d.first [] f × Along GoodParagraph (d.below (f ∷ [])) (f ∷ []) fs
