-- THE FIRST REFUSAL THAT APPLIES, as in document 01 and, for the lines, T-01 of document 02: 1 first; then the lines from the top, in each 13, 2, 12, 3,
-- then the others by rising number; then 10, then 8. A line is looked at where it is due: all lines above it are good.
use Rattle.std.specs.Prelude.{ℕ, suc, ◌+◌, ◌≤◌, ◌<◌, ◌≡◌, List, [], ◌∷◌, ◌++◌, ◌⊎◌, length, pos, ◌<ℤ◌}
use Rattle.text.specs.Bytes.{bytes}
use Rattle.sheet.specs.declared.Refusal.{Refusal}
use Rattle.sheet.specs.Refusals.{number, field}
use Rattle.sheet.specs.Firing.{Stage, Section, Wall}
use Rattle.sheet.specs.Quantities.{to, sheet_most}
use Rattle.document.specs.Schema.{Line, Row, plain, line_text}
use Rattle.document.specs.Reader.{Filled, Sheet, Paragraph, one, many, count_line, filled, paragraph_text, rows_text, text_of, behind, behind_all, Refused, read_of}
use Rattle.document.specs.Editions.{document}
use Rattle.document.specs.Rows.{section_of, edition_in, stages_in, sections_in, wall_as, walls_in}
use Rattle.document.specs.Rules.{Some, MaterialKeeps, GasKeeps, AnalysisKeeps, SameNumber, Listed, Staged, SameReading, AllRead, TotalKeeps}
use Rattle.document.specs.Lawful.{In}
use Rattle.document.specs.GoodLines.{GoodRows, GoodParagraph, GoodLines}
use Rattle.document.specs.Faults.{SaysIn, LineFault}

-- A LINE THAT IS DUE: its number, its key and fields, all that stands above it (under its own key the rows of its block so far), and the
-- text from it on
pub record DueLine : Type 0 where
  pub number : ℕ
  pub line : Line
  pub above : Sheet
  pub rest : List ℕ

-- .. in a block, behind its count and behind good rows that are fewer
pub record InBlock (key : List ℕ) (a b : ℕ) (l : Line) (above : Sheet) (n : ℕ) (s : List ℕ) (d : DueLine) : Type 0 where
  pub count : ℕ
  pub counted : In (to a b) (pos count)
  pub rows : List Row
  pub fewer : length rows < count
  pub good : GoodRows l above [] rows
  pub whole : s ≡ line_text (count_line key a b) (plain (pos count ∷ [])) ++ (rows_text l rows ++ d.rest)
  pub place : d ≡ record { number = suc n + length rows; line = l; above = above ++ filled l rows; rest = d.rest }

abbrev pub InParagraph : Paragraph → Sheet → ℕ → List ℕ → DueLine → Type 0
InParagraph (one l rule) above n s d = d ≡ record { number = n; line = l; above = above ++ filled l []; rest = s }
InParagraph (many key a b l rule) above n s d =
    (d ≡ record { number = n; line = count_line key a b; above = above; rest = s }) ⊎ InBlock key a b l above n s d

-- .. behind a paragraph that is good
pub record Behind (p : Paragraph) (above : Sheet) (n : ℕ) (s : List ℕ) (Next : Filled → ℕ → List ℕ → Type 0) : Type 0 where
  pub said : Filled
  pub left : List ℕ
  pub good : GoodParagraph p above said
  pub whole : s ≡ paragraph_text p said.rows ++ left
  pub next : Next said (behind p said.rows n) left

abbrev pub InParagraphs : List Paragraph → Sheet → ℕ → List ℕ → DueLine → Type 0
InParagraphs [] above n s d = ⊥
InParagraphs (p ∷ ps) above n s d = InParagraph p above n s d ⊎ Behind p above n s (λ f m left. InParagraphs ps (above ++ (f ∷ [])) m left d)

abbrev pub Due : List ℕ → DueLine → Type 0
Due s d =
    InParagraph document.first [] 1 s d
    ⊎ Behind document.first [] 1 s (λ f m left. InParagraphs (document.below (f ∷ [])) (f ∷ []) m left d)

-- A LINE OF A TEXT that is looked at
pub record Looked (s : List ℕ) : Type 0 where
  pub short : length s ≤ sheet_most
  pub at : DueLine
  pub due : Due s at

-- WHAT IS WRONG WITH A READING, given what stands above it: 6, then 7, then 9
pub data WallFault (stages : List Stage) (sections : List Section) (above : List Wall) (w : Wall) (k : ℕ) : Type 0 where
  elsewhere : k ≡ 6 → (¬ Listed sections w) ⊎ (pos (length stages) <ℤ w.stage) → WallFault stages sections above w k
  twice : k ≡ 7 → Listed sections w → Staged stages w → Some (SameReading w) above → WallFault stages sections above w k
  colder : k ≡ 9 → Listed sections w → Staged stages w → ¬ Some (SameReading w) above → w.surface <ℤ w.air → WallFault stages sections above w k

-- .. with a row, by the rules of its key and given all that stands above it: 4 to 9; 4 names the material's field
pub data RowFault (key : List ℕ) (fields : ℕ) (above : Sheet) (row : Row) (k i : ℕ) : Type 0 where
  of_ware : k ≡ 4 → i ≡ 4 → key ≡ bytes "ware" → ¬ MaterialKeeps 3 row → RowFault key fields above row k i
  of_setter : k ≡ 4 → i ≡ 3 → key ≡ bytes "setter" → ¬ MaterialKeeps 2 row → RowFault key fields above row k i
  of_part : k ≡ 4 → i ≡ 2 → key ≡ bytes "part" → ¬ MaterialKeeps 1 row → RowFault key fields above row k i
  of_stage : k ≡ 14 → i ≡ 0 → key ≡ bytes "stage" → fields ≡ 7 → ¬ AnalysisKeeps row → RowFault key fields above row k i
  of_gas : k ≡ 5 → i ≡ 0 → key ≡ bytes "gas" → ¬ GasKeeps row → RowFault key fields above row k i
  of_section : k ≡ 6 → i ≡ 0 → key ≡ bytes "section" → Some (SameNumber (section_of row)) (sections_in above) → RowFault key fields above row k i
  of_wall : i ≡ 0 → key ≡ bytes "wall"
      → WallFault (stages_in above) (sections_in above) (walls_in above) (wall_as (edition_in above) row) k → RowFault key fields above row k i

-- .. with a whole sheet: 10, then 8
pub data WholeFault (stages : List Stage) (sections : List Section) (walls : List Wall) (k : ℕ) : Type 0 where
  total : k ≡ 10 → ¬ TotalKeeps stages → WholeFault stages sections walls k
  missing : k ≡ 8 → TotalKeeps stages → ¬ AllRead stages sections walls → WholeFault stages sections walls k

-- ALL LINES ARE GOOD, and this is left behind `end`
pub record AllGood (s : List ℕ) (sheet : Sheet) (left : List ℕ) : Type 0 where
  pub good : GoodLines document sheet
  pub whole : s ≡ text_of document sheet ++ left

-- the number of the line behind `end`
abbrev pub last : Sheet → ℕ
last [] = 1
last (f ∷ fs) = behind_all (document.below (f ∷ [])) fs (behind document.first f.rows 1)

-- THE FIRST REFUSAL THAT APPLIES to a text is number k, at line n and field i; 0 is the whole sheet's line and the whole line's field
pub data First (s : List ℕ) (k n i : ℕ) : Type 0 where
  too_long : k ≡ 1 → n ≡ 0 → i ≡ 0 → sheet_most < length s → First s k n i
  -- the lines from the top: a line is due, and ..
  of_line : (a : Looked s) → n ≡ a.at.number → LineFault a.at.line a.at.rest k i → First s k n i
  of_rule : (a : Looked s) → n ≡ a.at.number → (row : Row) → SaysIn a.at.line a.at.rest row
      → RowFault a.at.line.key (length a.at.line.fields) a.at.above row k i → First s k n i
  -- all lines are good, and bytes follow `end`; or nothing follows
  surplus : k ≡ 13 → i ≡ 0 → length s ≤ sheet_most → (sheet : Sheet) (b : ℕ) (left : List ℕ) → AllGood s sheet (b ∷ left) → n ≡ last sheet → First s k n i
  of_all : n ≡ 0 → i ≡ 0 → (sheet : Sheet) → AllGood s sheet [] → WholeFault (stages_in sheet) (sections_in sheet) (walls_in sheet) k → First s k n i

-- what is said to a text: a refusal with this number, this line and this field
pub record Hears (s : List ℕ) (k n i : ℕ) : Type 0 where
  pub refusal : Refusal
  pub is : read_of document s ≡ Refused refusal n
  pub numbered : number refusal ≡ k
  pub fielded : field refusal ≡ i

-- A REFUSAL IS GIVEN EXACTLY WHEN it is the first that applies
pub record Exactly (s : List ℕ) (k n i : ℕ) : Type 0 where
  pub first : Hears s k n i → First s k n i
  pub heard : First s k n i → Hears s k n i
