-- The sections: where one stands by its number, its rule, and what the code's arrays show of their rows.
use Rattle.std.specs.Prelude.{ℕ, suc, ◌≤◌, ◌<◌, true, false, cond, List, [], ◌∷◌, map, eqb, get_or, length, take, ◌≡◌}
use Rattle.std.proofs.Math.Option.{Option, none}
use Rattle.sheet.specs.declared.Refusal.{Refusal}
use Rattle.sheet.specs.declared.Section.{Section as Sectionˢ}
use Rattle.sheet.specs.Shown.{section}
use Rattle.sheet.specs.Firing.{Section}
use Rattle.document.specs.Tests.{is_listed, section_fault, section-rule}
use Rattle.text.specs.Bytes.{bytes}
use Rattle.document.specs.Schema.{Row}
use Rattle.document.specs.Reader.{Sheet, read_line, read_rows, read_paragraph}
use Rattle.document.specs.Document01.{section_line, sections}
use Rattle.document.specs.Rows.{section_of}
use Rattle.due.specs.declared.Place.{Place}
use Rattle.due.specs.declared.Heard.{Heard}
use Rattle.due.specs.Place.{After}
use Rattle.due.specs.Block.{Filled, lacks, With}
use Rattle.sheet.specs.Blank.{blank_section}
use Rattle.sheet.specs.declared.Sections.{Sections}
use Rattle.sheet.specs.Quantities.{sections_most}

-- the sections' numbers, by which they are looked up
abbrev pub numbers : List Sectionˢ → List ℕ
numbers l = map (λ x. x.number.0) l

-- how many numbers stand before this one, or all of them where it is not among them
unfoldable pub place_of : ℕ → List ℕ → ℕ
place_of n [] = 0
place_of n (x ∷ l) = cond (eqb x n) 0 (suc (place_of n l))

-- NO NUMBER TWICE: each section's number is not among those above it, as rule 6 leaves them.
pub record Distinct (S : List Section) : Type 0 where
  pub apart : (i : ℕ) (d : Section) → i < length S → is_listed (take i S) (get_or S i d).number ≡ false

-- a section line and its rule, by any sections above it that have these numbers
abbrev pub NewSection : List ℕ → Place → List ℕ → ℕ → Heard Sectionˢ → Type 0
NewSection s p above i r =
    (lines : List Sectionˢ) → above ≡ numbers lines
    → let rule : Row → Option Refusal = λ row. section_fault (map section (take i lines)) (section_of row) in
    After s p (read_line section_line rule) r.place (λ row. (section r.said ≡ section_of row) × (rule row ≡ none))

-- the rows of the sections, no number twice
pub record SectionsShown (k : ℕ) (lines : List Sectionˢ) (rows : List Row) : Type 0 where
  pub filled : Filled section section_of blank_section sections_most k lines rows
  pub distinct : Distinct (map section_of rows)

abbrev pub SectionsAfter : List ℕ → Place → ℕ → Place → List Sectionˢ → Type 0
SectionsAfter s p k q lines =
    (seen : Sheet) → lacks (bytes "section") seen ≡ true → After s p (read_rows k section_line section-rule seen []) q (SectionsShown k lines)

-- the sections that a struct shows, and their rows
abbrev pub sections_of : Sections → List Section
sections_of x = map section (take x.count.0 x.lines)

abbrev pub SectionRows : Sections → List Row → Type 0
SectionRows x = SectionsShown x.count.0 x.lines

pub record SectionsRead (s : List ℕ) (p : Place) (r : Heard Sections) : Type 0 where
  pub after : (seen : Sheet) → lacks (bytes "section") seen ≡ true
      → After s p (read_paragraph sections.paragraph seen) r.place (With section_line seen (SectionRows r.said))
  pub within : r.said.count.0 ≤ sections_most
