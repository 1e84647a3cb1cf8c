-- What a group of lines says, whatever stands above it: under each line's key, in their order, rows of which something holds.
use Rattle.std.specs.Prelude.{ℕ, ◌≡◌, true, false, List, [], ◌∷◌, ◌++◌}
use Rattle.document.specs.Schema.{Line, Row}
use Rattle.document.specs.Reader.{Sheet, Paragraph, filled, read_paragraphs}
use Rattle.document.specs.Rows.{first}
use Rattle.due.specs.declared.Place.{Place}
use Rattle.due.specs.Place.{good, Fair, After}

pub record Saying : Type 1 where
  pub line : Line
  pub Rows : List Row → Type 0

-- of the rows of a block, and of the one row of a line
abbrev pub says_all : Line → (List Row → Type 0) → Saying
says_all l P = record { line = l; Rows = P }

abbrev pub says : Line → (Row → Type 0) → Saying
says l P = says_all l (λ rows. P (first rows))

-- the sheet with what the lines say, below what was seen
abbrev pub Said : List Saying → Sheet → Sheet → Type 0
Said [] seen sheet = sheet ≡ seen
Said (x ∷ xs) seen sheet = (rows : List Row) × x.Rows rows × Said xs (seen ++ filled x.line rows) sheet

-- FROM p THE CODE READS SOME PARTS, whatever stands above them, AND ENDS IN q; how a place is refused or fair needs nothing above it
pub record GroupRead (s : List ℕ) (p : Place) (ps : List Paragraph) (q : Place) (xs : List Saying) : Type 0 where
  pub after : (seen : Sheet) → After s p (read_paragraphs ps seen) q (Said xs seen)
  pub passes : good p ≡ false → q ≡ p
  pub fair : good q ≡ true → Fair s q
