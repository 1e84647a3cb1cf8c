-- A sheet, what a document says of its lines, and the text of a sheet: over any document.
use Rattle.std.specs.Prelude.{ℕ, ◌+◌, ◌*◌, ◌≡◌, List, [], ◌∷◌, ◌++◌, Bool, true, false, cond, ◌&&◌, length, leb, eqb, pos}
use Rattle.std.proofs.Math.Option.{Option}
use Rattle.sheet.specs.declared.Refusal.{Refusal}
use Rattle.sheet.specs.Quantities.{Field, to, sheet_most}
use Rattle.document.specs.Schema.{Line, Row, plain, line_text, sound}

-- A SHEET: under each line's key the rows read, in the order of the sheet
pub record Filled : Type 0 where
  pub key : List ℕ
  pub rows : List Row

abbrev pub Sheet : Type 0
Sheet = List Filled

abbrev pub same_key : List ℕ → List ℕ → Bool
same_key [] [] = true
same_key [] (b ∷ bs) = false
same_key (a ∷ as') [] = false
same_key (a ∷ as') (b ∷ bs) = eqb a b && same_key as' bs

abbrev pub rows_of : List ℕ → Sheet → List Row
rows_of k [] = []
rows_of k (f ∷ fs) = cond (same_key k f.key) f.rows (rows_of k fs)

-- what a line must keep beyond form and range, given all that stands above it
abbrev pub Rule : Type 0
Rule = Sheet → Row → Option Refusal

-- the paragraphs of a sheet: a line, or a count line with that many lines
pub data Paragraph : Type 0 where
  one : Line → Rule → Paragraph
  many : List ℕ → ℕ → ℕ → Line → Rule → Paragraph

abbrev pub line_of : Paragraph → Line
line_of (one l rule) = l
line_of (many key a b l rule) = l

abbrev pub rule_of : Paragraph → Rule
rule_of (one l rule) = rule
rule_of (many key a b l rule) = rule

abbrev pub key_of : Paragraph → List ℕ
key_of p = (line_of p).key

abbrev pub count_line : List ℕ → ℕ → ℕ → Line
count_line key a b = record { key = key; fields = to a b ∷ [] }

-- A DOCUMENT: the first line, the lines that it chooses, and the rules of the whole sheet
pub record Document : Type 0 where
  pub first : Paragraph
  pub below : Sheet → List Paragraph
  pub whole : Sheet → Option Refusal

abbrev pub sound_paragraph : Paragraph → Bool
sound_paragraph (one l rule) = sound l
sound_paragraph (many key a b l rule) = sound (count_line key a b) && sound l

abbrev pub sound_paragraphs : List Paragraph → Bool
sound_paragraphs [] = true
sound_paragraphs (p ∷ ps) = sound_paragraph p && sound_paragraphs ps

-- the most bytes that a line, a paragraph and all paragraphs can have: key, =, and at most eleven bytes for each field
abbrev pub line_size : Line → ℕ
line_size l = length l.key + 1 + 11 * length l.fields

abbrev pub paragraph_size : Paragraph → ℕ
paragraph_size (one l rule) = line_size l
paragraph_size (many key a b l rule) = line_size (count_line key a b) + b * line_size l

abbrev pub paragraphs_size : List Paragraph → ℕ
paragraphs_size [] = 0
paragraphs_size (p ∷ ps) = paragraph_size p + paragraphs_size ps

-- what a document must be, so that its texts can be read: every line sound, and no sheet longer than 16,384 bytes
pub record Sound (d : Document) : Type 0 where
  pub first : sound_paragraph d.first ≡ true
  pub below : (seen : Sheet) → sound_paragraphs (d.below seen) ≡ true
  pub small : (seen : Sheet) → leb (paragraph_size d.first + paragraphs_size (d.below seen)) sheet_most ≡ true

-- THE TEXT OF A SHEET
unfoldable pub rows_text : Line → List Row → List ℕ
rows_text l [] = []
rows_text l (row ∷ rows) = line_text l row ++ rows_text l rows

abbrev pub paragraph_text : Paragraph → List Row → List ℕ
paragraph_text (one l rule) rows = rows_text l rows
paragraph_text (many key a b l rule) rows = line_text (count_line key a b) (plain (pos (length rows) ∷ [])) ++ rows_text l rows

unfoldable pub sheet_text : List Paragraph → Sheet → List ℕ
sheet_text [] sheet = []
sheet_text (p ∷ ps) [] = []
sheet_text (p ∷ ps) (f ∷ fs) = paragraph_text p f.rows ++ sheet_text ps fs

unfoldable pub text_of : Document → Sheet → List ℕ
text_of d [] = []
text_of d (f ∷ fs) = paragraph_text d.first f.rows ++ sheet_text (d.below (f ∷ [])) fs
