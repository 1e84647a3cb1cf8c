-- What the reader says to a text, and what an accepted sheet keeps: over any document.
use Rattle.std.specs.Prelude.{ℕ, zero, suc, ◌+◌, ◌≡◌, List, [], ◌∷◌, ◌++◌, true, cond, length, get_or, drop, ltb, pos, nat_abs}
use Rattle.std.proofs.Math.Option.{Option, none}
use Rattle.sheet.specs.declared.Refusal.{Refusal}
use Rattle.sheet.specs.declared.Refusal.TheVariants.{TooLong, Surplus}
use Rattle.sheet.specs.Quantities.{sheet_most}
use Rattle.document.specs.Schema.{on, Line, Row, plain, fits, Judged, refused, values, judge}
pub use Rattle.document.specs.Document.{Filled, Sheet, same_key, rows_of, Rule, Paragraph, one, many, line_of, rule_of, key_of, count_line, Document, sound_paragraph, sound_paragraphs, line_size, paragraph_size, paragraphs_size, Sound, paragraph_text}
unfoldable pub use Rattle.document.specs.Document.{rows_text, sheet_text, text_of}

-- READING: what was read, the number of the line that follows, and the text that is left; or a refusal with its line
pub data Read (A : Type 0) : Type 0 where
  stopped : Refusal → ℕ → Read A
  got : A → ℕ → List ℕ → Read A

infixl 20 ◌>>=◌
abbrev pub Reader : Type 0 → Type 0
Reader A = ℕ → List ℕ → Read A

abbrev pub and_then : {A B : Type 0} → Read A → (A → Reader B) → Read B
and_then (stopped r n) f = stopped r n
and_then (got a n rest) f = f a n rest

abbrev pub ◌>>=◌ : {A B : Type 0} → Reader A → (A → Reader B) → Reader B
◌>>=◌ m f = λ n text. and_then (m n text) f

abbrev pub return : {A : Type 0} → A → Reader A
return a = λ n text. got a n text

-- a line: first its form and ranges, then its rule
abbrev pub judged : Judged → (Row → Option Refusal) → Reader Row
judged (refused r) rule n text = stopped r n
judged (values row size) rule n text = on (rule row) (got row (suc n) (drop size text)) (λ r. stopped r n)

unfoldable pub read_line : Line → (Row → Option Refusal) → Reader Row
read_line l rule n text = judged (judge l text) rule n text

abbrev pub filled : Line → List Row → Sheet
filled l rows = record { key = l.key; rows = rows } ∷ []

-- k lines more of a block, of which some rows are read
unfoldable pub read_rows : ℕ → Line → Rule → Sheet → List Row → Reader (List Row)
read_rows zero l rule seen rows = return rows
read_rows (suc k) l rule seen rows = do
  row ← read_line l (rule (seen ++ filled l rows))
  read_rows k l rule seen (rows ++ (row ∷ []))

abbrev pub read_paragraph : Paragraph → Sheet → Reader Sheet
read_paragraph (one l rule) seen = do
  rows ← read_rows 1 l rule seen []
  return (seen ++ filled l rows)
read_paragraph (many key a b l rule) seen = do
  count ← read_line (count_line key a b) (λ row. none)
  rows ← read_rows (nat_abs (get_or count.numbers 0 (pos 0))) l rule seen []
  return (seen ++ filled l rows)

unfoldable pub read_paragraphs : List Paragraph → Sheet → Reader Sheet
read_paragraphs [] seen = return seen
read_paragraphs (p ∷ ps) seen = do
  sheet ← read_paragraph p seen
  read_paragraphs ps sheet

-- the first line, then the lines that it chooses
abbrev pub read_lines : Document → Reader Sheet
read_lines d = do
  top ← read_paragraph d.first []
  read_paragraphs (d.below top) top

-- THE ANSWER: 1 first, then the lines from the top, then nothing more, then the whole sheet's rules
pub data Answer : Type 0 where
  Refused : Refusal → ℕ → Answer
  Good : Sheet → Answer

abbrev pub judged_whole : Document → Read Sheet → Answer
judged_whole d (stopped r n) = Refused r n
judged_whole d (got sheet n []) = on (d.whole sheet) (Good sheet) (λ r. Refused r 0)
judged_whole d (got sheet n (b ∷ bs)) = Refused Surplus n

unfoldable pub read_of : Document → List ℕ → Answer
read_of d text = cond (ltb sheet_most (length text)) (Refused TooLong 0) (judged_whole d (read_lines d 1 text))

-- the number of the line behind a paragraph that begins at line n, and behind all paragraphs
abbrev pub behind : Paragraph → List Row → ℕ → ℕ
behind (one l rule) rows n = n + 1
behind (many key a b l rule) rows n = suc n + length rows

abbrev pub behind_all : List Paragraph → Sheet → ℕ → ℕ
behind_all [] sheet n = n
behind_all (p ∷ ps) [] n = n
behind_all (p ∷ ps) (f ∷ fs) n = behind_all ps fs (behind p f.rows n)

-- WHAT A SHEET KEEPS: every row in range, and no rule against it, given the rows above it
abbrev pub RowsKeep : Line → Rule → Sheet → List Row → List Row → Type 0
RowsKeep l rule seen above [] = Unit {0}
RowsKeep l rule seen above (row ∷ rows) =
    (fits l row ≡ true) × (rule (seen ++ filled l above) row ≡ none) × RowsKeep l rule seen (above ++ (row ∷ [])) rows

abbrev pub ParagraphKeeps : Paragraph → Sheet → Filled → Type 0
ParagraphKeeps (one l rule) seen f = (f.key ≡ l.key) × (length f.rows ≡ 1) × RowsKeep l rule seen [] f.rows
ParagraphKeeps (many key a b l rule) seen f =
    (f.key ≡ l.key) × (fits (count_line key a b) (plain (pos (length f.rows) ∷ [])) ≡ true) × RowsKeep l rule seen [] f.rows

-- paragraph by paragraph, given what stands above
abbrev pub Along : (Paragraph → Sheet → Filled → Type 0) → List Paragraph → Sheet → Sheet → Type 0
Along Q [] seen [] = Unit {0}
Along Q [] seen (f ∷ fs) = ⊥
Along Q (p ∷ ps) seen [] = ⊥
Along Q (p ∷ ps) seen (f ∷ fs) = Q p seen f × Along Q ps (seen ++ (f ∷ [])) fs

abbrev pub ParagraphsKeep : List Paragraph → Sheet → Sheet → Type 0
ParagraphsKeep = Along ParagraphKeeps

abbrev pub LinesKeep : Document → Sheet → Type 0
LinesKeep d [] = ⊥
LinesKeep d (f ∷ fs) = ParagraphKeeps d.first [] f × ParagraphsKeep (d.below (f ∷ [])) (f ∷ []) fs

pub record Keeps (d : Document) (sheet : Sheet) : Type 0 where
  pub lines : LinesKeep d sheet
  pub whole : d.whole sheet ≡ none
