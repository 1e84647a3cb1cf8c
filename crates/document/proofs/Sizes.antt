-- No sheet that keeps its lines is longer than 16,384 bytes: refusal 1 never strikes a sheet that breaks no other rule.
-- Assumes nothing.
use Prim.Native.Nat.{ℕ, suc, ◌+◌, ◌*◌, ◌≤◌, ◌<◌}
use mathlib.Core.Path.{◌≡◌}
use mathlib.Core.List.{List, [], ◌∷◌, ◌++◌, map}
use mathlib.Core.Bool.{true, false}
use native.Mathlib.Omega.{arith}
use native.Mathlib.Nat.{mul-le-mul_right}
use lib.ListN.{length, length-append}
use lib.IntN.{ℤ, pos}
use lib.Signed.{le_z}
use borrow.Author.Tests.{leb-true}
use Rattle.text.specs.Decimal.{decimal}
use Rattle.text.proofs.Decimal.{sheet_width}
use Rattle.sheet.specs.Quantities.{Field, to, sheet_most}
use Rattle.document.specs.Schema.{Line, Row, joined, body_text, line_text, within, in_ranges, fits, nine, nines, sound}
use Rattle.document.specs.Reader.{Filled, Sheet, Rule, Paragraph, one, many, Document, sound_paragraph, sound_paragraphs, line_size, paragraph_size, paragraphs_size, Sound, count_line, rows_text, paragraph_text, sheet_text, text_of, RowsKeep, ParagraphKeeps, ParagraphsKeep, LinesKeep}
use Rattle.document.proofs.Cases.{clash, both}
use Rattle.document.proofs.Pieces.{within-small}
use Rattle.document.proofs.Judged.{is-sound, is-fit, line-length}
use Rattle.document.proofs.Blocks.{count_of}

number-most : (f : Field) (z : ℤ) → nine f ≡ true → within f z ≡ true → length (decimal z) ≤ 10
number-most f z n h = sheet_width z (within-small f z n h)

joined-most : (fs : List Field) (zs : List ℤ) → nines fs ≡ true → in_ranges fs zs ≡ true → 0 < length fs
    → suc (length (joined (map decimal zs))) ≤ 11 * length fs
unfolding joined in_ranges
joined-most [] zs n h p = absurd (omega arith)
joined-most (f ∷ fs) [] n h p = clash cc
joined-most (f ∷ []) (z ∷ []) n h p = omega (arith, number-most f z (both (nine f) true n).0 (both (within f z) true h).0)
joined-most (f ∷ []) (z ∷ y ∷ zs) n h p = let b = (both (within f z) false h).1 in clash cc
joined-most (f ∷ g ∷ fs) (z ∷ []) n h p = let b = (both (within f z) false h).1 in clash cc
joined-most (f ∷ g ∷ fs) (z ∷ y ∷ zs) n h p =
    let a = both (nine f) (nines (g ∷ fs)) n in
    let b = both (within f z) (in_ranges (g ∷ fs) (y ∷ zs)) h in
    let r = joined-most (g ∷ fs) (y ∷ zs) a.1 b.1 (omega arith) in
    omega (arith, r, number-most f z a.0 b.0, length-append (decimal z) (44 ∷ joined (map decimal (y ∷ zs))))

line-most : (l : Line) (row : Row) → sound l ≡ true → fits l row ≡ true → length (line_text l row) ≤ line_size l
unfolding body_text
line-most l row s h =
    let a = is-sound l s in
    let r = joined-most l.fields row.numbers a.digits (is-fit l row h).inside a.some in
    omega (arith, r, line-length l row, length-append l.key (61 ∷ joined (map decimal row.numbers)))

rows-most : (l : Line) (rule : Rule) (seen : Sheet) (above rows : List Row) → sound l ≡ true → RowsKeep l rule seen above rows
    → length (rows_text l rows) ≤ length rows * line_size l
unfolding rows_text
rows-most l rule seen above [] s h = omega arith
rows-most l rule seen above (row ∷ rows) s h =
    omega (arith, line-most l row s h.0, rows-most l rule seen (above ++ (row ∷ [])) rows s h.2, length-append (line_text l row) (rows_text l rows))

-- a block has as many rows as its count may be
pub count_in : (key : List ℕ) (a b : ℕ) (rows : List Row) → fits (count_line key a b) (count_of rows) ≡ true → (a ≤ length rows) × (length rows ≤ b)
unfolding in_ranges
count_in key a b rows h =
    let n = pos (length rows) in
    let i = (both (within (to a b) n) true (is-fit (count_line key a b) (count_of rows) h).inside).0 in
    let c = both (le_z (pos a) n) (le_z n (pos b)) i in
    (leb-true a (length rows) c.0, leb-true (length rows) b c.1)

paragraph-most : (p : Paragraph) (seen : Sheet) (f : Filled) → sound_paragraph p ≡ true → ParagraphKeeps p seen f
    → length (paragraph_text p f.rows) ≤ paragraph_size p
paragraph-most (one l rule) seen f s h =
    let b : length (rows_text l f.rows) ≤ 1 * line_size l = rw h.1 at (rows-most l rule seen [] f.rows s h.2) in
    omega arith
paragraph-most (many key a b l rule) seen f s h =
    let t = both (sound (count_line key a b)) (sound l) s in
    let c = line-most (count_line key a b) (count_of f.rows) t.0 h.1 in
    let m : length f.rows * line_size l ≤ b * line_size l = mul-le-mul_right (line_size l) (count_in key a b f.rows h.1).1 in
    omega
    (arith, c, rows-most l rule seen [] f.rows t.1 h.2, m, length-append (line_text (count_line key a b) (count_of f.rows)) (rows_text l f.rows))

paragraphs_most : (ps : List Paragraph) (seen sheet : Sheet) → sound_paragraphs ps ≡ true → ParagraphsKeep ps seen sheet
    → length (sheet_text ps sheet) ≤ paragraphs_size ps
unfolding sheet_text
paragraphs_most [] seen [] s h = omega arith
paragraphs_most [] seen (f ∷ fs) s h = absurd h
paragraphs_most (p ∷ ps) seen [] s h = absurd h
paragraphs_most (p ∷ ps) seen (f ∷ fs) s h =
    let t = both (sound_paragraph p) (sound_paragraphs ps) s in
    omega (
      arith,
      paragraph-most p seen f t.0 h.0,
      paragraphs_most ps (seen ++ (f ∷ [])) fs t.1 h.1,
      length-append (paragraph_text p f.rows) (sheet_text ps fs),
    )

-- THE LAW
pub never_too_long : (d : Document) → Sound d → (sheet : Sheet) → LinesKeep d sheet → length (text_of d sheet) ≤ sheet_most
unfolding text_of
never_too_long d s [] h = absurd h
never_too_long d s (f ∷ fs) h =
    let a = paragraph-most d.first [] f s.first h.0 in
    let b = paragraphs_most (d.below (f ∷ [])) (f ∷ []) fs (s.below (f ∷ [])) h.1 in
    let m = leb-true (paragraph_size d.first + paragraphs_size (d.below (f ∷ []))) sheet_most (s.small (f ∷ [])) in
    omega (arith, a, b, m, length-append (paragraph_text d.first f.rows) (sheet_text (d.below (f ∷ [])) fs))
