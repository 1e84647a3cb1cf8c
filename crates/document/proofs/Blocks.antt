-- Rows, paragraphs and sheets: their text is read as themselves, and what is read is their text. Assumes nothing.
use Prim.Native.Nat.{ℕ, zero, suc, ◌+◌}
use mathlib.Core.Path.{◌≡◌, refl, sym, ap, ◌∙◌, subst}
use mathlib.Core.List.{List, [], ◌∷◌, ◌++◌, append_assoc, append-nil}
use mathlib.Core.Option.{Option, none}
use mathlib.Core.Bool.{true, false}
use native.Mathlib.Omega.{arith}
use lib.ListN.{length, drop, get_or}
use lib.Seq.{append_snoc, drop-append_seam}
use lib.IntN.{ℤ, pos, negsuc, nat_abs}
use Rattle.sheet.specs.declared.Refusal.{Refusal}
use Rattle.sheet.specs.Quantities.{to}
use Rattle.document.specs.Schema.{Line, Row, plain, line_text, fits, within, in_ranges, sound, Judged, refused, values, judge}
use Rattle.document.specs.Reader.{Filled, Sheet, Rule, Paragraph, one, many, sound_paragraph, sound_paragraphs, count_line, rows_text, paragraph_text, sheet_text, stopped, got, ◌>>=◌, return, judged, read_line, filled, read_rows, read_paragraph, read_paragraphs, behind, behind_all, RowsKeep, ParagraphKeeps, ParagraphsKeep}
use Rattle.document.proofs.Cases.{clash, both, on_none, and_then-got}
use Rattle.document.proofs.Judged.{is-fit, judge-text, judge-values}

-- a text, and a text behind it
pub followed : {text left : List ℕ} (a b rest : List ℕ) → text ≡ a ++ left → left ≡ b ++ rest → text ≡ (a ++ b) ++ rest
followed a b rest p q = p ∙ ap (λ (x : List ℕ). a ++ x) q ∙ sym (append_assoc a b rest)

-- ONE LINE
pub line-text : (l : Line) (rule : Row → Option Refusal) (row : Row) (n : ℕ) (rest : List ℕ) → sound l ≡ true → fits l row ≡ true → rule row ≡ none
    → read_line l rule n (line_text l row ++ rest) ≡ got row (suc n) rest
unfolding read_line
line-text l rule row n rest s h r = rw (judge-text l row rest s h, r, drop-append_seam (line_text l row) rest)

pub record LineRead (l : Line) (rule : Row → Option Refusal) (row : Row) (text rest : List ℕ) : Type 0 where
  pub in_range : fits l row ≡ true
  pub kept : rule row ≡ none
  pub whole : text ≡ line_text l row ++ rest

pub line-got : (l : Line) (rule : Row → Option Refusal) (row : Row) (n : ℕ) (text : List ℕ) (m : ℕ) (rest : List ℕ)
    → read_line l rule n text ≡ got row m rest → LineRead l rule row text rest
unfolding read_line
line-got l rule row n text m rest e = here (judge l text) refl e
  where
    here : (j : Judged) → judge l text ≡ j → judged j rule n text ≡ got row m rest → LineRead l rule row text rest
    here (refused r) q e = clash cc
    here (values r size) q e =
        let o = on_none (rule r) (got r (suc n) (drop size text)) (got row m rest) (λ x. stopped x n) (λ x z. clash cc) e in
        let p : r ≡ row = cc in
        let d : drop size text ≡ rest = cc in
        let k = judge-values l text r size q in
        record { in_range = rw p at k.in_range; kept = rw p at o.0; whole = rw (← p, ← d) k.whole }

-- THE ROWS OF A BLOCK
module _ (l : Line) (rule : Rule) (seen : Sheet) where
  pub rows-text : sound l ≡ true → (rows above : List Row) (n : ℕ) (rest : List ℕ) → RowsKeep l rule seen above rows
      → read_rows (length rows) l rule seen above n (rows_text l rows ++ rest) ≡ got (above ++ rows) (n + length rows) rest
  unfolding read_rows rows_text
  rows-text s [] above n rest h = let z : n + 0 ≡ n = omega arith in rw (append-nil above, z)
  rows-text s (row ∷ rows) above n rest h =
      let a = line-text l (rule (seen ++ filled l above)) row n (rows_text l rows ++ rest) s h.0 h.1 in
      let b = rows-text s rows (above ++ (row ∷ [])) (suc n) rest h.2 in
      let z : n + suc (length rows) ≡ suc n + length rows = omega arith in
      rw (append_assoc (line_text l row) (rows_text l rows) rest, a, z, ← append_snoc above row rows) b

  pub record RowsRead (k : ℕ) (above all : List Row) (text rest : List ℕ) : Type 0 where
    pub rows : List Row
    pub count : length rows ≡ k
    pub made : all ≡ above ++ rows
    pub kept : RowsKeep l rule seen above rows
    pub whole : text ≡ rows_text l rows ++ rest

  pub rows-got : (k : ℕ) (above all : List Row) (n : ℕ) (text : List ℕ) (m : ℕ) (rest : List ℕ) → read_rows k l rule seen above n text ≡ got all m rest
      → RowsRead k above all text rest
  unfolding read_rows rows_text
  rows-got zero above all n text m rest e = record { rows = []; count = refl; made = sym (append-nil above ∙ cc); kept = tt; whole = cc }
  rows-got (suc k) above all n text m rest e =
      let s = and_then-got (read_line l (rule (seen ++ filled l above)) n text) (λ row. read_rows k l rule seen (above ++ (row ∷ []))) all m rest e in
      let row = s.was in
      let a = line-got l (rule (seen ++ filled l above)) row n text s.line s.left s.first in
      let b = rows-got k (above ++ (row ∷ [])) all s.line s.left m rest s.then in
      record {
        rows = row ∷ b.rows;
        count = ap suc b.count;
        made = b.made ∙ append_snoc above row b.rows;
        kept = (a.in_range, a.kept, b.kept);
        whole = followed (line_text l row) (rows_text l b.rows) rest a.whole b.whole;
      }

  -- a block ends with its rows under its key
  pub block-got : (k : ℕ) (sheet : Sheet) (n : ℕ) (text : List ℕ) (m : ℕ) (rest : List ℕ)
      → (read_rows k l rule seen [] >>= (λ rows. return (seen ++ filled l rows))) n text ≡ got sheet m rest
      → (all : List Row) × (sheet ≡ seen ++ filled l all) × RowsRead k [] all text rest
  block-got k sheet n text m rest e =
      let s = and_then-got (read_rows k l rule seen [] n text) (λ rows. return (seen ++ filled l rows)) sheet m rest e in
      let a = s.then in
      let p : s.line ≡ m = cc in
      let q : s.left ≡ rest = cc in
      (s.was, cc, rows-got k [] s.was n text m rest (rw (p, q) at s.first))

-- ONE PART
keyed : (l : Line) (seen : Sheet) (f : Filled) → f.key ≡ l.key → seen ++ filled l f.rows ≡ seen ++ (f ∷ [])
keyed l seen f e = ap (λ (k : List ℕ). seen ++ (record { key = k; rows = f.rows } ∷ [])) (sym e)

-- the count line of a block of so many rows
abbrev pub count_of : List Row → Row
count_of rows = plain (pos (length rows) ∷ [])

pub paragraph-text : (p : Paragraph) (seen : Sheet) (f : Filled) (n : ℕ) (rest : List ℕ) → sound_paragraph p ≡ true → ParagraphKeeps p seen f
    → read_paragraph p seen n (paragraph_text p f.rows ++ rest) ≡ got (seen ++ (f ∷ [])) (behind p f.rows n) rest
paragraph-text (one l rule) seen f n rest s h =
    let a = rows-text l rule seen s f.rows [] n rest h.2 in
    let b = rw h.1 at a in
    rw b (ap (λ (x : Sheet). got x (n + 1) rest) (keyed l seen f h.0))
paragraph-text (many key a b l rule) seen f n rest s h =
    let t = both (sound (count_line key a b)) (sound l) s in
    let c = line-text (count_line key a b) (λ row. none) (count_of f.rows) n (rows_text l f.rows ++ rest) t.0 h.1 refl in
    let d = rows-text l rule seen t.1 f.rows [] (suc n) rest h.2 in
    rw (append_assoc (line_text (count_line key a b) (count_of f.rows)) (rows_text l f.rows) rest, c, d)
    (ap (λ (x : Sheet). got x (suc n + length f.rows) rest) (keyed l seen f h.0))

pub record PartRead (p : Paragraph) (seen sheet : Sheet) (text rest : List ℕ) : Type 0 where
  pub part : Filled
  pub made : sheet ≡ seen ++ (part ∷ [])
  pub kept : ParagraphKeeps p seen part
  pub whole : text ≡ paragraph_text p part.rows ++ rest

-- a count in its range is a whole number
count-numbers : (a b : ℕ) (zs : List ℤ) → in_ranges (to a b ∷ []) zs ≡ true → zs ≡ pos (nat_abs (get_or zs 0 (pos 0))) ∷ []
unfolding in_ranges
count-numbers a b [] e = clash cc
count-numbers a b (pos k ∷ []) e = refl
count-numbers a b (negsuc k ∷ []) e = clash cc
count-numbers a b (z ∷ y ∷ zs) e = let f = (both (within (to a b) z) false e).1 in clash cc

pub count-row : (key : List ℕ) (a b : ℕ) (row : Row) → fits (count_line key a b) row ≡ true → row ≡ plain (pos (nat_abs (get_or row.numbers 0 (pos 0))) ∷ [])
count-row key a b row h = let f = is-fit (count_line key a b) row h in f.unnamed ∙ ap plain (count-numbers a b row.numbers f.inside)

pub paragraph-got : (p : Paragraph) (seen sheet : Sheet) (n : ℕ) (text : List ℕ) (m : ℕ) (rest : List ℕ) → read_paragraph p seen n text ≡ got sheet m rest
    → PartRead p seen sheet text rest
paragraph-got (one l rule) seen sheet n text m rest e =
    let u = block-got l rule seen 1 sheet n text m rest e in
    let d = u.2 in
    record {
      part = record { key = l.key; rows = d.rows };
      made = u.1 ∙ ap (λ (y : List Row). seen ++ filled l y) d.made;
      kept = (refl, d.count, d.kept);
      whole = d.whole;
    }
paragraph-got (many key a b l rule) seen sheet n text m rest e =
    let k : Row → ℕ = λ count. nat_abs (get_or count.numbers 0 (pos 0)) in
    let s = and_then-got (read_line (count_line key a b) (λ row. none) n text)
    (λ count. read_rows (k count) l rule seen [] >>= (λ rows. return (seen ++ filled l rows))) sheet m rest e in
    let c = line-got (count_line key a b) (λ row. none) s.was n text s.line s.left s.first in
    let u = block-got l rule seen (k s.was) sheet s.line s.left m rest s.then in
    let d = u.2 in
    let counted : s.was ≡ count_of d.rows = count-row key a b s.was c.in_range ∙ ap (λ (x : ℕ). plain (pos x ∷ [])) (sym d.count) in
    record {
      part = record { key = l.key; rows = d.rows };
      made = u.1 ∙ ap (λ (y : List Row). seen ++ filled l y) d.made;
      kept = (refl, rw counted at c.in_range, d.kept);
      whole = followed (line_text (count_line key a b) (count_of d.rows)) (rows_text l d.rows) rest
          (c.whole ∙ ap (λ (y : Row). line_text (count_line key a b) y ++ s.left) counted) d.whole;
    }

-- ALL PARTS
pub paragraphs_text : (ps : List Paragraph) (seen sheet : Sheet) (n : ℕ) (rest : List ℕ) → sound_paragraphs ps ≡ true → ParagraphsKeep ps seen sheet
    → read_paragraphs ps seen n (sheet_text ps sheet ++ rest) ≡ got (seen ++ sheet) (behind_all ps sheet n) rest
unfolding read_paragraphs sheet_text
paragraphs_text [] seen [] n rest s h = rw append-nil
paragraphs_text [] seen (f ∷ sheet) n rest s h = absurd h
paragraphs_text (p ∷ ps) seen [] n rest s h = absurd h
paragraphs_text (p ∷ ps) seen (f ∷ sheet) n rest s h =
    let t = both (sound_paragraph p) (sound_paragraphs ps) s in
    let a = paragraph-text p seen f n (sheet_text ps sheet ++ rest) t.0 h.0 in
    let b = paragraphs_text ps (seen ++ (f ∷ [])) sheet (behind p f.rows n) rest t.1 h.1 in
    rw (append_assoc (paragraph_text p f.rows) (sheet_text ps sheet) rest, a, ← append_snoc seen f sheet) b

pub record PartsRead (ps : List Paragraph) (seen all : Sheet) (text rest : List ℕ) : Type 0 where
  pub parts : Sheet
  pub made : all ≡ seen ++ parts
  pub kept : ParagraphsKeep ps seen parts
  pub whole : text ≡ sheet_text ps parts ++ rest

pub paragraphs_got : (ps : List Paragraph) (seen sheet : Sheet) (n : ℕ) (text : List ℕ) (m : ℕ) (rest : List ℕ)
    → read_paragraphs ps seen n text ≡ got sheet m rest
    → PartsRead ps seen sheet text rest
unfolding read_paragraphs sheet_text
paragraphs_got [] seen sheet n text m rest e = record { parts = []; made = sym (append-nil seen ∙ cc); kept = tt; whole = cc }
paragraphs_got (p ∷ ps) seen sheet n text m rest e =
    let s = and_then-got (read_paragraph p seen n text) (λ top. read_paragraphs ps top) sheet m rest e in
    let a = paragraph-got p seen s.was n text s.line s.left s.first in
    let b = paragraphs_got ps s.was sheet s.line s.left m rest s.then in
    let f = a.part in
    record {
      parts = f ∷ b.parts;
      made = b.made ∙ ap (λ (y : Sheet). y ++ b.parts) a.made ∙ append_snoc seen f b.parts;
      kept = (a.kept, subst (λ (y : Sheet). ParagraphsKeep ps y b.parts) a.made b.kept);
      whole = followed (paragraph_text p f.rows) (sheet_text ps b.parts) rest a.whole b.whole;
    }
