-- Where reading stops a line is due, and it stops the reader. Assumes nothing.
use Prim.Native.Nat.{ℕ, zero, suc, ◌+◌, ◌<◌}
use mathlib.Core.Path.{◌≡◌, refl, sym, ap, subst, ◌∙◌}
use mathlib.Core.List.{List, [], ◌∷◌, ◌++◌, append-nil}
use mathlib.Core.Logic.{inl, inr}
use mathlib.Core.Option.{Option, none, some}
use mathlib.Core.Bool.{true}
use native.Mathlib.Omega.{arith}
use lib.ListN.{length, drop, get_or}
use lib.Seq.{append_snoc}
use lib.IntN.{pos, nat_abs}
use Rattle.sheet.specs.declared.Refusal.{Refusal}
use Rattle.document.specs.Schema.{on, Line, Row, plain, at, line_text, Judged, refused, values, judge}
use Rattle.document.specs.Reader.{Filled, Sheet, Rule, Paragraph, one, many, count_line, filled, rows_text, paragraph_text, behind, sound_paragraph, sound_paragraphs, Read, stopped, got, and_then, ◌>>=◌, return, judged, read_line, read_rows, read_paragraph, read_paragraphs, read_lines, RowsKeep}
use Rattle.sheet.specs.Quantities.{to}
use Rattle.document.specs.Editions.{document}
use Rattle.document.specs.Rows.{edition_in}
use Rattle.document.specs.Rules.{Every}
use Rattle.document.specs.Lawful.{In}
use Rattle.document.specs.GoodLines.{GoodParagraph}
use Rattle.document.specs.Order.{DueLine, InParagraph, InParagraphs, Due}
use Rattle.document.proofs.Cases.{clash, both}
use Rattle.document.proofs.Blocks.{followed, line-got, count-row, paragraph-text, paragraph-got}
use Rattle.document.proofs.Fields.{field_in}
use Rattle.document.proofs.Editions.{document-sound}
use Rattle.document.proofs.KeyRules.{rule_for}
use Rattle.document.proofs.GoodLines.{ByKey, first-by-key, lines-by-key, rows-good, paragraph-good}
use Rattle.document.proofs.Stopping.{Stops}

-- A LINE is left behind by one, and where it stops the reader it is the line itself
module _ (l : Line) (rule : Row → Option Refusal) (n m : ℕ) (text : List ℕ) where
  line-next : (row : Row) (rest : List ℕ) → read_line l rule n text ≡ got row m rest → m ≡ suc n
  unfolding read_line
  line-next row rest e = here (judge l text) e
    where
      ruled : (o : Option Refusal) (x : Row) (left : List ℕ) → on o (got x (suc n) left) (λ r. stopped r n) ≡ got row m rest → m ≡ suc n
      ruled none x left e = cc
      ruled (some r) x left e = clash cc

      here : (j : Judged) → judged j rule n text ≡ got row m rest → m ≡ suc n
      here (refused r) e = clash cc
      here (values x size) e = ruled (rule x) x (drop size text) e

  line_stays : (r : Refusal) → read_line l rule n text ≡ stopped r m → m ≡ n
  unfolding read_line
  line_stays r e = here (judge l text) e
    where
      ruled : (o : Option Refusal) (x : Row) (left : List ℕ) → on o (got x (suc n) left) (λ r. stopped r n) ≡ stopped r m → m ≡ n
      ruled none x left e = clash cc
      ruled (some r) x left e = cc

      here : (j : Judged) → judged j rule n text ≡ stopped r m → m ≡ n
      here (refused r) e = cc
      here (values x size) e = ruled (rule x) x (drop size text) e

-- IN A BLOCK
record RowsStop (l : Line) (rule : Rule) (seen : Sheet) (above : List Row) (k n m : ℕ) (text : List ℕ) (r : Refusal) : Type 0 where
  rows : List Row
  left : List ℕ
  fewer : length rows < k
  kept : RowsKeep l rule seen above rows
  whole : text ≡ rows_text l rows ++ left
  line : m ≡ n + length rows
  stops : read_line l (rule (seen ++ filled l (above ++ rows))) (n + length rows) left ≡ stopped r m

module _ (l : Line) (rule : Rule) (seen : Sheet) (r : Refusal) where
  rows-stopped : (k : ℕ) (above : List Row) (n m : ℕ) (text : List ℕ) → read_rows k l rule seen above n text ≡ stopped r m
      → RowsStop l rule seen above k n m text r
  unfolding read_rows rows_text
  rows-stopped zero above n m text e = clash cc
  rows-stopped (suc k) above n m text e =
      here (read_line l due n text) refl e (λ row j rest. rows-stopped k (above ++ (row ∷ [])) j m rest)
    where
      due : Row → Option Refusal
      due = rule (seen ++ filled l above)

      here : (x : Read Row) → read_line l due n text ≡ x → and_then x (λ row. read_rows k l rule seen (above ++ (row ∷ []))) ≡ stopped r m
          → ((row : Row) (j : ℕ) (rest : List ℕ) → read_rows k l rule seen (above ++ (row ∷ [])) j rest ≡ stopped r m
          → RowsStop l rule seen (above ++ (row ∷ [])) k j m rest r)
          → RowsStop l rule seen above (suc k) n m text r
      here (stopped y j) q e rec =
          let z : n + 0 ≡ n = omega arith in
          let f : read_line l due n text ≡ stopped r m = q ∙ cc in
          record {
            rows = [];
            left = text;
            fewer = omega arith;
            kept = tt;
            whole = refl;
            line = line_stays l due n m text r f ∙ sym z;
            stops = rw (append-nil above, z) f;
          }
      here (got row j rest) q e rec =
          let a = line-got l due row n text j rest q in
          let next = line-next l due n j text row rest q in
          let b = rec row j rest e in
          let z : n + suc (length b.rows) ≡ j + length b.rows = omega arith in
          record {
            rows = row ∷ b.rows;
            left = b.left;
            fewer = omega (arith, b.fewer);
            kept = (a.in_range, a.kept, b.kept);
            whole = followed (line_text l row) (rows_text l b.rows) b.left a.whole b.whole;
            line = b.line ∙ sym z;
            stops = rw (← append_snoc above row b.rows, z) b.stops;
          }

-- IN A PARAGRAPH
pub record StopsAt (Here : DueLine → Type 0) (r : Refusal) (m : ℕ) : Type 0 where
  pub place : DueLine
  pub due : Here place
  pub stops : Stops r place
  pub line : m ≡ place.number

paragraph-stopped : (p : Paragraph) (seen : Sheet) (n m : ℕ) (text : List ℕ) (r : Refusal) → ByKey p → read_paragraph p seen n text ≡ stopped r m
    → StopsAt (InParagraph p seen n text) r m
unfolding read_rows
paragraph-stopped (one l rule) seen n m text r known e = here (read_line l due n text) refl e
  where
    due : Row → Option Refusal
    due = rule (seen ++ filled l [])

    here : (x : Read Row) → read_line l due n text ≡ x
        → and_then (and_then x (λ row. read_rows 0 l rule seen ([] ++ (row ∷ [])))) (λ rows. return (seen ++ filled l rows)) ≡ stopped r m
        → StopsAt (InParagraph (one l rule) seen n text) r m
    here (stopped y j) q e =
        let f : read_line l due n text ≡ stopped r m = q ∙ cc in
        let same = line_stays l due n m text r f in
        let above = seen ++ filled l [] in
        let keyed = subst (λ (x : Rule). read_line l (x above) n text ≡ stopped r m) known f in
        record { place = record { number = n; line = l; above = above; rest = text }; due = refl; stops = keyed ∙ ap (stopped r) same; line = same }
    here (got row j rest) q e = clash cc
paragraph-stopped (many key a b l rule) seen n m text r known e = here (read_line (count_line key a b) (λ row. none) n text) refl e
  where
    k : Row → ℕ
    k count = nat_abs (get_or count.numbers 0 (pos 0))

    block : (row : Row) (j : ℕ) (rest : List ℕ) → read_line (count_line key a b) (λ row. none) n text ≡ got row j rest
        → RowsStop l rule seen [] (k row) j m rest r → StopsAt (InParagraph (many key a b l rule) seen n text) r m
    block row j rest q x =
        let c = line-got (count_line key a b) (λ row. none) row n text j rest q in
        let next = line-next (count_line key a b) (λ row. none) n j text row rest q in
        let is = count-row key a b row c.in_range in
        let first : at row 0 ≡ pos (k row) = ap (λ (y : Row). at y 0) is in
        let z : j + length x.rows ≡ suc n + length x.rows = omega arith in
        let same : m ≡ suc n + length x.rows = x.line ∙ z in
        let above = seen ++ filled l x.rows in
        let keyed = subst (λ (y : Rule). read_line l (y above) (j + length x.rows) x.left ≡ stopped r m) known.0 x.stops in
        record {
          place = record { number = suc n + length x.rows; line = l; above = above; rest = x.left };
          due = inr (record {
            count = k row;
            counted = subst (In (to a b)) first (field_in (count_line key a b) row c.in_range 0);
            rows = x.rows;
            fewer = x.fewer;
            good = (rows-good l rule known.0 seen x.rows).to x.kept;
            whole = c.whole
                ∙ ap (λ (y : Row). line_text (count_line key a b) y ++ rest) is
                ∙ ap (λ (y : List ℕ). line_text (count_line key a b) (plain (pos (k row) ∷ [])) ++ y) x.whole;
            place = refl;
          });
          stops = subst (λ (i : ℕ). read_line l (rule_for l.key (length l.fields) above) i x.left ≡ stopped r m) z keyed ∙ ap (stopped r) same;
          line = same;
        }

    rows_end : (x : Read (List Row)) → and_then x (λ rows. return (seen ++ filled l rows)) ≡ stopped r m → x ≡ stopped r m
    rows_end (stopped y j) e = cc
    rows_end (got rows j rest) e = clash cc

    here : (x : Read Row) → read_line (count_line key a b) (λ row. none) n text ≡ x
        → and_then x (λ count. read_rows (k count) l rule seen [] >>= (λ rows. return (seen ++ filled l rows))) ≡ stopped r m
        → StopsAt (InParagraph (many key a b l rule) seen n text) r m
    here (stopped y j) q e =
        let f : read_line (count_line key a b) (λ row. none) n text ≡ stopped r m = q ∙ cc in
        let same = line_stays (count_line key a b) (λ row. none) n m text r f in
        let keyed = subst (λ (x : Rule). read_line (count_line key a b) (x seen) n text ≡ stopped r m) known.1 f in
        record {
          place = record { number = n; line = count_line key a b; above = seen; rest = text };
          due = inl refl;
          stops = keyed ∙ ap (stopped r) same;
          line = same;
        }
    here (got row j rest) q e = block row j rest q (rows-stopped l rule seen r (k row) [] j m rest (rows_end (read_rows (k row) l rule seen [] j rest) e))

-- BEHIND GOOD PARAGRAPHS
record Passed (p : Paragraph) (seen sheet : Sheet) (n m : ℕ) (text rest : List ℕ) : Type 0 where
  said : Filled
  good : GoodParagraph p seen said
  whole : text ≡ paragraph_text p said.rows ++ rest
  made : sheet ≡ seen ++ (said ∷ [])
  line : m ≡ behind p said.rows n

passed : (p : Paragraph) (seen sheet : Sheet) (n m : ℕ) (text rest : List ℕ) → ByKey p → sound_paragraph p ≡ true
    → read_paragraph p seen n text ≡ got sheet m rest → Passed p seen sheet n m text rest
passed p seen sheet n m text rest known s e =
    let a = paragraph-got p seen sheet n text m rest e in
    let f = a.part in
    let b = paragraph-text p seen f n rest s a.kept in
    let c : read_paragraph p seen n text ≡ got (seen ++ (f ∷ [])) (behind p f.rows n) rest = ap (read_paragraph p seen n) a.whole ∙ b in
    record { said = f; good = (paragraph-good p known seen f).to a.kept; whole = a.whole; made = a.made; line = cc }

paragraphs_stopped : (ps : List Paragraph) (seen : Sheet) (n m : ℕ) (text : List ℕ) (r : Refusal) → Every ByKey ps → sound_paragraphs ps ≡ true
    → read_paragraphs ps seen n text ≡ stopped r m → StopsAt (InParagraphs ps seen n text) r m
unfolding read_paragraphs
paragraphs_stopped [] seen n m text r known s e = clash cc
paragraphs_stopped (p ∷ ps) seen n m text r known s e =
    let t = both (sound_paragraph p) (sound_paragraphs ps) s in
    here (read_paragraph p seen n text) refl e t.0 (λ f rest. paragraphs_stopped ps (seen ++ (f ∷ [])) (behind p f.rows n) m rest r known.1 t.1)
  where
    here : (x : Read Sheet) → read_paragraph p seen n text ≡ x → and_then x (λ sheet. read_paragraphs ps sheet) ≡ stopped r m → sound_paragraph p ≡ true
        → ((f : Filled) (rest : List ℕ) → read_paragraphs ps (seen ++ (f ∷ [])) (behind p f.rows n) rest ≡ stopped r m
        → StopsAt (InParagraphs ps (seen ++ (f ∷ [])) (behind p f.rows n) rest) r m)
        → StopsAt (InParagraphs (p ∷ ps) seen n text) r m
    here (stopped y j) q e t rec =
        let f : read_paragraph p seen n text ≡ stopped r m = q ∙ cc in
        let a = paragraph-stopped p seen n m text r known.0 f in
        record { place = a.place; due = inl a.due; stops = a.stops; line = a.line }
    here (got sheet j rest) q e t rec =
        let a = passed p seen sheet n j text rest known.0 t q in
        let f = a.said in
        let e' : read_paragraphs ps (seen ++ (f ∷ [])) (behind p f.rows n) rest ≡ stopped r m = rw (← a.made, ← a.line) e in
        let b = rec f rest e' in
        record {
          place = b.place;
          due = inr (record { said = f; left = rest; good = a.good; whole = a.whole; next = b.due });
          stops = b.stops;
          line = b.line;
        }

pub lines-stopped : (m : ℕ) (text : List ℕ) (r : Refusal) → read_lines document 1 text ≡ stopped r m → StopsAt (Due text) r m
lines-stopped m text r e = here (read_paragraph document.first [] 1 text) refl e
  where
    here : (x : Read Sheet) → read_paragraph document.first [] 1 text ≡ x → and_then x (λ top. read_paragraphs (document.below top) top) ≡ stopped r m
        → StopsAt (Due text) r m
    here (stopped y j) q e =
        let f : read_paragraph document.first [] 1 text ≡ stopped r m = q ∙ cc in
        let a = paragraph-stopped document.first [] 1 m text r first-by-key f in
        record { place = a.place; due = inl a.due; stops = a.stops; line = a.line }
    here (got sheet j rest) q e =
        let a = passed document.first [] sheet 1 j text rest first-by-key document-sound.first q in
        let f = a.said in
        let n = behind document.first f.rows 1 in
        let e' : read_paragraphs (document.below (f ∷ [])) (f ∷ []) n rest ≡ stopped r m =
        subst (λ (y : Sheet). read_paragraphs (document.below y) y n rest ≡ stopped r m) a.made
        (subst (λ (i : ℕ). read_paragraphs (document.below sheet) sheet i rest ≡ stopped r m) a.line e) in
        let known = lines-by-key (edition_in (f ∷ [])) in
        let b = paragraphs_stopped (document.below (f ∷ [])) (f ∷ []) n m rest r known (document-sound.below (f ∷ [])) e' in
        record {
          place = b.place;
          due = inr (record { said = f; left = rest; good = a.good; whole = a.whole; next = b.due });
          stops = b.stops;
          line = b.line;
        }
