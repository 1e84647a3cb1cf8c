-- What a refusal says: its number, never 0, as every refusal has one; its line, within the sheet or the one behind its last, since each line
-- that is read has a byte; its field, one of those that the line has. Assumes nothing.
use Prim.Native.Nat.{ℕ, zero, suc, ◌+◌, ◌≤◌, ◌<◌}
use mathlib.Core.Path.{◌≡◌, refl, ap, ◌∙◌, subst}
use mathlib.Core.List.{List, [], ◌∷◌, ◌++◌}
use mathlib.Core.Option.{Option, none, some}
use mathlib.Core.Bool.{Bool, true, false, cond}
use native.Mathlib.Omega.{arith}
use lib.ListN.{length, drop, get_or, length-append}
use lib.Dec.{ltb}
use lib.IntN.{ℤ, pos, nat_abs}
use borrow.Author.Tests.{ltb-false}
use Rattle.sheet.specs.declared.Refusal.{Refusal}
use Rattle.sheet.specs.declared.Refusal.TheVariants.{TooLong}
use Rattle.sheet.specs.Refusals.{number, field}
use Rattle.sheet.proofs.Refusals.{numbered}
use Rattle.sheet.specs.Quantities.{Field, sheet_most, fields_most}
use Rattle.document.specs.Schema.{on, Line, Row, Judged, refused, values, judge, line_text}
use Rattle.document.specs.Reader.{Sheet, Rule, Paragraph, one, many, count_line, Document, Read, stopped, got, Reader, and_then, judged, read_line, filled, read_rows, read_paragraph, read_paragraphs, read_lines, Answer, Refused, Good, judged_whole, read_of}
use Rattle.document.specs.Editions.{document}
use Rattle.document.specs.Faults.{IsNumber, FirstNot, asked, Inside, LineFault, torn, unkeyed, unnumbered, outside}
use Rattle.document.specs.Order.{total, missing, First, too_long, of_line, of_rule, surplus, of_all}
use Rattle.document.proofs.Judged.{judge-values, line-length}
use Rattle.document.proofs.KeyRules.{row-few}
use Rattle.document.proofs.Order.{due-narrow}
use Rattle.document.proofs.First.{heard-first}

-- ---- the line: its number and the bytes that are left, of so many in all
abbrev Reached : {A : Type 0} → ℕ → Read A → Type 0
Reached most (stopped r n) = n ≤ most
Reached most (got a n rest) = n + length rest ≤ most

then_reached : {A B : Type 0} (r : Read A) (f : A → Reader B) (most : ℕ) → Reached most r
    → ((a : A) (n : ℕ) (rest : List ℕ) → n + length rest ≤ most → Reached most (f a n rest)) → Reached most (and_then r f)
then_reached (stopped r n) f most h g = h
then_reached (got a n rest) f most h g = g a n rest h

line_reached : (l : Line) (rule : Row → Option Refusal) (n : ℕ) (text : List ℕ) (most : ℕ) → n + length text ≤ most
    → Reached most (read_line l rule n text)
unfolding read_line
line_reached l rule n text most h = here (judge l text) refl
  where
    ruled : (o : Option Refusal) (row : Row) (size : ℕ) → suc n + length (drop size text) ≤ most
        → Reached {A = Row} most (on o (got row (suc n) (drop size text)) (λ r. stopped r n))
    ruled none row size k = k
    ruled (some r) row size k = omega arith

    here : (j : Judged) → judge l text ≡ j → Reached most (judged j rule n text)
    here (refused r) e = omega arith
    here (values row size) e =
        let whole = ap length (judge-values l text row size e).whole ∙ length-append (line_text l row) (drop size text) in
        ruled (rule row) row size (omega (arith, whole, line-length l row))

rows_reached : (k : ℕ) (l : Line) (rule : Rule) (seen : Sheet) (rows : List Row) (n : ℕ) (text : List ℕ) (most : ℕ)
    → n + length text ≤ most → Reached most (read_rows k l rule seen rows n text)
unfolding read_rows
rows_reached zero l rule seen rows n text most h = h
rows_reached (suc k) l rule seen rows n text most h =
    then_reached (read_line l (rule (seen ++ filled l rows)) n text) (λ row. read_rows k l rule seen (rows ++ (row ∷ []))) most
    (line_reached l (rule (seen ++ filled l rows)) n text most h)
    (λ row m rest g. rows_reached k l rule seen (rows ++ (row ∷ [])) m rest most g)

paragraph_reached : (p : Paragraph) (seen : Sheet) (n : ℕ) (text : List ℕ) (most : ℕ) → n + length text ≤ most → Reached most (read_paragraph p seen n text)
paragraph_reached (one l rule) seen n text most h =
    then_reached (read_rows 1 l rule seen [] n text) (λ rows m rest. got (seen ++ filled l rows) m rest) most
    (rows_reached 1 l rule seen [] n text most h) (λ rows m rest g. g)
paragraph_reached (many key a b l rule) seen n text most h =
    then_reached (read_line (count_line key a b) (λ row. none) n text) _ most (line_reached (count_line key a b) (λ row. none) n text most h)
    (λ count m rest g.
    let k = nat_abs (get_or count.numbers 0 (pos 0)) in
    then_reached (read_rows k l rule seen [] m rest) (λ rows m' rest'. got (seen ++ filled l rows) m' rest') most
    (rows_reached k l rule seen [] m rest most g) (λ rows m' rest' g'. g'))

paragraphs_reached : (ps : List Paragraph) (seen : Sheet) (n : ℕ) (text : List ℕ) (most : ℕ) → n + length text ≤ most
    → Reached most (read_paragraphs ps seen n text)
unfolding read_paragraphs
paragraphs_reached [] seen n text most h = h
paragraphs_reached (p ∷ ps) seen n text most h =
    then_reached (read_paragraph p seen n text) (λ sheet. read_paragraphs ps sheet) most (paragraph_reached p seen n text most h)
    (λ sheet m rest g. paragraphs_reached ps sheet m rest most g)

lines_reached : (d : Document) (n : ℕ) (text : List ℕ) (most : ℕ) → n + length text ≤ most → Reached most (read_lines d n text)
lines_reached d n text most h =
    then_reached (read_paragraph d.first [] n text) (λ top. read_paragraphs (d.below top) top) most (paragraph_reached d.first [] n text most h)
    (λ top m rest g. paragraphs_reached (d.below top) top m rest most g)

-- of an answer
abbrev Heard : Answer → Type 0
Heard (Refused x n) = n ≤ sheet_most + 1
Heard (Good sheet) = Unit {0}

whole-heard : (d : Document) (r : Read Sheet) → Reached (sheet_most + 1) r → Heard (judged_whole d r)
whole-heard d (stopped r m) h = h
whole-heard d (got sheet m []) h = here (d.whole sheet)
  where
    here : (o : Option Refusal) → Heard (on o (Good sheet) (λ r. Refused r 0))
    here none = tt
    here (some r) = omega arith
whole-heard d (got sheet m (b ∷ bs)) h = omega arith

heard : (d : Document) (text : List ℕ) → Heard (read_of d text)
unfolding read_of
heard d text = here (ltb sheet_most (length text)) refl
  where
    here : (t : Bool) → ltb sheet_most (length text) ≡ t → Heard (cond t (Refused TooLong 0) (judged_whole d (read_lines d 1 text)))
    here true q = omega arith
    here false q = whole-heard d (read_lines d 1 text) (lines_reached d 1 text (sheet_most + 1) (omega (arith, ltb-false sheet_most (length text) q)))

-- ---- the field: of those that the line has
first-few : {A : Type 0} (P : A → Type 0) (xs : List A) (before : ℕ) → FirstNot P xs before → before < length xs
first-few P [] before f = absurd f
first-few P (x ∷ xs) zero f = omega arith
first-few P (x ∷ xs) (suc before) f = omega (arith, first-few P xs before f.1)

asked-few : (fs : List Field) (zs : List ℤ) → length (asked fs zs) ≤ length fs
asked-few [] zs = omega arith
asked-few (f ∷ fs) [] = omega arith
asked-few (f ∷ fs) (z ∷ zs) = omega (arith, asked-few fs zs)

line-few : {l : Line} {s : List ℕ} {k i : ℕ} → LineFault l s k i → i ≤ length l.fields
line-few (torn e f n) = omega arith
line-few (unkeyed e f c n) = omega arith
line-few (unnumbered e c f h) = omega (arith, h.counted, first-few IsNumber f.pieces h.before h.first, f.many)
line-few {l} (outside e row h x) =
    let zs = row.numbers in
    omega (arith, x.counted, first-few Inside (asked l.fields zs) x.before x.first, asked-few l.fields zs)

first_field : {s : List ℕ} {k n i : ℕ} → First s k n i → i ≤ fields_most
first_field (too_long e f g h) = omega arith
first_field {s} (of_line a f h) = omega (arith, line-few h, due-narrow s a.at a.due)
first_field (of_rule a f row h fault) = omega (arith, (row-few fault).field)
first_field (surplus e g short sheet b left h f) = omega arith
first_field (of_all f g sheet h fault) = omega arith

-- no refusal is number 0, none names a line beyond the 16,385th, and none a field beyond the 13th
pub record Refuses (x : Refusal) (n : ℕ) : Type 0 where
  pub named : 0 < number x
  pub within : n ≤ sheet_most + 1
  pub fields : field x ≤ fields_most

pub refuses : (text : List ℕ) (x : Refusal) (n : ℕ) → read_of document text ≡ Refused x n → Refuses x n
refuses text x n e = record { named = (numbered x).some; within = subst Heard e (heard document text); fields = first_field (heard-first text x n e) }

-- and the reader never says 11, which is said of the room
line-number : {l : Line} {s : List ℕ} {k i : ℕ} → LineFault l s k i → ¬ (k ≡ 11)
line-number (torn e f n) z = omega arith
line-number (unkeyed e f c n) z = omega arith
line-number (unnumbered e c f h) z = omega arith
line-number (outside e row h x) z = omega arith

pub first-number : {s : List ℕ} {k n i : ℕ} → First s k n i → ¬ (k ≡ 11)
first-number (too_long e f g h) z = omega arith
first-number (of_line a f h) z = line-number h z
first-number (of_rule a f row h fault) z = omega (arith, (row-few fault).number)
first-number (surplus e g short sheet b left h f) z = omega arith
first-number (of_all f g sheet h (total e n)) z = omega arith
first-number (of_all f g sheet h (missing e t n)) z = omega arith
