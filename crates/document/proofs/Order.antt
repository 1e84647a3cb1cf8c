-- Reading reaches every line that is due and stops there with what its judgement says: so the first refusal that applies is heard.
-- Assumes nothing.
use Prim.Native.Nat.{ℕ, zero, suc, ◌+◌, ◌≤◌, ◌<◌}
use mathlib.Core.Path.{◌≡◌, refl, sym, ap, subst, ◌∙◌}
use mathlib.Core.List.{List, [], ◌∷◌, ◌++◌, append_assoc, append-nil}
use mathlib.Core.Logic.{inl, inr}
use mathlib.Core.Option.{none, some}
use mathlib.Core.Bool.{Bool, true, false, ◌&&◌}
use native.Mathlib.Omega.{arith}
use lib.ListN.{length}
use lib.Seq.{append_snoc}
use lib.Dec.{leb, lit≤}
use lib.IntN.{ℤ, pos}
use borrow.Author.Tests.{le-ltb, lt-ltb, leb-true}
use Rattle.sheet.specs.declared.Refusal.{Refusal}
use Rattle.sheet.specs.declared.Refusal.TheVariants.{TooLong, Surplus, Missing, GasTotal}
use Rattle.sheet.specs.Refusals.{number, field}
use Rattle.sheet.specs.Firing.{Stage, Section, Wall}
use Rattle.sheet.specs.Quantities.{sheet_most, fields_most}
use Rattle.document.specs.Schema.{Line, Row, plain, line_text, sound}
use Rattle.document.specs.Reader.{Sheet, Rule, Paragraph, one, many, count_line, filled, paragraph_text, rows_text, sheet_text, text_of, behind, sound_paragraph, sound_paragraphs, Read, stopped, got, read_line, read_rows, read_paragraph, read_paragraphs, read_lines, RowsKeep, LinesKeep, Refused, read_of}
use Rattle.document.specs.Tests.{whole_fault}
use Rattle.document.specs.Entries.{paragraphs_of}
use Rattle.document.specs.Editions.{entries_by, entries_of, lines_of, document}
use Rattle.document.specs.Rules.{Every}
use Rattle.document.specs.Rows.{edition_in, analysed, stages_in, sections_in, walls_in}
use Rattle.document.specs.Order.{DueLine, InParagraph, InParagraphs, Due, Looked, WholeFault, total, missing, AllGood, last, First, too_long, of_line, of_rule, surplus, of_all, Hears}
use Rattle.document.proofs.Cases.{both}
use Rattle.document.proofs.Blocks.{line-text, paragraph-text, paragraphs_text}
use Rattle.document.proofs.Sizes.{never_too_long}
use Rattle.document.proofs.Rules.{total-heard, missing-heard}
use Rattle.document.proofs.Editions.{document-sound}
use Rattle.document.proofs.KeyRules.{SaidOf, row-heard}
use Rattle.document.proofs.Faults.{fault_judged}
use Rattle.document.proofs.GoodLines.{ByKey, first-by-key, lines-by-key, rows-good, count-good, paragraph-good, lines-good}
use Rattle.document.proofs.Stopping.{Stops, fault_stops, rule-stops}

-- WHERE A LINE STOPS THE READER, reading stops: behind good rows
module _ (l : Line) (rule : Rule) (seen : Sheet) (r : Refusal) where
  rows_stop : sound l ≡ true → (rows above : List Row) (k n m : ℕ) (rest : List ℕ) → length rows < k → RowsKeep l rule seen above rows
      → read_line l (rule (seen ++ filled l (above ++ rows))) (n + length rows) rest ≡ stopped r m
      → read_rows k l rule seen above n (rows_text l rows ++ rest) ≡ stopped r m
  unfolding read_rows rows_text
  rows_stop s rows above zero n m rest less k h = absurd (omega arith)
  rows_stop s [] above (suc j) n m rest less k h =
      let z : n + 0 ≡ n = omega arith in
      let e : read_line l (rule (seen ++ filled l above)) n rest ≡ stopped r m = rw (append-nil above, z) at h in
      rw e
  rows_stop s (row ∷ rows) above (suc j) n m rest less k h =
      let a = line-text l (rule (seen ++ filled l above)) row n (rows_text l rows ++ rest) s k.0 k.1 in
      let z : n + suc (length rows) ≡ suc n + length rows = omega arith in
      let e : read_line l (rule (seen ++ filled l ((above ++ (row ∷ [])) ++ rows))) (suc n + length rows) rest ≡ stopped r m =
      rw (append_snoc above row rows, ← z) h in
      let b = rows_stop s rows (above ++ (row ∷ [])) j (suc n) m rest (omega arith) k.2 e in
      rw (append_assoc (line_text l row) (rows_text l rows) rest, a) b

-- in a paragraph
numbered : (r : Refusal) {d e : DueLine} → d ≡ e → ◌≡◌ {A = Read Sheet} (stopped r e.number) (stopped r d.number)
numbered r e = ap (λ (y : DueLine). stopped r y.number) (sym e)

paragraph_stop : (p : Paragraph) (seen : Sheet) (n : ℕ) (s : List ℕ) (d : DueLine) (r : Refusal) → ByKey p → sound_paragraph p ≡ true
    → InParagraph p seen n s d → Stops r d → read_paragraph p seen n s ≡ stopped r d.number
unfolding read_rows
paragraph_stop (one l rule) seen n s d r known k e h =
    let above = seen ++ filled l [] in
    let keyed : Stops r (record { number = n; line = l; above = above; rest = s }) = subst (Stops r) e h in
    let x = subst (λ (y : Rule). read_line l (y above) n s ≡ stopped r n) (sym known) keyed in
    rw x (numbered r e)
paragraph_stop (many key a b l rule) seen n s d r known k (inl e) h =
    let keyed : Stops r (record { number = n; line = count_line key a b; above = seen; rest = s }) = subst (Stops r) e h in
    let x = subst (λ (y : Rule). read_line (count_line key a b) (y seen) n s ≡ stopped r n) (sym known.1) keyed in
    rw x (numbered r e)
paragraph_stop (many key a b l rule) seen n s d r known k (inr i) h =
    let t = both (sound (count_line key a b)) (sound l) k in
    let fit = (count-good key a b i.count).from i.counted in
    let c = line-text (count_line key a b) (λ row. none) (plain (pos i.count ∷ [])) n (rows_text l i.rows ++ d.rest) t.0 fit refl in
    let above = seen ++ filled l i.rows in
    let m = suc n + length i.rows in
    let keyed : Stops r (record { number = m; line = l; above = above; rest = d.rest }) = subst (Stops r) i.place h in
    let x = subst (λ (y : Rule). read_line l (y above) m d.rest ≡ stopped r m) (sym known.0) keyed in
    let kept = (rows-good l rule known.0 seen i.rows).from i.good in
    let y = rows_stop l rule seen r t.1 i.rows [] i.count (suc n) m d.rest i.fewer kept x in
    rw (i.whole, c, y) (numbered r i.place)

-- behind good paragraphs
paragraphs_stop : (ps : List Paragraph) (seen : Sheet) (n : ℕ) (s : List ℕ) (d : DueLine) (r : Refusal) → Every ByKey ps → sound_paragraphs ps ≡ true
    → InParagraphs ps seen n s d → Stops r d → read_paragraphs ps seen n s ≡ stopped r d.number
unfolding read_paragraphs
paragraphs_stop [] seen n s d r known k i h = absurd i
paragraphs_stop (p ∷ ps) seen n s d r known k (inl i) h =
    rw (paragraph_stop p seen n s d r known.0 (both (sound_paragraph p) (sound_paragraphs ps) k).0 i h)
paragraphs_stop (p ∷ ps) seen n s d r known k (inr b) h =
    let t = both (sound_paragraph p) (sound_paragraphs ps) k in
    let f = b.said in
    let a = paragraph-text p seen f n b.left t.0 ((paragraph-good p known.0 seen f).from b.good) in
    rw (b.whole, a) (paragraphs_stop ps (seen ++ (f ∷ [])) (behind p f.rows n) b.left d r known.1 t.1 b.next h)

lines_stop : (s : List ℕ) (d : DueLine) (r : Refusal) → Due s d → Stops r d → read_lines document 1 s ≡ stopped r d.number
lines_stop s d r (inl i) h = rw (paragraph_stop document.first [] 1 s d r first-by-key document-sound.first i h)
lines_stop s d r (inr b) h =
    let f = b.said in
    let kept = (paragraph-good document.first first-by-key [] f).from b.good in
    let a = paragraph-text document.first [] f 1 b.left document-sound.first kept in
    let below = document.below (f ∷ []) in
    let known = lines-by-key (edition_in (f ∷ [])) in
    rw (b.whole, a) (paragraphs_stop below (f ∷ []) (behind document.first f.rows 1) b.left d r known (document-sound.below (f ∷ [])) b.next h)

-- and this is heard
hears : {s : List ℕ} {r : Refusal} {k i : ℕ} (a : Looked s) → Stops r a.at → number r ≡ k → field r ≡ i → Hears s k a.at.number i
unfolding read_of
hears {s} {r} a h e f = record {
  refusal = r;
  is = rw (le-ltb sheet_most (length s) a.short, lines_stop s a.at r a.due h) refl;
  numbered = e;
  fielded = f;
}

-- WHAT HOLDS OF EVERY LINE of the document holds of every line that is due
module _ (Q : Line → Type 0) where
  abbrev Lines : Paragraph → Type 0
  Lines (one l rule) = Q l
  Lines (many key a b l rule) = Q (count_line key a b) × Q l

  paragraph-line : (p : Paragraph) (seen : Sheet) (n : ℕ) (s : List ℕ) (d : DueLine) → Lines p → InParagraph p seen n s d → Q d.line
  paragraph-line (one l rule) seen n s d h e = subst (λ (x : DueLine). Q x.line) (sym e) h
  paragraph-line (many key a b l rule) seen n s d h (inl e) = subst (λ (x : DueLine). Q x.line) (sym e) h.0
  paragraph-line (many key a b l rule) seen n s d h (inr i) = subst (λ (x : DueLine). Q x.line) (sym i.place) h.1

  paragraphs_line : (ps : List Paragraph) (seen : Sheet) (n : ℕ) (s : List ℕ) (d : DueLine) → Every Lines ps → InParagraphs ps seen n s d → Q d.line
  paragraphs_line [] seen n s d h i = absurd i
  paragraphs_line (p ∷ ps) seen n s d h (inl i) = paragraph-line p seen n s d h.0 i
  paragraphs_line (p ∷ ps) seen n s d h (inr b) =
      let f = b.said in
      paragraphs_line ps (seen ++ (f ∷ [])) (behind p f.rows n) b.left d h.1 b.next

  due-line : Lines document.first → ((top : Sheet) → Every Lines (document.below top)) → (s : List ℕ) (d : DueLine) → Due s d → Q d.line
  due-line h k s d (inl i) = paragraph-line document.first [] 1 s d h i
  due-line h k s d (inr b) =
      let f = b.said in
      paragraphs_line (document.below (f ∷ [])) (f ∷ []) (behind document.first f.rows 1) b.left d (k (f ∷ [])) b.next

-- it is sound
sound-lines : (ps : List Paragraph) → sound_paragraphs ps ≡ true → Every (Lines (λ l. sound l ≡ true)) ps
sound-lines [] k = tt
sound-lines (one l rule ∷ ps) k = let t = both (sound l) (sound_paragraphs ps) k in (t.0, sound-lines ps t.1)
sound-lines (many key a b l rule ∷ ps) k =
    let t = both (sound_paragraph (many key a b l rule)) (sound_paragraphs ps) k in
    (both (sound (count_line key a b)) (sound l) t.0, sound-lines ps t.1)

pub due-sound : (s : List ℕ) (d : DueLine) → Due s d → sound d.line ≡ true
due-sound = due-line (λ l. sound l ≡ true) document-sound.first (λ top. sound-lines (document.below top) (document-sound.below top))

-- and has at most thirteen fields, by a look at them all
abbrev narrow : List Paragraph → Bool
narrow [] = true
narrow (one l rule ∷ ps) = leb (length l.fields) fields_most && narrow ps
narrow (many key a b l rule ∷ ps) = leb (length l.fields) fields_most && narrow ps

narrow-lines : (ps : List Paragraph) → narrow ps ≡ true → Every (Lines (λ l. length l.fields ≤ fields_most)) ps
narrow-lines [] k = tt
narrow-lines (one l rule ∷ ps) k =
    let t = both (leb (length l.fields) fields_most) (narrow ps) k in
    (leb-true (length l.fields) fields_most t.0, narrow-lines ps t.1)
narrow-lines (many key a b l rule ∷ ps) k =
    let t = both (leb (length l.fields) fields_most) (narrow ps) k in
    ((lit≤ tt, leb-true (length l.fields) fields_most t.0), narrow-lines ps t.1)

document-narrow : (edition : ℤ) → narrow (lines_of edition) ≡ true
unfolding entries_by
document-narrow edition = here (analysed edition)
  where
    here : (t : Bool) → narrow (paragraphs_of (entries_by t)) ≡ true
    here true = refl
    here false = refl

pub due-narrow : (s : List ℕ) (d : DueLine) → Due s d → length d.line.fields ≤ fields_most
due-narrow = due-line (λ l. length l.fields ≤ fields_most) (lit≤ tt) (λ top. narrow-lines (document.below top) (document-narrow (edition_in top)))

-- WHAT IS WRONG WITH THE WHOLE is said
whole-stops : (stages : List Stage) (sections : List Section) (walls : List Wall) (k : ℕ) → WholeFault stages sections walls k
    → SaidOf (whole_fault stages sections walls) k 0
whole-stops stages sections walls k (total e n) = record { refusal = GasTotal; is = total-heard stages sections walls n; numbered = sym e; fielded = refl }
whole-stops stages sections walls k (missing e t n) =
    record { refusal = Missing; is = missing-heard stages sections walls t n; numbered = sym e; fielded = refl }

-- ALL LINES ARE GOOD
pub good-read : (sheet : Sheet) (left : List ℕ) → LinesKeep document sheet → read_lines document 1 (text_of document sheet ++ left) ≡ got sheet (last sheet) left
unfolding text_of
good-read [] left k = absurd k
good-read (f ∷ fs) left k =
    let below = document.below (f ∷ []) in
    let a = paragraph-text document.first [] f 1 (sheet_text below fs ++ left) document-sound.first k.0 in
    let b = paragraphs_text below (f ∷ []) fs (behind document.first f.rows 1) left (document-sound.below (f ∷ [])) k.1 in
    rw (append_assoc (paragraph_text document.first f.rows) (sheet_text below fs) left, a) b

surplus-heard : (s : List ℕ) → length s ≤ sheet_most → (sheet : Sheet) (b : ℕ) (left : List ℕ) → AllGood s sheet (b ∷ left)
    → read_of document s ≡ Refused Surplus (last sheet)
unfolding read_of
surplus-heard s short sheet b left g =
    let e : read_lines document 1 s ≡ got sheet (last sheet) (b ∷ left) = rw g.whole (good-read sheet (b ∷ left) ((lines-good sheet).from g.good)) in
    rw (le-ltb sheet_most (length s) short, e) refl

whole-heard : (s : List ℕ) (sheet : Sheet) (r : Refusal) → AllGood s sheet [] → document.whole sheet ≡ some r → read_of document s ≡ Refused r 0
unfolding read_of
whole-heard s sheet r g q =
    let kept = (lines-good sheet).from g.good in
    let e : read_lines document 1 s ≡ got sheet (last sheet) [] = rw g.whole (good-read sheet [] kept) in
    let is : s ≡ text_of document sheet = g.whole ∙ append-nil (text_of document sheet) in
    let short : length s ≤ sheet_most = rw is (never_too_long document document-sound sheet kept) in
    rw (le-ltb sheet_most (length s) short, e, q) refl

-- WHATEVER APPLIES FIRST IS HEARD
at-line : {s : List ℕ} {k m n i : ℕ} → n ≡ m → Hears s k m i → Hears s k n i
at-line {s} {k} {i = i} f h = subst (λ (m : ℕ). Hears s k m i) (sym f) h

pub first-heard : {s : List ℕ} {k n i : ℕ} → First s k n i → Hears s k n i
unfolding read_of
first-heard {s} (too_long e f g h) =
    at-line f (record { refusal = TooLong; is = rw (lt-ltb sheet_most (length s) h) refl; numbered = sym e; fielded = sym g })
first-heard {s} {k} {i = i} (of_line a f fault) =
    let x = fault_judged a.at.line a.at.rest (due-sound s a.at a.due) k i fault in
    at-line f (hears a (fault_stops a.at x.refusal x.is) x.numbered x.fielded)
first-heard {s} {k} {i = i} (of_rule a f row h fault) =
    let x = row-heard a.at.line.key (length a.at.line.fields) a.at.above row k i fault in
    at-line f (hears a (rule-stops a.at (due-sound s a.at a.due) row h x.refusal x.is) x.numbered x.fielded)
first-heard {s} (surplus e g short sheet b left h f) =
    at-line f (record { refusal = Surplus; is = surplus-heard s short sheet b left h; numbered = sym e; fielded = sym g })
first-heard {s} {k} (of_all f g sheet h fault) =
    let x = whole-stops (stages_in sheet) (sections_in sheet) (walls_in sheet) k fault in
    at-line f (record { refusal = x.refusal; is = whole-heard s sheet x.refusal h x.is; numbered = x.numbered; fielded = x.fielded ∙ sym g })
