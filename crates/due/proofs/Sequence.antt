-- From lines to blocks, from blocks to paragraphs, from paragraphs to the sheet, and from the sheet to the answer. Assumes nothing.
use Prim.Native.Nat.{ℕ, zero, suc}
use mathlib.Core.Path.{◌≡◌, refl, sym, ap, ◌∙◌, subst}
use mathlib.Core.Bool.{true, false}
use mathlib.Core.List.{List, [], ◌∷◌, ◌++◌}
use mathlib.Core.Option.{none}
use lib.ListN.{get_or, drop}
use lib.IntN.{pos, nat_abs}
use Rattle.document.specs.Schema.{Line, Row}
use Rattle.document.specs.Reader.{Sheet, Rule, Paragraph, one, many, count_line, Read, stopped, got, Reader, and_then, return, read_line, filled, read_rows, read_paragraph, read_paragraphs}
use Rattle.due.specs.declared.Place.{Place}
use Rattle.due.specs.Place.{good, Fair, After}
use Rattle.due.specs.Block.{With}
use Rattle.due.specs.Block.{CountAfter}
use Rattle.due.proofs.Places.{after_bind, after-return, after_weaker}

-- a step, and then what is itself two steps
regroup : {A B C : Type 0} (r : Read A) (f : A → Reader C) (g : A → Reader B) (h : B → Reader C)
    → ((a : A) (m : ℕ) (t : List ℕ) → f a m t ≡ and_then (g a m t) h) → and_then r f ≡ and_then (and_then r g) h
regroup (stopped x m) f g h e = refl
regroup (got a m t) f g h e = e a m t

module _ (s : List ℕ) (l : Line) (rule : Rule) (seen : Sheet) where
  -- the line that is due after some rows, and the rows with it
  abbrev one_more : List Row → Reader (List Row)
  one_more rows n t = and_then (read_line l (rule (seen ++ filled l rows)) n t) (λ row. return (rows ++ (row ∷ [])))

  -- one row more is read at the end
  rows_end : (i : ℕ) (rows : List Row) (n : ℕ) (text : List ℕ) → read_rows (suc i) l rule seen rows n text ≡ and_then (read_rows i l rule seen rows n text) one_more
  unfolding read_rows
  rows_end zero rows n text = refl
  rows_end (suc i) rows n text =
      let below : ℕ → Row → Reader (List Row) = λ k row. read_rows k l rule seen (rows ++ (row ∷ [])) in
      regroup (read_line l (rule (seen ++ filled l rows)) n text) (below (suc i)) (below i) one_more (λ row. rows_end i (rows ++ (row ∷ [])))

  pub block_start : (p : Place) (P : List Row → Type 0) → P [] → (good p ≡ true → Fair s p) → After s p (read_rows 0 l rule seen []) p P
  unfolding read_rows
  block_start p P h f = after-return s p [] P h f

  -- i rows, and the line that is due after them
  pub block_more : (p q q' : Place) (i : ℕ) (P Q : List Row → Type 0) → After s p (read_rows i l rule seen []) q P
      → ((rows : List Row) → P rows → After s q (read_line l (rule (seen ++ filled l rows))) q' (λ row. Q (rows ++ (row ∷ []))))
      → (good q ≡ false → q' ≡ q) → (good q' ≡ true → Fair s q') → After s p (read_rows (suc i) l rule seen []) q' Q
  block_more p q q' i P Q a b g f =
      let w = after_bind s p q q' (read_rows i l rule seen []) one_more P Q a
      (λ rows h. after_bind s q q' q' (read_line l (rule (seen ++ filled l rows))) (λ row. return (rows ++ (row ∷ []))) (λ row. Q (rows ++ (row ∷ []))) Q
      (b rows h) (λ row e. after-return s q' (rows ++ (row ∷ [])) Q e f) (λ e. refl) f) g f in
      record { reads = λ h. rw (rows_end i [] p.line (drop p.at s)) (w.reads h); passes = w.passes; fair = w.fair }

  module _ (p q q' : Place) (P : List Row → Type 0) where
    filled-after : (k : ℕ) → After s q (read_rows k l rule seen []) q' P
        → After s q (λ n t. and_then (read_rows k l rule seen [] n t) (λ rows. return (seen ++ filled l rows))) q' (With l seen P)
    filled-after k b =
        after_bind s q q' q' (read_rows k l rule seen []) (λ rows. return (seen ++ filled l rows)) P (With l seen P) b
        (λ rows h. after-return s q' (seen ++ filled l rows) (With l seen P) (rows, refl, h) b.fair) (λ h. refl) b.fair

    -- a count line that gives k, then k rows, is a paragraph
    many-after : (key : List ℕ) (a b k : ℕ) → After s p (read_line (count_line key a b) (λ row. none)) q (λ row. k ≡ nat_abs (get_or row.numbers 0 (pos 0)))
        → After s q (read_rows k l rule seen []) q' P → After s p (read_paragraph (many key a b l rule) seen) q' (With l seen P)
    many-after key a b k x y =
        after_bind s p q q' (read_line (count_line key a b) (λ row. none))
        (λ count n t. and_then (read_rows (nat_abs (get_or count.numbers 0 (pos 0))) l rule seen [] n t) (λ rows. return (seen ++ filled l rows)))
        (λ row. k ≡ nat_abs (get_or row.numbers 0 (pos 0))) (With l seen P) x
        (λ count e. filled-after (nat_abs (get_or count.numbers 0 (pos 0))) (subst (λ (i : ℕ). After s q (read_rows i l rule seen []) q' P) e y))
        y.passes y.fair

  -- one line is a paragraph
  pub one-after : (p q : Place) (P : Row → Type 0) → After s p (read_line l (rule (seen ++ filled l []))) q P
      → After s p (read_paragraph (one l rule) seen) q (With l seen (λ rows. (row : Row) × (rows ≡ row ∷ []) × P row))
  unfolding read_rows
  one-after p q P a =
      let Q : List Row → Type 0 = λ rows. (row : Row) × (rows ≡ row ∷ []) × P row in
      filled-after p p q Q 1
      (after_bind s p q q (read_line l (rule (seen ++ filled l []))) (λ row. return (row ∷ [])) P Q a
      (λ row h. after-return s q (row ∷ []) Q (row, refl, h) a.fair) (λ h. refl) a.fair)

-- a count line's number, as the rows below it take it
count-after : {s : List ℕ} {p q : Place} {key : List ℕ} {a b count most : ℕ} → CountAfter s p (count_line key a b) q count most
    → After s p (read_line (count_line key a b) (λ row. none)) q (λ row. count ≡ nat_abs (get_or row.numbers 0 (pos 0)))
count-after {s} {p} {q} {key} {a} {b} {count} h =
    after_weaker s p q (read_line (count_line key a b) (λ row. none)) (λ row. pos count ≡ get_or row.numbers 0 (pos 0))
    (λ row. count ≡ nat_abs (get_or row.numbers 0 (pos 0))) (λ row e. ap nat_abs e) h.after

-- a count line, then so many rows, is a paragraph
pub block-after : {s : List ℕ} {p q q' : Place} {count most : ℕ} {P : List Row → Type 0} (key : List ℕ) (a b : ℕ) (l : Line) (rule : Rule) (seen : Sheet)
    → CountAfter s p (count_line key a b) q count most → After s q (read_rows count l rule seen []) q' P
    → After s p (read_paragraph (many key a b l rule) seen) q' (With l seen P)
block-after {s} {p} {q} {q'} {count} {P = P} key a b l rule seen x = many-after s l rule seen p q q' P key a b count (count-after x)

-- a refused place passes through two readings
pub pass_on : {p q r : Place} → (good p ≡ false → q ≡ p) → (good q ≡ false → r ≡ q) → good p ≡ false → r ≡ p
pass_on f g e = let h = f e in g (ap (λ (x : Place). good x) h ∙ e) ∙ h

module _ (s : List ℕ) (l : Line) (rule : Rule) (ps : List Paragraph) (seen : Sheet) (Q : Sheet → Type 0) where
  -- a line, then the paragraphs below it
  pub then-line : (p q q' : Place) (P : Row → Type 0) → After s p (read_line l (rule (seen ++ filled l []))) q P
      → ((row : Row) → P row → After s q (read_paragraphs ps (seen ++ filled l (row ∷ []))) q' Q) → (good q ≡ false → q' ≡ q) → (good q' ≡ true → Fair s q')
      → After s p (read_paragraphs (one l rule ∷ ps) seen) q' Q
  unfolding read_paragraphs
  then-line p q q' P a k g f =
      let W = With l seen (λ rows. (row : Row) × (rows ≡ row ∷ []) × P row) in
      after_bind s p q q' (read_paragraph (one l rule) seen) (read_paragraphs ps) W Q (one-after s l rule seen p q P a)
      (λ sheet w. let r = w.2 in
      subst (λ (x : Sheet). After s q (read_paragraphs ps x) q' Q) (sym (w.1 ∙ ap (λ (y : List Row). seen ++ filled l y) r.1)) (k r.0 r.2)) g f

-- a paragraph whose rows are known, then the paragraphs below it
pub then-paragraph : (s : List ℕ) (part : Paragraph) (l : Line) (ps : List Paragraph) (seen : Sheet) (Q : Sheet → Type 0) (p q q' : Place)
    (P : List Row → Type 0)
    → After s p (read_paragraph part seen) q (With l seen P) → ((rows : List Row) → P rows → After s q (read_paragraphs ps (seen ++ filled l rows)) q' Q)
    → (good q ≡ false → q' ≡ q) → (good q' ≡ true → Fair s q') → After s p (read_paragraphs (part ∷ ps) seen) q' Q
unfolding read_paragraphs
then-paragraph s part l ps seen Q p q q' P a k g f =
    after_bind s p q q' (read_paragraph part seen) (read_paragraphs ps) (With l seen P) Q a
    (λ sheet w. subst (λ (z : Sheet). After s q (read_paragraphs ps z) q' Q) (sym w.1) (k w.0 w.2)) g f

-- some paragraphs, and then the paragraphs below them
pub paragraphs_split : (ps qs : List Paragraph) (seen : Sheet) (n : ℕ) (t : List ℕ)
    → read_paragraphs (ps ++ qs) seen n t ≡ and_then (read_paragraphs ps seen n t) (read_paragraphs qs)
unfolding read_paragraphs
paragraphs_split [] qs seen n t = refl
paragraphs_split (p ∷ ps) qs seen n t = regroup (read_paragraph p seen n t) (read_paragraphs (ps ++ qs)) (read_paragraphs ps) (read_paragraphs qs)
    (paragraphs_split ps qs)

pub then_paragraphs : (s : List ℕ) (ps qs : List Paragraph) (seen : Sheet) (p q q' : Place) (P Q : Sheet → Type 0) → After s p (read_paragraphs ps seen) q P
    → ((sheet : Sheet) → P sheet → After s q (read_paragraphs qs sheet) q' Q) → (good q ≡ false → q' ≡ q) → (good q' ≡ true → Fair s q')
    → After s p (read_paragraphs (ps ++ qs) seen) q' Q
then_paragraphs s ps qs seen p q q' P Q a k g f =
    let w = after_bind s p q q' (read_paragraphs ps seen) (read_paragraphs qs) P Q a k g f in
    record { reads = λ h. rw (paragraphs_split ps qs seen p.line (drop p.at s)) (w.reads h); passes = w.passes; fair = w.fair }

pub paragraphs_done : (s : List ℕ) (q : Place) (seen : Sheet) (Q : Sheet → Type 0) → Q seen → (good q ≡ true → Fair s q)
    → After s q (read_paragraphs [] seen) q Q
unfolding read_paragraphs
paragraphs_done s q seen Q h f = after-return s q seen Q h f
