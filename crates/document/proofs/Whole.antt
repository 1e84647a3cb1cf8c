-- The reader and the text are inverse, in every sound document. Assumes nothing.
use Prim.Native.Nat.{ℕ}
use mathlib.Core.Path.{◌≡◌, refl, ◌∙◌, subst}
use mathlib.Core.List.{List, [], ◌∷◌, ◌++◌, append-nil}
use mathlib.Core.Bool.{Bool, true, false, cond}
use lib.ListN.{length}
use lib.Dec.{ltb}
use borrow.Author.Tests.{le-ltb}
use Rattle.sheet.specs.declared.Refusal.TheVariants.{TooLong}
use Rattle.sheet.specs.Quantities.{sheet_most}
use Rattle.document.specs.Reader.{Sheet, Document, Sound, paragraph_text, sheet_text, text_of, Read, stopped, got, read_paragraph, read_paragraphs, read_lines, behind, Refused, Good, judged_whole, read_of, LinesKeep, Keeps}
use Rattle.document.proofs.Cases.{clash, on_none, and_then-got}
use Rattle.document.proofs.Blocks.{followed, paragraph-text, paragraph-got, paragraphs_text, paragraphs_got}
use Rattle.document.proofs.Sizes.{never_too_long}

-- EVERY SHEET THAT BREAKS NO RULE IS ACCEPTED, and is read as itself
pub accepted : (d : Document) → Sound d → (sheet : Sheet) → Keeps d sheet → read_of d (text_of d sheet) ≡ Good sheet
unfolding read_of text_of
accepted d s [] k = absurd k.lines
accepted d s (f ∷ fs) k =
    let a = paragraph-text d.first [] f 1 (sheet_text (d.below (f ∷ [])) fs) s.first k.lines.0 in
    let b = paragraphs_text (d.below (f ∷ [])) (f ∷ []) fs (behind d.first f.rows 1) [] (s.below (f ∷ [])) k.lines.1 in
    let c = rw append-nil at b in
    let short = le-ltb sheet_most (length (text_of d (f ∷ fs))) (never_too_long d s (f ∷ fs) k.lines) in
    rw (short, a, c, k.whole)

-- EVERY ACCEPTED TEXT is the text of the sheet that was read, and this sheet keeps the rules
pub record Accepted (d : Document) (text : List ℕ) (sheet : Sheet) : Type 0 where
  pub its : text ≡ text_of d sheet
  pub keeps : Keeps d sheet

pub record LinesRead (d : Document) (sheet : Sheet) (text rest : List ℕ) : Type 0 where
  pub kept : LinesKeep d sheet
  pub whole : text ≡ text_of d sheet ++ rest

pub lines-got : (d : Document) (sheet : Sheet) (text : List ℕ) (n : ℕ) (rest : List ℕ) → read_lines d 1 text ≡ got sheet n rest → LinesRead d sheet text rest
unfolding text_of
lines-got d sheet text n rest e =
    let s = and_then-got (read_paragraph d.first [] 1 text) (λ top. read_paragraphs (d.below top) top) sheet n rest e in
    let a = paragraph-got d.first [] s.was 1 text s.line s.left s.first in
    let f = a.part in
    let e' : read_paragraphs (d.below (f ∷ [])) (f ∷ []) s.line s.left ≡ got sheet n rest =
    subst (λ (y : Sheet). read_paragraphs (d.below y) y s.line s.left ≡ got sheet n rest) a.made s.then in
    let b = paragraphs_got (d.below (f ∷ [])) (f ∷ []) sheet s.line s.left n rest e' in
    rw b.made (record {
      kept = (a.kept, b.kept);
      whole = followed (paragraph_text d.first f.rows) (sheet_text (d.below (f ∷ [])) b.parts) rest a.whole b.whole;
    })

pub kept : (d : Document) (text : List ℕ) (sheet : Sheet) → read_of d text ≡ Good sheet → Accepted d text sheet
unfolding read_of
kept d text sheet e = here (ltb sheet_most (length text)) e
  where
    lines : (r : Read Sheet) → read_lines d 1 text ≡ r → judged_whole d r ≡ Good sheet → Accepted d text sheet
    lines (stopped x n) q e = clash cc
    lines (got s n (b ∷ bs)) q e = clash cc
    lines (got s n []) q e =
        let o = on_none (d.whole s) (Good s) (Good sheet) (λ x. Refused x 0) (λ x z. clash cc) e in
        let p : s ≡ sheet = cc in
        let l = lines-got d s text n [] q in
        rw (← p) (record { its = l.whole ∙ append-nil (text_of d s); keeps = record { lines = l.kept; whole = o.0 } })

    here : (t : Bool) → cond t (Refused TooLong 0) (judged_whole d (read_lines d 1 text)) ≡ Good sheet → Accepted d text sheet
    here true e = clash cc
    here false e = lines (read_lines d 1 text) refl e
