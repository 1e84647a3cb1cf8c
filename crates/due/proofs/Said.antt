-- Groups of lines, one behind the other, and what stands under a key that they do not have. Assumes nothing.
use Prim.Native.Nat.{ℕ}
use mathlib.Core.Path.{◌≡◌, refl, sym, ap, ◌∙◌, subst}
use mathlib.Core.Bool.{Bool, true, false, not, ◌&&◌}
use mathlib.Core.List.{List, [], ◌∷◌, ◌++◌}
use Rattle.document.specs.Schema.{Line, Row}
use Rattle.document.specs.Reader.{Sheet, same_key, rows_of, Rule, Paragraph, one, read_line, filled, read_paragraph, read_paragraphs}
use Rattle.document.proofs.Cases.{both, clash}
use Rattle.due.specs.declared.Place.{Place}
use Rattle.due.specs.Place.{good, Fair, After}
use Rattle.due.proofs.Places.{after_weaker}
use Rattle.due.specs.Block.{With}
use Rattle.due.specs.Block.{lacks}
use Rattle.due.proofs.Above.{rows_other}
use Rattle.due.proofs.Sequence.{then-line, then-paragraph, then_paragraphs, paragraphs_done}
use Rattle.due.specs.Said.{Saying, says, says_all, Said, GroupRead}

-- what two groups say, one behind the other
said_join : (xs ys : List Saying) (seen between sheet : Sheet) → Said xs seen between → Said ys between sheet → Said (xs ++ ys) seen sheet
said_join [] ys seen between sheet a b = subst (λ (x : Sheet). Said ys x sheet) a b
said_join (x ∷ xs) ys seen between sheet a b = (a.0, a.1, said_join xs ys (seen ++ filled x.line a.0) between sheet a.2 b)

module _ {s : List ℕ} where
  pub none_read : {q : Place} → (good q ≡ true → Fair s q) → GroupRead s q [] q []
  none_read {q} f = record { after = λ seen. paragraphs_done s q seen (Said [] seen) refl f; passes = λ e. refl; fair = f }

  all_seen : {p q : Place} (ps : List Paragraph) (xs : List Saying) → ((seen : Sheet) → After s p (read_paragraphs ps seen) q (Said xs seen))
      → GroupRead s p ps q xs
  all_seen ps xs a = record { after = a; passes = (a []).passes; fair = (a []).fair }

  -- a line, then the paragraphs below it
  pub line-then : {p q q' : Place} (l : Line) (rule : Rule) (P : Row → Type 0) {ps : List Paragraph} {xs : List Saying}
      → ((seen : Sheet) → After s p (read_line l (rule (seen ++ filled l []))) q P) → GroupRead s q ps q' xs → GroupRead s p (one l rule ∷ ps) q' (says l P ∷ xs)
  line-then {p} {q} {q'} l rule P {ps} {xs} a k = all_seen (one l rule ∷ ps) (says l P ∷ xs) (λ seen.
      (let Q = Said (says l P ∷ xs) seen in
      then-line s l rule ps seen Q p q q' P (a seen)
      (λ row h. (let t = seen ++ filled l (row ∷ []) in after_weaker s q q' (read_paragraphs ps t) (Said xs t) Q (λ sheet m. (row ∷ [], h, m)) (k.after t)))
      k.passes k.fair))

  -- a paragraph whose rows are known, then the paragraphs below it
  pub paragraph-then : (p q q' : Place) (part : Paragraph) (l : Line) (P : List Row → Type 0) (ps : List Paragraph) (xs : List Saying) (seen : Sheet)
      → After s p (read_paragraph part seen) q (With l seen P)
      → ((rows : List Row) → P rows → After s q (read_paragraphs ps (seen ++ filled l rows)) q' (Said xs (seen ++ filled l rows)))
      → (good q ≡ false → q' ≡ q) → (good q' ≡ true → Fair s q') → After s p (read_paragraphs (part ∷ ps) seen) q' (Said (says_all l P ∷ xs) seen)
  paragraph-then p q q' part l P ps xs seen a k g f =
      let Q = Said (says_all l P ∷ xs) seen in
      then-paragraph s part l ps seen Q p q q' P a
      (λ rows h. let t = seen ++ filled l rows in after_weaker s q q' (read_paragraphs ps t) (Said xs t) Q (λ sheet m. (rows, h, m)) (k rows h)) g f

  -- a block by itself
  pub block_read : {p q : Place} (part : Paragraph) (l : Line) (P : List Row → Type 0)
      → ((seen : Sheet) → After s p (read_paragraph part seen) q (With l seen P)) → GroupRead s p (part ∷ []) q (says_all l P ∷ [])
  block_read {p} {q} part l P a = all_seen (part ∷ []) (says_all l P ∷ []) (λ seen.
      paragraph-then p q q part l P [] [] seen (a seen)
      (λ rows h. (let t = seen ++ filled l rows in paragraphs_done s q t (Said [] t) refl (a seen).fair)) (λ e. refl) (a seen).fair)

  -- a group, then those below it, which may ask for what it said
  pub group_then : {p q q' : Place} (ps qs : List Paragraph) (xs ys : List Saying) (seen : Sheet) → After s p (read_paragraphs ps seen) q (Said xs seen)
      → ((sheet : Sheet) → Said xs seen sheet → After s q (read_paragraphs qs sheet) q' (Said ys sheet)) → (good q ≡ false → q' ≡ q)
      → (good q' ≡ true → Fair s q')
      → After s p (read_paragraphs (ps ++ qs) seen) q' (Said (xs ++ ys) seen)
  group_then {p} {q} {q'} ps qs xs ys seen a k g f =
      let Q = Said (xs ++ ys) seen in
      then_paragraphs s ps qs seen p q q' (Said xs seen) Q a
      (λ sheet h. after_weaker s q q' (read_paragraphs qs sheet) (Said ys sheet) Q (λ t m. said_join xs ys seen sheet t h m) (k sheet h)) g f

  -- two groups, of which the second asks for nothing
  infixr 5 ◌then◌
  pub ◌then◌ : {p q q' : Place} {ps qs : List Paragraph} {xs ys : List Saying} → GroupRead s p ps q xs → GroupRead s q qs q' ys
      → GroupRead s p (ps ++ qs) q' (xs ++ ys)
  ◌then◌ {ps = ps} {qs = qs} {xs = xs} {ys = ys} a k = all_seen (ps ++ qs) (xs ++ ys) (λ seen.
      group_then ps qs xs ys seen (a.after seen) (λ sheet h. k.after sheet) k.passes k.fair)

-- UNDER A KEY THAT A GROUP DOES NOT HAVE nothing changes
abbrev pub unsaid : List ℕ → List Saying → Bool
unsaid k [] = true
unsaid k (x ∷ xs) = not (same_key k x.line.key) && unsaid k xs

is-other : (t : Bool) → not t ≡ true → t ≡ false
is-other true e = clash cc
is-other false e = refl

pub rows-kept : (k : List ℕ) (xs : List Saying) (seen sheet : Sheet) → unsaid k xs ≡ true → Said xs seen sheet → rows_of k sheet ≡ rows_of k seen
rows-kept k [] seen sheet n a = ap (λ (x : Sheet). rows_of k x) a
rows-kept k (x ∷ xs) seen sheet n a =
    let b = both (not (same_key k x.line.key)) (unsaid k xs) n in
    rows-kept k xs (seen ++ filled x.line a.0) sheet b.1 a.2 ∙ rows_other k x.line a.0 seen (is-other (same_key k x.line.key) b.0)

pub lacks-more : (k : List ℕ) (l : Line) (rows : List Row) (seen : Sheet) → not (same_key k l.key) ≡ true → lacks k seen ≡ true
    → lacks k (seen ++ filled l rows) ≡ true
lacks-more k l rows [] n e = rw n
lacks-more k l rows (f ∷ fs) n e =
    let b = both (not (same_key k f.key)) (lacks k fs) e in
    rw b.0 (lacks-more k l rows fs n b.1)

pub lacks-kept : (k : List ℕ) (xs : List Saying) (seen sheet : Sheet) → unsaid k xs ≡ true → Said xs seen sheet → lacks k seen ≡ true → lacks k sheet ≡ true
lacks-kept k [] seen sheet n a e = subst (λ (x : Sheet). lacks k x ≡ true) (sym a) e
lacks-kept k (x ∷ xs) seen sheet n a e =
    let b = both (not (same_key k x.line.key)) (unsaid k xs) n in
    lacks-kept k xs (seen ++ filled x.line a.0) sheet b.1 a.2 (lacks-more k x.line a.0 seen b.0 e)
