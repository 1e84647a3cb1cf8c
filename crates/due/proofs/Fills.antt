-- One line more into a block's array. Assumes nothing.
use Prim.Native.Nat.{ℕ, suc, ◌+◌, ◌-◌, ◌<◌, ◌≤◌}
use mathlib.Core.Path.{◌≡◌, refl, sym, ap, ◌∙◌}
use mathlib.Core.Bool.{true, false}
use mathlib.Core.List.{List, [], ◌∷◌, ◌++◌, map-append}
use native.Mathlib.Numerals.{add-one}
use native.Mathlib.Omega.{arith}
use lib.ListN.{length, take, drop, set, replicate, length-set, length-append, length-replicate, length-map, length-take}
use lib.Seq.{take-suc-set, drop-drop, drop-set-lt}
use Rattle.document.specs.Schema.{Line, Row}
use Rattle.document.specs.Reader.{Sheet, Rule, filled, read_line, read_rows}
use Rattle.due.specs.declared.Place.{Place}
use Rattle.due.specs.Place.{good, Fair, Ready, After}
use Rattle.due.specs.Block.{Filled}
use Rattle.due.proofs.Places.{after_weaker, ready_after}
use Rattle.due.proofs.Sequence.{block_start, block_more}

module _ {A B : Type 0} (view : A → B) (of : Row → B) (blank : A) (most : ℕ) where
  pub none_filled : Filled view of blank most 0 (replicate most blank) []
  none_filled = record { count = refl; shown = refl; rest = let e : most - 0 ≡ most = omega arith in rw e; size = length-replicate most blank }

  pub one-filled : (i : ℕ) (lines : List A) (rows : List Row) (x : A) (row : Row) → i < most → Filled view of blank most i lines rows → view x ≡ of row
      → Filled view of blank most (i + 1) (set lines i x) (rows ++ (row ∷ []))
  one-filled i lines rows x row h f e = record {
    count = length-append rows (row ∷ []) ∙ ap (λ (n : ℕ). n + 1) f.count;
    shown =
        let k : i < length lines = omega (arith, f.size) in
        rw (add-one i, take-suc-set lines i x k, map-append view (take i lines) (x ∷ []), map-append of rows (row ∷ []), f.shown, e);
    rest =
        let n : most - i ≡ suc (most - (i + 1)) = omega arith in
        drop-set-lt (i + 1) lines i x (omega arith) ∙ sym (drop-drop 1 i lines) ∙ ap (drop 1) f.rest ∙ ap (λ (k : ℕ). drop 1 (replicate k blank)) n;
    size = length-set lines i x ∙ f.size;
  }

  -- so many rows were read as the array has room for, at most
  pub filled-most : {k : ℕ} {lines : List A} {rows : List Row} → Filled view of blank most k lines rows → k ≤ most
  filled-most {k} {lines} {rows} f =
      omega (arith, f.count, f.size, length-map rows of, ap length f.shown, length-map (take k lines) view, length-take k lines)

  module _ (s : List ℕ) (l : Line) (rule : Rule) (seen : Sheet) where
    filled_none : (p : Place) → (good p ≡ true → Fair s p) → After s p (read_rows 0 l rule seen []) p (Filled view of blank most 0 (replicate most blank))
    filled_none p f = block_start s l rule seen p (Filled view of blank most 0 (replicate most blank)) none_filled f

    -- i lines have been read, and one more is: the code stores what it shows
    filled_next : (p q q' : Place) (i : ℕ) (lines : List A) (x : A) → i < most → After s p (read_rows i l rule seen []) q (Filled view of blank most i lines)
        → ((rows : List Row) → Filled view of blank most i lines rows → After s q (read_line l (rule (seen ++ filled l rows))) q' (λ row. view x ≡ of row))
        → (good q ≡ false → q' ≡ q) → (good q' ≡ true → Fair s q')
        → After s p (read_rows (i + 1) l rule seen []) q' (Filled view of blank most (i + 1) (set lines i x))
    filled_next p q q' i lines x h a b g f =
        let F = Filled view of blank most i lines in
        let G = Filled view of blank most (suc i) (set lines i x) in
        rw (add-one i) (block_more s l rule seen p q q' i F G a
        (λ rows w. after_weaker s q q' (read_line l (rule (seen ++ filled l rows))) (λ row. view x ≡ of row) (λ row. G (rows ++ (row ∷ [])))
        (λ row e. rw (add-one i) at (one-filled i lines rows x row h w e)) (b rows w)) g f)

  module _ (s : List ℕ) (l : Line) (rule : Rule) where
    -- i of k lines have been read into the array, whatever stands above the block
    abbrev pub Filling : ℕ → Place → Place → ℕ → List A → Type 0
    Filling k p q i lines =
        (i ≤ k) × (k ≤ most) × (length lines ≡ most) × Ready s q
        × ((seen : Sheet) → After s p (read_rows i l rule seen []) q (Filled view of blank most i lines))

    pub filling_none : (k : ℕ) (p : Place) → k ≤ most → Ready s p → Filling k p p 0 (replicate most blank)
    filling_none k p h r = (omega arith, h, length-replicate most blank, r, λ seen. filled_none s l rule seen p r.fair)

    pub filling_next : (k : ℕ) (p q q' : Place) (i : ℕ) (lines : List A) (x : A) → Filling k p q i lines → i < k
        → ((above : Sheet) → After s q (read_line l (rule above)) q' (λ row. view x ≡ of row)) → Filling k p q' (i + 1) (set lines i x)
    filling_next k p q q' i lines x f h a = (
      omega arith,
      f.1,
      length-set lines i x ∙ f.2,
      ready_after f.3 (a []),
      λ seen. filled_next s l rule seen p q q' i lines x (omega (arith, f.1)) (f.4 seen)
          (λ rows w. a (seen ++ filled l rows)) (a []).passes (a []).fair,
    )
