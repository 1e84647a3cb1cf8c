-- The pieces of a line: the text before the first comma is the first, and those behind it are the others; and the numbers that they are.
-- Assumes nothing.
use mathlib.Core.Path.{◌≡◌, refl, sym, ap, ◌∙◌}
use mathlib.Core.Bool.{Bool, true, false, cond}
use mathlib.Core.List.{List, [], ◌∷◌, ◌++◌}
use Prim.Native.Nat.{ℕ, suc, ◌+◌, ◌≤◌, ◌<◌}
use native.Mathlib.Omega.{arith}
use lib.ListN.{length, drop}
use lib.IntN.{ℤ}
use lib.Dec.{leb, eqb}
use borrow.Author.Tests.{le-leb, leb-true, leb-false}
use Rattle.std.specs.Prelude.{Option, Some, None}
use Rattle.text.specs.Number.{number_of}
use Rattle.text.specs.Scanning.{up_to, find, count}
use Rattle.text.proofs.Scanning.{up_to-clear, find-most, found, not_found}
use Rattle.document.specs.Schema.{pieces, Numbers, none-at, all_are, on_number, on_numbers, numbers_of}
use Rattle.document.proofs.Pieces.{pieces-last, pieces_more}

-- a text without c is passed over
pub up_to_past : (c : ℕ) (p rest : List ℕ) → count p c ≡ 0 → up_to c (p ++ rest) ≡ p ++ up_to c rest
unfolding up_to count
up_to_past c [] rest z = refl
up_to_past c (b ∷ p) rest z = here (eqb b c) (up_to_past c p rest) z
  where
    here : (t : Bool) → (count p c ≡ 0 → up_to c (p ++ rest) ≡ p ++ up_to c rest) → cond t (suc (count p c)) (count p c) ≡ 0
        → cond t [] (b ∷ up_to c (p ++ rest)) ≡ b ∷ (p ++ up_to c rest)
    here true q z = absurd (omega arith)
    here false q z = rw (q z)

-- the pieces from a place on; behind the end there are none
unfoldable pub left : List ℕ → ℕ → List (List ℕ)
left v at = cond (leb at (length v)) (pieces 44 (drop at v)) []

pub left-all : (v : List ℕ) → left v 0 ≡ pieces 44 v
unfolding left
left-all v = rw (le-leb 0 (length v) (omega arith))

-- the piece at a place where one is left: it ends at e, and the others stand behind it
pub record Piece (v : List ℕ) (at e : ℕ) : Type 0 where
  pub most : e ≤ length v
  pub first : left v at ≡ up_to 44 (drop at v) ∷ left v (e + 1)

pub next-piece : (v : List ℕ) (at e : ℕ) → e ≡ find v at 44 → 0 < length (left v at) → Piece v at e
unfolding left
next-piece v at e q p = rw q (here (leb at (length v)) refl (leb (find v at 44 + 1) (length v)) refl p)
  where
    text : List ℕ
    text = up_to 44 (drop at v)

    here : (t : Bool) → leb at (length v) ≡ t → (u : Bool) → leb (find v at 44 + 1) (length v) ≡ u → 0 < length (cond t (pieces 44 (drop at v)) [])
        → Piece v at (find v at 44)
    here true h true g p =
        let l = leb-true (find v at 44 + 1) (length v) g in
        record {
          most = omega arith;
          first = rw (h, g) (ap (pieces 44) (found v at 44 (omega arith)) ∙ pieces_more 44 text (drop (find v at 44 + 1) v) (up_to-clear 44 (drop at v)));
        }
    here true h false g p =
        let l = leb-false (find v at 44 + 1) (length v) g in
        record {
          most = find-most v at 44 (leb-true at (length v) h);
          first = rw (h, g) (ap (pieces 44) (sym (not_found v at 44 (omega arith))) ∙ pieces-last 44 text (up_to-clear 44 (drop at v)));
        }
    here false h u g p = absurd (omega arith)

-- where all pieces are numbers, these are as many
pub numbers-many : (i : ℕ) (ps : List (List ℕ)) (zs : List ℤ) → numbers_of i ps ≡ all_are zs → length zs ≡ length ps
unfolding numbers_of
numbers-many i [] zs e = let q : zs ≡ [] = cc in rw q
numbers-many i (p ∷ ps) zs e = here (number_of p) (numbers_of (suc i) ps) (numbers-many (suc i) ps) e
  where
    here : (m : Option ℤ) (ns : Numbers) → ((r : List ℤ) → ns ≡ all_are r → length r ≡ length ps)
        → on_number m (none-at i) (λ z. on_numbers ns none-at (λ r. all_are (z ∷ r))) ≡ all_are zs → length zs ≡ suc (length ps)
    here None ns q e = let z : ◌≡◌ {A = ℕ} 0 1 = cc in absurd (omega arith)
    here (Some z) (none-at j) q e = let z : ◌≡◌ {A = ℕ} 0 1 = cc in absurd (omega arith)
    here (Some z) (all_are r) q e = let w : zs ≡ z ∷ r = cc in rw w (ap suc (q r refl))
