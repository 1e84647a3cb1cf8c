-- An array that is filled from the front. Assumes nothing.
use Prim.Native.Nat.{ℕ, zero, suc, ◌+◌, ◌<◌}
use mathlib.Core.Path.{◌≡◌, sym, ap, ap₂, ◌∙◌}
use mathlib.Core.List.{List, [], ◌∷◌}
use native.Mathlib.Nat.{le_of_suc-le-suc, not-suc-le-zero}
use native.Mathlib.Omega.{arith}
use native.Mathlib.Numerals.{add-one}
use lib.ListN.{length, get_or, set, take, drop}
use lib.Seq.{take_all}
use lib.IntN.{ℤ, pos}

filled' : (i : ℕ) (xs ys : List ℤ) (z : ℤ) → i < length xs → i < length ys → take i xs ≡ take i ys → z ≡ get_or ys i (pos 0) →
    take (suc i) (set xs i z) ≡ take (suc i) ys
filled' i [] ys z h g e v = absurd (not-suc-le-zero h)
filled' i (x ∷ xs) [] z h g e v = absurd (not-suc-le-zero g)
filled' zero (x ∷ xs) (y ∷ ys) z h g e v = ap (λ (w : ℤ). w ∷ []) v
filled' (suc i) (x ∷ xs) (y ∷ ys) z h g e v =
    ap₂ (λ (w : ℤ) (l : List ℤ). w ∷ l) (ap (λ (l : List ℤ). get_or l 0 (pos 0)) e)
    (filled' i xs ys z (le_of_suc-le-suc h) (le_of_suc-le-suc g) (ap (λ (l : List ℤ). drop 1 l) e) v)

-- one place more is as it should be
pub filled : (i : ℕ) (xs ys : List ℤ) (z : ℤ) → i < length xs → i < length ys → take i xs ≡ take i ys → z ≡ get_or ys i (pos 0) →
    take (i + 1) (set xs i z) ≡ take (i + 1) ys
filled i xs ys z h g e v = rw add-one (filled' i xs ys z h g e v)

-- all places
pub full : (n : ℕ) (xs ys : List ℤ) → length xs ≡ n → length ys ≡ n → take n xs ≡ take n ys → xs ≡ ys
full n xs ys h g e = sym (take_all n xs (omega arith)) ∙ e ∙ take_all n ys (omega arith)
