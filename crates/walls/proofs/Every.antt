-- A test at every number below n: it is a loop that stops where the test fails, or the same test along a list. Assumes nothing.
use Prim.Native.Nat.{ℕ, zero, suc, ◌+◌, ◌<◌}
use native.Mathlib.Numerals.{add-one}
use native.Mathlib.Omega.{arith}
use mathlib.Core.Path.{◌≡◌, refl, sym, ap, ◌∙◌}
use mathlib.Core.Bool.{Bool, true, false, ◌&&◌, and-false}
use mathlib.Core.List.{List, [], ◌∷◌}
use lib.Dec.{eqb}
use lib.ListN.{length, get_or}
use lib.IntN.{ℤ, pos}
use borrow.Author.Tests.{eqb-true, eqb-false}
use Rattle.document.specs.Tests.{all, counted}
use Rattle.walls.specs.Cells.{every}

-- One more number at which the test passes.
pub every_more : (f : ℕ → Bool) (n : ℕ) → f n ≡ true → every f n ≡ true → every f (n + 1) ≡ true
unfolding every
every_more f n here below = rw (add-one, here) below

-- One number at which the test fails is enough.
pub every-not : (f : ℕ → Bool) (i n : ℕ) → i < n → f i ≡ false → every f n ≡ false
unfolding every
every-not f i zero h e = absurd (omega arith)
every-not f i (suc n) h e = by (eqb i n) refl (λ less. every-not f i n less e)
  where
    by : (t : Bool) → eqb i n ≡ t → (i < n → every f n ≡ false) → f n && every f n ≡ false
    by true q below = let here : f n ≡ false = ap f (sym (eqb-true i n q)) ∙ e in rw here
    by false q below =
        let other = eqb-false i n q in
        let less : i < n = omega arith in
        rw (below less) (and-false (f n))

-- Tests that agree below n.
pub every-alike : (f g : ℕ → Bool) (n : ℕ) → ((i : ℕ) → i < n → f i ≡ g i) → every f n ≡ every g n
unfolding every
every-alike f g zero h = refl
every-alike f g (suc n) h =
    let here = h n (omega arith) in
    let below = every-alike f g n (λ i less. h i (omega arith)) in
    rw (here, below)

swap : (a b c : Bool) → a && (b && c) ≡ b && (a && c)
swap true b c = refl
swap false true c = refl
swap false false c = refl

-- The number 0 taken out, where a list begins.
every_first : (f : ℕ → Bool) (n : ℕ) → every f (suc n) ≡ f 0 && every (λ i. f (suc i)) n
unfolding every
every_first f zero = refl
every_first f (suc n) = ap (λ t. f (suc n) && t) (every_first f n) ∙ swap (f (suc n)) (f 0) _

-- Along a list, by its indices.
pub every-listed : {A : Type 0} (f : A → Bool) (d : A) (l : List A) → every (λ i. f (get_or l i d)) (length l) ≡ all f l
unfolding every
every-listed f d [] = refl
every-listed f d (x ∷ l) = every_first (λ i. f (get_or (x ∷ l) i d)) (length l) ∙ ap (λ t. f x && t) (every-listed f d l)

-- Along the stages, which count from 1.
pub every-counted : (f : ℤ → Bool) (k : ℕ) → every (λ j. f (pos (suc j))) k ≡ all f (counted k)
unfolding every
every-counted f zero = refl
every-counted f (suc k) = ap (λ t. f (pos (suc k)) && t) (every-counted f k)
