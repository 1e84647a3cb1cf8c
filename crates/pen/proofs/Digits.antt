-- The last digits of a number, as they are written from the right. Assumes nothing.
use mathlib.Core.Path.{◌≡◌, refl, sym, ◌∙◌}
use mathlib.Core.List.{List, [], ◌∷◌, ◌++◌}
use Prim.Native.Nat.{ℕ, zero, suc, ◌+◌, ◌-◌, ◌*◌, ◌/◌, ◌%◌, ◌^◌, ◌≤◌, ◌<◌}
use native.Mathlib.Nat.{pow-suc}
use native.Mathlib.Numerals.{add-one}
use native.Mathlib.Omega.{arith}
use lib.ListN.{length, set, length-append}
use Rattle.text.specs.Decimal.{digits}
use Rattle.text.proofs.Decimal.{digits-one, digits_more, by_digits, length-one, length_more, length_digits, digits_above}
use Rattle.pen.specs.Writing.{over}
use Rattle.pen.proofs.Writing.{last-first}

-- the last k digits of n, with zeros before them where n has fewer
unfoldable pub last_digits : ℕ → ℕ → List ℕ
last_digits zero n = []
last_digits (suc k) n = last_digits k (n / 10) ++ ((48 + n % 10) ∷ [])

pub last_none : (n : ℕ) → last_digits 0 n ≡ []
unfolding last_digits
last_none n = refl

pub last_more : (k n : ℕ) → last_digits (k + 1) n ≡ last_digits k (n / 10) ++ ((48 + n % 10) ∷ [])
unfolding last_digits
last_more k n = rw add-one

pub length_last : (k n : ℕ) → length (last_digits k n) ≡ k
unfolding last_digits
length_last zero n = refl
length_last (suc k) n = rw (length-append, length_last k (n / 10)) (add-one k)

-- as many as there are: all of them
pub last-all : (n : ℕ) → last_digits (length (digits n)) n ≡ digits n
last-all = by_digits (λ n. last_digits (length (digits n)) n ≡ digits n) one more
  where
    one : (n : ℕ) → n < 10 → last_digits (length (digits n)) n ≡ digits n
    one n h =
        let e : n % 10 ≡ n = omega arith in
        rw (length-one n h, digits-one n h) (last_more 0 n ∙ rw (last_none, e))

    more : (n : ℕ) → 10 ≤ n → last_digits (length (digits (n / 10))) (n / 10) ≡ digits (n / 10) → last_digits (length (digits n)) n ≡ digits n
    more n h q = rw (length_more n h, digits_more n h) (last_more (length (digits (n / 10))) n ∙ rw q)

-- the last of the digits that are left is written
pub last_written : (at i rest : ℕ) (out : List ℕ) → at < i → i ≤ length out →
    over at (last_digits (i - 1 - at) (rest / 10)) (set out (i - 1) (48 + rest % 10)) ≡ over at (last_digits (i - at) rest) out
last_written at i rest out h f =
    let e : i - at ≡ i - 1 - at + 1 = omega arith in
    rw (e, last_more (i - 1 - at) rest)
    (last-first at (i - 1) (48 + rest % 10) (last_digits (i - 1 - at) (rest / 10)) out (omega (arith, length_last (i - 1 - at) (rest / 10))) (omega arith))

-- how many digits a number has, by its power of ten
pub counted_some : (n k : ℕ) → 10 ^ k ≤ n → n < 10 * 10 ^ k → k + 1 ≡ length (digits n)
counted_some n k l h = omega (arith, digits_above k n l, length_digits k n (rw pow-suc (omega arith)))

pub counted_none : (n : ℕ) → n ≡ 0 → 1 ≡ length (digits n)
counted_none n e = sym (length-one n (omega arith))

pub ruleset counted = (counted_some, counted_none)
