-- The digits of a number are those of its tenth and one more: what follows for their number and their beginning.
-- Assumes nothing.
use mathlib.Core.Path.{◌≡◌, refl}
use mathlib.Core.Bool.{Bool, true, false}
use mathlib.Core.Logic.{◌⊎◌, inl, inr, ⊎_elim}
use mathlib.Core.List.{List, [], ◌∷◌, ◌++◌, append_assoc}
use Prim.Native.Nat.{ℕ, zero, suc, ◌+◌, ◌*◌, ◌/◌, ◌%◌, ◌^◌, ◌≤◌, ◌<◌}
use native.Mathlib.Nat.{le_refl, lt_of_not-le, pow-suc, pow-le-pow_right}
use native.Mathlib.Numerals.{add-one}
use native.Mathlib.Omega.{arith}
use lib.ListN.{length, get_or, length-append, get_or-append}
use lib.IntN.{ℤ, pos, negsuc, nat_abs}
use lib.Dec.{ltb, lit<}
use mir.Syntax.{w64}
use mir.Val.{SFits}
use borrow.Author.Tests.{lt-ltb, le-ltb, ltb-true, ltb-false}
use Rattle.text.specs.Bytes.{bytes}
use Rattle.text.specs.Decimal.{digits_in, digits, decimal, line}

-- any fuel that is enough gives the same digits
fuel : (f g n : ℕ) → n ≤ f → n ≤ g → digits_in f n ≡ digits_in g n
unfolding digits_in
fuel zero zero n p q = refl
fuel zero (suc g) n p q = let e : n ≡ 0 = omega arith in rw e
fuel (suc f) zero n p q = let e : n ≡ 0 = omega arith in rw e
fuel (suc f) (suc g) n p q = rw (fuel f g (n / 10) (omega arith) (omega arith))

pub digits-one : (n : ℕ) → n < 10 → digits n ≡ (48 + n) ∷ []
unfolding digits digits_in
digits-one zero h = refl
digits-one (suc n) h = rw (lt-ltb (suc n) 10 h)

pub digits_more : (n : ℕ) → 10 ≤ n → digits n ≡ digits (n / 10) ++ ((48 + n % 10) ∷ [])
unfolding digits digits_in
digits_more zero h = absurd (omega arith)
digits_more (suc n) h = rw (le-ltb (suc n) 10 h, fuel n (suc n / 10) (suc n / 10) (omega arith) (omega arith))

one-digit : (n : ℕ) → (n < 10) ⊎ (10 ≤ n)
one-digit n = here (ltb n 10) refl
  where
    here : (t : Bool) → ltb n 10 ≡ t → (n < 10) ⊎ (10 ≤ n)
    here true e = inl (ltb-true n 10 e)
    here false e = inr (ltb-false n 10 e)

-- what holds of one digit, and of a number where it holds of its tenth, holds of all
pub by_digits : (P : ℕ → Type 0) → ((n : ℕ) → n < 10 → P n) → ((n : ℕ) → 10 ≤ n → P (n / 10) → P n) → (n : ℕ) → P n
by_digits P one more n = go n n (le_refl n)
  where
    go : (f n : ℕ) → n ≤ f → P n
    go zero n h = one n (omega arith)
    go (suc f) n h = ⊎_elim (one n) (λ g. more n g (go f (n / 10) (omega arith))) (one-digit n)

pub length-one : (n : ℕ) → n < 10 → length (digits n) ≡ 1
length-one n h = rw (digits-one n h)

pub length_more : (n : ℕ) → 10 ≤ n → length (digits n) ≡ length (digits (n / 10)) + 1
length_more n h = rw (digits_more n h, length-append)

-- a number has k digits or fewer just where it is below 10 ^ k
pub length_digits : (k n : ℕ) → n < 10 ^ suc k → length (digits n) ≤ suc k
length_digits zero n h = omega (arith, length-one n h)
length_digits (suc k) n h =
    let p : n < 10 ^ suc k * 10 = rw pow-suc at h in
    ⊎_elim (λ w. omega (arith, length-one n w)) (λ w. omega (arith, length_more n w, length_digits k (n / 10) (omega arith))) (one-digit n)

pub digits-below : (n : ℕ) → n < 10 ^ length (digits n)
digits-below = by_digits (λ n. n < 10 ^ length (digits n)) (λ n h. rw (length-one n h) h) (λ n h q. rw (length_more n h, add-one, pow-suc) (omega arith))

pub digits_above : (k n : ℕ) → 10 ^ k ≤ n → k < length (digits n)
digits_above k n h =
    lt_of_not-le
    (λ short.
    let p : 10 ^ length (digits n) ≤ 10 ^ k = pow-le-pow_right {n = 10} (lit< tt) short in
    omega (arith, digits-below n))

-- how digits begin
pub record Leads (n : ℕ) : Type 0 where
  pub some : 0 < length (digits n)
  pub digit : 48 ≤ get_or (digits n) 0 0
  pub nonzero : 0 < n → 48 < get_or (digits n) 0 0

pub leads : (n : ℕ) → Leads n
leads = by_digits Leads one more
  where
    one : (n : ℕ) → n < 10 → Leads n
    one n h =
        let e = digits-one n h in
        record { some = rw e (omega arith); digit = rw e (omega arith); nonzero = λ p. rw e (omega arith) }

    more : (n : ℕ) → 10 ≤ n → Leads (n / 10) → Leads n
    more n h q =
        let e = digits_more n h in
        let g = get_or-append (digits (n / 10)) ((48 + n % 10) ∷ []) 0 0 q.some in
        record { some = omega (arith, length_more n h); digit = rw (e, g) q.digit; nonzero = λ p. rw (e, g) (q.nonzero (omega arith)) }

-- the text of a number of at most k + 1 digits has at most one byte more
pub length-decimal : (k : ℕ) (z : ℤ) → nat_abs z < 10 ^ suc k → length (decimal z) ≤ suc k + 1
unfolding decimal
length-decimal k (pos n) h = omega (arith, length_digits k n h)
length-decimal k (negsuc n) h = omega (arith, length_digits k (suc n) h)

-- a number of the sheet takes at most 10 bytes, and any i64 at most 20
pub sheet_width : (z : ℤ) → nat_abs z < 1000000000 → length (decimal z) ≤ 10
sheet_width z h = length-decimal 8 z h

pub i64_width : (z : ℤ) → SFits w64 z → length (decimal z) ≤ 20
i64_width (pos n) f = length-decimal 18 (pos n) (omega (arith, f.sfits))
i64_width (negsuc n) f = length-decimal 18 (negsuc n) (omega (arith, f.sfits))

pub some-text : (z : ℤ) → 0 < length (decimal z)
unfolding decimal
some-text (pos n) = (leads n).some
some-text (negsuc n) = omega arith

pub length-line : (key : List ℕ) (z : ℤ) → length (line key z) ≡ length key + length (decimal z) + 2
unfolding line
length-line key z = simp length-append (omega arith)

-- a line as it is written, piece behind piece
pub line-pieces : (key : List ℕ) (z : ℤ) → ((key ++ bytes "=") ++ decimal z) ++ bytes "\n" ≡ line key z
unfolding line
line-pieces key z = simp append_assoc
