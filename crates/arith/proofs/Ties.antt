-- The nearest whole number by one comparison: what is wanting to the next is held to what is left over and 1 more where the quotient is odd.
-- Here alone the rule for ties is opened. Assumes nothing.
use mathlib.Core.Path.{◌≡◌, refl, sym, ◌∙◌}
use mathlib.Core.Bool.{Bool, true, false, cond}
use Prim.Native.Nat.{ℕ, suc, ◌+◌, ◌-◌, ◌/◌, ◌%◌, ◌≤◌, ◌<◌}
use native.Mathlib.Nat.{mod-lt}
use native.Mathlib.Numerals.{add-one}
use native.Mathlib.Omega.{arith}
use borrow.Author.Tests.{ltb-false, le-ltb}
use lib.Dec.{ltb, lit<}
use Rattle.arith.specs.Nearest.{tie, settled, nearest_ℕ}

two : 0 < 2
two = lit< tt

-- d is the divisor, q the quotient, r what is left over
size-up : (d q r : ℕ) → d - r < r + q % 2 → settled q r (d - r) ≡ suc q
unfolding tie
size-up d q r h = rw (le-ltb r (d - r) (omega (arith, mod-lt q two))) (go (ltb (d - r) r) refl)
  where
    go : (t : Bool) → ltb (d - r) r ≡ t → cond t (suc q) (q + q % 2) ≡ suc q
    go true e = refl
    go false e = omega (arith, mod-lt q two, ltb-false (d - r) r e)

size-stays : (d q r : ℕ) → r + q % 2 ≤ d - r → settled q r (d - r) ≡ q
unfolding tie
size-stays d q r h = go (ltb r (d - r)) refl
  where
    go : (t : Bool) → ltb r (d - r) ≡ t → cond t q (cond (ltb (d - r) r) (suc q) (q + q % 2)) ≡ q
    go true e = refl
    go false e = rw (le-ltb (d - r) r (omega arith)) (omega (arith, ltb-false r (d - r) e))

pub goes_up : (n d : ℕ) → d - n % d < n % d + n / d % 2 → n / d + 1 ≡ nearest_ℕ n d
unfolding nearest_ℕ
goes_up n d h = add-one (n / d) ∙ sym (size-up d (n / d) (n % d) h)

pub stays : (n d : ℕ) → n % d + n / d % 2 ≤ d - n % d → n / d ≡ nearest_ℕ n d
unfolding nearest_ℕ
stays n d h = sym (size-stays d (n / d) (n % d) h)
