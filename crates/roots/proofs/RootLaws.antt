-- Laws of `root`: it is the greatest number whose square is not above n, and there is one such number only. Assumes nothing.
use mathlib.Core.Path.{◌≡◌}
use mathlib.Core.Bool.{Bool, true, false, not, cond}
use Prim.Native.Nat.{ℕ, zero, suc, ◌+◌, ◌*◌, ◌/◌, ◌≤◌, ◌<◌}
use native.Mathlib.Nat.{mul-le-mul, le_refl, le_trans, le_antisymm}
use native.Mathlib.Decide.{dec_le}
use native.Mathlib.Omega.{arith}
use lib.Dec.{T, leb, leb→le, nleb→lt}
use Rattle.roots.specs.Root.{IsRoot, root_in, root}

root_in-is : (fuel n : ℕ) → n ≤ fuel → IsRoot n (root_in fuel n)
unfolding root_in
root_in-is zero n h = record { below = omega arith; above = omega arith }
root_in-is (suc fuel) zero h = record { below = omega arith; above = omega arith }
root_in-is (suc fuel) (suc m) h =
    digit (leb ((r + 1) * (r + 1)) (suc m)) (λ t. leb→le ((r + 1) * (r + 1)) (suc m) t) (λ t. nleb→lt ((r + 1) * (r + 1)) (suc m) t)
    (root_in-is fuel (suc m / 4) (omega arith))
  where
    r : ℕ
    r = 2 * root_in fuel (suc m / 4)

    digit : (t : Bool) → (T t → (r + 1) * (r + 1) ≤ suc m) → (T (not t) → suc m < (r + 1) * (r + 1)) → IsRoot (suc m / 4) (root_in fuel (suc m / 4))
        → IsRoot (suc m) (cond t (r + 1) r)
    digit true f g a = record { below = f tt; above = omega (arith, a.above) }
    digit false f g a = record { below = omega (arith, a.below); above = omega (arith, g tt) }

pub root_is : (n : ℕ) → IsRoot n (root n)
unfolding root
root_is n = root_in-is n n (le_refl n)

-- a number whose square is not above n is not above the root; and the root is not above one whose next one's square is above n
pub root-least : {n r : ℕ} (m : ℕ) → IsRoot n r → m * m ≤ n → m ≤ r
root-least {n} {r} m a h = go (dec_le m r)
  where
    go : Dec (m ≤ r) → m ≤ r
    go (yes p) = p
    go (no f) = let g : suc r ≤ m = omega arith in let e : ⊥ = omega (arith, mul-le-mul g g, a.above) in absurd e

pub root-most : {n r : ℕ} (m : ℕ) → IsRoot n r → n < suc m * suc m → r ≤ m
root-most {n} {r} m a h = go (dec_le r m)
  where
    go : Dec (r ≤ m) → r ≤ m
    go (yes p) = p
    go (no f) = let g : suc m ≤ r = omega arith in let e : ⊥ = omega (arith, mul-le-mul g g, a.below) in absurd e

pub root_mono : {m n r s : ℕ} → IsRoot m r → IsRoot n s → m ≤ n → r ≤ s
root_mono {r = r} a b h = root-least r b (le_trans a.below h)

pub root-only : {n r s : ℕ} → IsRoot n r → IsRoot n s → r ≡ s
root-only {n} a b = le_antisymm (root_mono a b (le_refl n)) (root_mono b a (le_refl n))
