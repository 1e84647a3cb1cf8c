-- The square root cut down to a whole number.
use Rattle.std.specs.Prelude.{ℕ, zero, suc, ◌+◌, ◌*◌, ◌/◌, ◌≤◌, ◌<◌, cond, leb}

-- what it is: the greatest r with r · r ≤ n
pub record IsRoot (n r : ℕ) : Type 0 where
  pub below : r * r ≤ n
  pub above : n < suc r * suc r

-- how it is found: a binary digit for every two of n, from the top; `fuel` is at least n
unfoldable pub root_in : ℕ → ℕ → ℕ
root_in zero n = 0
root_in (suc fuel) zero = 0
root_in (suc fuel) (suc m) = let r = 2 * root_in fuel (suc m / 4) in cond (leb ((r + 1) * (r + 1)) (suc m)) (r + 1) r

unfoldable pub root : ℕ → ℕ
root n = root_in n n
