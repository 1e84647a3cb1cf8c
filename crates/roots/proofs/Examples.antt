-- The root as the class's page has it (docs/ROOT.md). All by computation. Assumes nothing.
use Prim.Native.Nat.{ℕ, ◌+◌, ◌*◌, ◌-◌, ◌^◌}
use mathlib.Core.Path.{◌≡◌, refl}
use mathlib.Core.Bool.{Bool, cond, ◌&&◌}
use lib.Dec.{T, leb, eqb}
use Rattle.roots.specs.Root.{root, root_in}

-- ---- A row of the page. From the row above: the root and what was left. In the row: the pair that is brought down, the rest, the trial, the digit, the
-- root and what is left. The root is that of m, the pairs so far
row : (m above over pair rest trial digit r left : ℕ) → Bool
row m above over pair rest trial digit r left =
    eqb rest (over * 4 + pair) && eqb trial (above * 4 + 1) && eqb digit (cond (leb trial rest) 1 0) && eqb r (above * 2 + digit)
    && eqb left (rest - digit * trial) && eqb r (root m) && eqb m (r * r + left)

-- 1,000 in pairs is 11 11 10 10 00
thousand : T (row 3 0 0 3 3 1 1 1 2) × T (row 15 1 2 3 11 5 1 3 6) × T (row 62 3 6 2 26 13 1 7 13) × T (row 250 7 13 2 54 29 1 15 25)
    × T (row 1000 15 25 0 100 61 1 31 39)
unfolding row root root_in
thousand = (tt, tt, tt, tt, tt)

-- 100 in pairs is 01 10 01 00: digits 0, and a trial that is just the rest
hundred : T (row 1 0 0 1 1 1 1 1 0) × T (row 6 1 0 2 2 5 0 2 2) × T (row 25 2 2 1 9 9 1 5 0) × T (row 100 5 0 0 0 21 0 10 0)
unfolding row root root_in
hundred = (tt, tt, tt, tt)

-- a wall 36.0 °C warmer than the air: the root of the rise, and the root of that, both in 1e-8
wall : (root (360 * 10 ^ 15) ≡ 600000000) × (root (600000000 * 10 ^ 8) ≡ 244948974)
unfolding root root_in
wall = (refl, refl)
