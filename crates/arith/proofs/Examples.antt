-- Document 01's named form of the rounding, with halves as T-04 has them: halves, a plain case, zero and both ends of an i64. All by computation.
-- Assumes nothing.
use mathlib.Core.Path.{◌≡◌, refl}
use lib.IntN.{pos, negsuc}
use Rattle.arith.specs.Nearest.{tie, nearest_ℕ, nearest}

-- 2.5, 3.5, 0.5 above and below zero; then 4/3 and 0
rounded : (nearest (pos 5) 2 ≡ pos 2) × (nearest (pos 7) 2 ≡ pos 4) × (nearest (pos 1) 2 ≡ pos 0)
    × (nearest (negsuc 4) 2 ≡ negsuc 1) × (nearest (negsuc 6) 2 ≡ negsuc 3) × (nearest (negsuc 0) 2 ≡ pos 0)
    × (nearest (pos 4) 3 ≡ pos 1) × (nearest (pos 0) 7 ≡ pos 0)
unfolding nearest nearest_ℕ tie
rounded = (refl, refl, refl, refl, refl, refl, refl, refl)

ends : (nearest (pos 9223372036854775807) 1 ≡ pos 9223372036854775807) × (nearest (negsuc 9223372036854775807) 1 ≡ negsuc 9223372036854775807)
unfolding nearest nearest_ℕ tie
ends = (refl, refl)
