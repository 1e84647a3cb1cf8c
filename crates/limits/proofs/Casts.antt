-- A signed number that is cast to another width stands as it is, where it fits both. Assumes nothing.
use Prim.Native.Nat.{ℕ, ◌^◌, ◌≤◌, ◌<◌}
use native.Mathlib.Omega.{arith}
use mathlib.Core.Path.{◌≡◌, ap, ◌∙◌}
use borrow.Author.Rules.{sfits_of}
use lib.Dec.{leb→le}
use lib.IntN.{ℤ, pos, negsuc}
use lib.Signed.{mag, ◌≤ℤ◌}
use mir.Syntax.{Width, w16, w32, w64}
use mir.Val.{hbits, SFits, to_z, of_z}
use mir.Facts.{sfits_widen, to_z-of_z}
use Rattle.limits.specs.Checked.{Measured}
use Rattle.limits.proofs.Laws.{Between, within}

below : (least greatest z : ℤ) (n : ℕ) → Between least greatest z → mag least < n → mag greatest < n → mag z < n
below least (pos g) (pos z) n b l h = omega (arith, leb→le z g b.high.le)
below least (negsuc g) (pos z) n b l h = absurd b.high.le
below (pos a) greatest (negsuc z) n b l h = absurd b.low.le
below (negsuc a) greatest (negsuc z) n b l h = omega (arith, leb→le z a b.low.le)

-- What lies between limits that fit a width fits it.
pub between-fits : {w : Width} {least greatest z : ℤ} → SFits w least → SFits w greatest → Between least greatest z → SFits w z
between-fits {w} {least} {greatest} {z} l h b = record { sfits = below least greatest z (2 ^ hbits w) b l.sfits h.sfits }

module _ {from to : Width} {z : ℤ} (before : SFits from z) (after : SFits to z) where
  pub cast_fits : SFits to (to_z from (of_z from z))
  cast_fits = rw (to_z-of_z before) after

  pub cast_is : to_z to (of_z to (to_z from (of_z from z))) ≡ z
  cast_is = ap (λ x. to_z to (of_z to x)) (to_z-of_z before) ∙ to_z-of_z after

-- What was held to limits that fit sixteen bits is narrowed to them, and stands as it is.
module _ {least greatest v value : ℤ} {fault field after : ℕ} (low : SFits w16 least) (high : SFits w16 greatest) (order : least ≤ℤ greatest)
    (wide : SFits w32 value) (m : Measured least greatest v fault field value after) where
  pub narrows : SFits w16 (to_z w32 (of_z w32 value))
  narrows = cast_fits wide (between-fits low high (within m order))

  pub narrowed : Measured least greatest v fault field (to_z w16 (of_z w16 (to_z w32 (of_z w32 value)))) after
  narrowed = rw (cast_is wide (between-fits low high (within m order))) m

-- What is kept in 32 bits is counted with in 64.
module _ {z : ℤ} (fits : SFits w32 z) where
  pub widens : SFits w64 (to_z w32 (of_z w32 z))
  widens = cast_fits fits (sfits_widen tt fits)

  pub widened : to_z w64 (of_z w64 (to_z w32 (of_z w32 z))) ≡ z
  widened = cast_is {to = w64} fits (sfits_widen {w = w32} tt fits)

-- So is what is kept in 16.
module _ {z : ℤ} (fits : SFits w16 z) where
  pub widens16 : SFits w64 (to_z w16 (of_z w16 z))
  widens16 = cast_fits fits (sfits_widen tt fits)

  pub widened16 : to_z w64 (of_z w64 (to_z w16 (of_z w16 z))) ≡ z
  widened16 = cast_is {to = w64} fits (sfits_widen {w = w16} tt fits)

-- What a need is handed of a number that is kept in 32 bits is its bound alone.
pub held : {z : ℤ} → mag z < 2 ^ hbits w32 → SFits w64 z
held bound = sfits_widen {w = w32} tt (sfits_of bound)

-- What closes the needs of a function that widens numbers and counts with them in one expression, where its `requires` says that each step
-- fits: `search casts`. It is part of `needs`, whose other lemmas would take the steps that a `search` has, and what is above.
pub ruleset casts = (tt, to_z-of_z, sfits_of, held, widens)
