-- The text of an i64 by its sign. Assumes nothing.
use mathlib.Core.Path.{◌≡◌, refl}
use mathlib.Core.Bool.{true, false}
use mathlib.Core.List.{◌++◌}
use Prim.Native.Nat.{ℕ}
use native.Mathlib.Omega.{arith}
use lib.IntN.{ℤ, pos, negsuc, nat_abs}
use lib.Signed.{lt_z}
use mir.Syntax.{w64}
use mir.Val.{SFits}
use mir.ValLaws.{to_z-of_z}
use borrow.Author.Tests.{ltb-true}
use Rattle.text.specs.Bytes.{bytes}
use Rattle.text.specs.Decimal.{digits, decimal}
use Rattle.arith.proofs.Signed.{W}

-- the text of a number by its sign, as a test of its bits says it; m is its magnitude
module _ (z : ℤ) (m : ℕ) (f : SFits w64 z) (e : m ≡ nat_abs (W z)) where
  pub minus-text : lt_z (W z) (pos 0) ≡ true → decimal z ≡ bytes "-" ++ digits m
  unfolding decimal
  minus-text t = rw (e, to_z-of_z w64 z f) (here z (rw (to_z-of_z w64 z f) at t))
    where
      here : (z : ℤ) → lt_z z (pos 0) ≡ true → decimal z ≡ bytes "-" ++ digits (nat_abs z)
      here (pos n) t = absurd (omega (arith, ltb-true n 0 t))
      here (negsuc n) t = refl

  pub plain-text : lt_z (W z) (pos 0) ≡ false → decimal z ≡ digits m
  unfolding decimal
  plain-text t = rw (e, to_z-of_z w64 z f) (here z (rw (to_z-of_z w64 z f) at t))
    where
      here : (z : ℤ) → lt_z z (pos 0) ≡ false → decimal z ≡ digits (nat_abs z)
      here (pos n) t = refl
      here (negsuc n) t = let q : ◌≡◌ {A = ℕ} 0 1 = cc in absurd (omega arith)
