-- `same` is equality of numbers as a test. Assumes nothing.
use mathlib.Core.Path.{◌≡◌, refl, sym}
use mathlib.Core.Bool.{Bool, true, false, ◌||◌, and_comm, false≢true}
use lib.IntN.{ℤ}
use lib.Signed.{le_z}
use Rattle.sheet.specs.Shown.{same}
use Rattle.document.proofs.Rules.{same-is}

pub same_false : (a b : ℤ) → ¬ (a ≡ b) → same a b ≡ false
same_false a b apart = by (same a b) refl
  where
    by : (t : Bool) → same a b ≡ t → t ≡ false
    by true e = absurd (apart (same-is a b e))
    by false e = refl

pub same-swap : (a b : ℤ) → same a b ≡ same b a
same-swap a b = and_comm (le_z a b) (le_z b a)

pub neither : (a b : Bool) → a || b ≡ false → (a ≡ false) × (b ≡ false)
neither true b e = absurd (false≢true (sym e))
neither false b e = (refl, e)
