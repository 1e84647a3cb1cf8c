-- Numbers as i64: the opposite of a small one. Assumes nothing.
use mathlib.Core.Path.{◌≡◌, ap, ◌∙◌}
use Prim.Native.Nat.{ℕ, zero, suc, ◌^◌, ◌<◌}
use native.Mathlib.Omega.{arith}
use lib.IntN.{ℤ, pos, neg_ℤ, ◌-ℤ◌, +ℤ_idl}
use lib.Dec.{lit<}
use mir.Syntax.{w64}
use mir.Val.{SFits, to_z, of_z}
use mir.ValLaws.{to_z-of_z}

-- a number read back from its bits, as a test or a call has it
abbrev pub W : ℤ → ℤ
W z = to_z w64 (of_z w64 z)

pub negative_fits : (n : ℕ) → n < 2 ^ 63 → SFits w64 (neg_ℤ (pos n))
negative_fits zero h = record { sfits = lit< tt }
negative_fits (suc n) h = record { sfits = omega arith }

-- the code's way from a number that is not negative to its opposite
pub record Turned (z : ℤ) : Type 0 where
  pub back : W z ≡ z
  pub minus : pos 0 -ℤ W z ≡ neg_ℤ z
  pub fits : SFits w64 (neg_ℤ z)

pub turned : (z : ℤ) (n : ℕ) → z ≡ pos n → n < 2 ^ 63 → Turned z
turned z n e h =
    let b : W (pos n) ≡ pos n = to_z-of_z w64 (pos n) (record { sfits = h }) in
    rw e (record { back = b; minus = ap (λ (x : ℤ). pos 0 -ℤ x) b ∙ +ℤ_idl (neg_ℤ (pos n)); fits = negative_fits n h })
