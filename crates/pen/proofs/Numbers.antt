-- A number of 32 bits, as a call has it, and how long its text is at most. Assumes nothing.
use Prim.Native.Nat.{ℕ, ◌^◌, ◌≤◌, ◌<◌}
use mathlib.Core.Path.{◌≡◌}
use native.Mathlib.Omega.{arith}
use lib.IntN.{ℤ, pos}
use lib.ListN.{length}
use mir.Syntax.{w64}
use mir.Val.{to_z, of_z}
use mir.ValLaws.{to_z_pos}
use Rattle.text.specs.Decimal.{decimal}
use Rattle.text.proofs.Decimal.{length-decimal}

pub same : (n : ℕ) (z : ℤ) → n < 2 ^ 32 → z ≡ pos n → to_z w64 (of_z w64 z) ≡ pos n
same n z h e = rw e (to_z_pos w64 n (omega arith))

pub short : (n : ℕ) → n < 2 ^ 32 → length (decimal (pos n)) ≤ 11
short n h = length-decimal 9 (pos n) (omega arith)

pub short_kept : (z : ℤ) (n : ℕ) → z ≡ pos n → n < 2 ^ 32 → length (decimal (to_z w64 (of_z w64 z))) ≤ 11
short_kept z n e h = rw (same n z h e) (short n h)

pub ruleset texts = (short, short_kept)
