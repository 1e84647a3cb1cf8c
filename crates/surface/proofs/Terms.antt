-- A reading as a wall, and how large the first term of formula 25 and both its roots can be, by the factor and the rise. Assumes nothing.
use Prim.Native.Nat.{ℕ, ◌*◌, ◌^◌, ◌≤◌}
use native.Mathlib.Nat.{lt_of_le_of_lt, mul-le-mul, mul-le-mul_right}
use native.Mathlib.Omega.{arith}
use lib.Dec.{lit<}
use lib.IntN.{pos}
use Rattle.roots.specs.Root.{root}
use Rattle.arith.proofs.NearestLaws.{atmost_ℕ}
use Rattle.roots.proofs.RootLaws.{root_is, root-most}
use Rattle.std.specs.Prelude.{Option, None, Some}
use Rattle.sheet.specs.declared.Reading.{Reading}
use Rattle.sheet.specs.Firing.{Wall}
use Rattle.formulas.specs.Rounding.{square_root, fourth_root, convected}
use Rattle.formulas.specs.Sizes.{placed_most, warmer_most, square_root_most, fourth_root_most, convection_most}

-- a cell's reading, 0 where nothing was read
abbrev pub read_of : Option Reading → Reading
read_of None = record { surface = record { 0 = pos 0 }; air = record { 0 = pos 0 } }
read_of (Some x) = x

-- where and when is known by the cell
abbrev pub wall_of : Reading → Wall
wall_of x = record { section = pos 0; stage = pos 0; surface = x.surface.0; air = x.air.0 }

pub first-root-most : {n : ℕ} → n ≤ warmer_most * 10 ^ 15 → root n ≤ square_root_most
first-root-most {n} h = root-most square_root_most (root_is n) (lt_of_le_of_lt h (lit< tt))

fourth-root-most : {Δ : ℕ} → Δ ≤ warmer_most → fourth_root Δ ≤ fourth_root_most
fourth-root-most {Δ} h =
    let first = first-root-most (mul-le-mul_right (10 ^ 15) h) in
    root-most fourth_root_most (root_is (square_root Δ * 10 ^ 8)) (lt_of_le_of_lt (mul-le-mul_right (10 ^ 8) first) (lit< tt))

-- A Δ ⁴√Δ, before it is rounded and in 1e-5 W/m²
pub product-most : {a Δ : ℕ} → a ≤ placed_most → Δ ≤ warmer_most → a * Δ * fourth_root Δ ≤ placed_most * warmer_most * fourth_root_most
product-most h k = mul-le-mul (mul-le-mul h k) (fourth-root-most k)

pub term_most : {a Δ : ℕ} → a ≤ placed_most → Δ ≤ warmer_most → convected a Δ ≤ convection_most
term_most {a} {Δ} h k = atmost_ℕ (a * Δ * fourth_root Δ) convection_most (lit< tt) (omega (arith, product-most h k))
