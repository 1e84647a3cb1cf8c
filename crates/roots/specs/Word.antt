-- A word of the machine, and the numbers that it counts.
use Rattle.std.specs.Prelude.{ℕ, ◌+◌, ◌-◌, ◌*◌, ◌<◌, ◌≤◌, ◌≡◌, true, false, Option, Some}
use Rattle.std.specs.declared.cmp.Ordering.{Ordering}
use Rattle.std.specs.declared.cmp.Ordering.TheVariants.{Less, Equal}
use Rattle.std.specs.Ordering.{partial_le, is_le, nat_cmp}
use Rattle.std.specs.Cmp.{nat_cmp_is}
use Rattle.std.proofs.Common.{arith}
use Rattle.std.proofs.lemmas.Map.Keys.{le_from_is_le}
use native.Mathlib.Decide.{ℕ_discrete, dec_le}

-- what the operators ask and give, in numbers: of `from`, `<=`, `+`, `-` and `*`
pub record Counts {W : Type 0} (value : W → ℕ) (bound : ℕ) (from_gives : ℕ → W → Type 0) (compare : W → W → Option Ordering)
    (can_add : W → W → Type 0) (add_gives : W → W → W → Type 0) (can_sub : W → W → Type 0) (sub_gives : W → W → W → Type 0)
    (can_mul : W → W → Type 0) (mul_gives : W → W → W → Type 0) : Type 0 where
  pub number : (n : ℕ) (x : W) → from_gives n x → value x ≡ n
  pub within : (x y : W) → partial_le compare x y ≡ true → value x ≤ value y
  pub beyond : (x y : W) → partial_le compare x y ≡ false → value y < value x
  pub adds : (x y : W) → value x + value y < bound → can_add x y
  pub sum : (x y z : W) → add_gives x y z → value z ≡ value x + value y
  pub takes : (x y : W) → value y ≤ value x → can_sub x y
  pub rest : (x y z : W) → sub_gives x y z → value z ≡ value x - value y
  pub multiplies : (x y : W) → value x * value y < bound → can_mul x y
  pub product : (x y z : W) → mul_gives x y z → value z ≡ value x * value y

beyond_other : (x y : ℕ) → is_le (nat_cmp x y) ≡ false → y < x
beyond_other x y e = go (dec_le x y)
  where
    go : Dec (x ≤ y) → y < x
    go (no f) = omega arith
    go (yes p) = elim (ℕ_discrete x y) [
      | yes q ↦ let a : Equal ≡ nat_cmp x y = nat_cmp_is x y Equal q in let b = rw (← a) at e in cc
      | no f ↦ let a : Less ≡ nat_cmp x y = nat_cmp_is x y Less (omega arith) in let b = rw (← a) at e in cc
    ]

-- so they do of the numbers themselves
pub counts_below : (bound : ℕ) → Counts (λ x. x) bound (λ n x. x ≡ n) (λ x y. Some (nat_cmp x y)) (λ x y. x + y < bound) (λ x y z. z ≡ x + y)
    (λ x y. y ≤ x) (λ x y z. z ≡ x - y) (λ x y. x * y < bound) (λ x y z. z ≡ x * y)
counts_below bound = record {
  number = λ n x e. e;
  within = le_from_is_le;
  beyond = beyond_other;
  adds = λ x y h. h;
  sum = λ x y z e. e;
  takes = λ x y h. h;
  rest = λ x y z e. e;
  multiplies = λ x y h. h;
  product = λ x y z e. e;
}
