-- A root of a root, each cut down, times A Δ and rounded, stands within one unit of the fourth root of the exact power: s is the second root,
-- and the fourth powers of s and s + 2 enclose that of the exact root; for large Δ those of s and s + 5/4 do. Assumes nothing.
use Prim.Native.Nat.{ℕ, suc, ◌+◌, ◌*◌, ◌/◌, ◌^◌, ◌-◌, ◌≤◌, ◌<◌}
use mathlib.Core.Path.{◌≡◌, sym, subst}
use mathlib.Core.List.{[], ◌∷◌}
use native.Mathlib.Nat.{le_trans, lt_of_lt_of_le, mul-le-mul, mul-le-mul_left, mul-le-mul_right, mul-lt-mul_of_pos_left, mul-lt-mul_of_pos_right, mul-pos, le_of_mul-le-mul_right, lt_of_mul-lt-mul_left, lt_of_mul-lt-mul_right}
use native.Mathlib.Decide.{dec_le}
use native.Mathlib.Omega.{arith}
use lib.Dec.{lit<}
use Rattle.roots.specs.Root.{IsRoot, root}
use Rattle.arith.proofs.Ring.{v, #, ◌⊗◌, ring_ℕ}
use Rattle.arith.proofs.NearestLaws.{Half, half_ℕ}
use Rattle.roots.proofs.RootLaws.{root_is, root-least}
use Rattle.formulas.specs.Rounding.{square_root, fourth_root, convected, fourth_power, power}
use Rattle.formulas.specs.Sizes.{placed_most, warmer_most}

-- ---- fourth powers keep the order, and that of a product is the product of the two
four-le : {a b : ℕ} → a ≤ b → fourth_power a ≤ fourth_power b
four-le h = mul-le-mul (mul-le-mul h h) (mul-le-mul h h)

four-pos : {a : ℕ} → 0 < a → 0 < fourth_power a
four-pos h = mul-pos (mul-pos h h) (mul-pos h h)

pub four_less : (a b : ℕ) → fourth_power a < fourth_power b → a < b
four_less a b h = go (dec_le b a)
  where
    go : Dec (b ≤ a) → a < b
    go (yes p) = let e : ⊥ = omega (arith, four-le p) in absurd e
    go (no f) = omega arith

scaled : (a b : ℕ) → fourth_power (a * b) ≡ fourth_power a * fourth_power b
scaled a b = ring_ℕ (a ∷ b ∷ []) (v 0 ⊗ v 1 ⊗ (v 0 ⊗ v 1) ⊗ (v 0 ⊗ v 1 ⊗ (v 0 ⊗ v 1))) (v 0 ⊗ v 0 ⊗ (v 0 ⊗ v 0) ⊗ (v 1 ⊗ v 1 ⊗ (v 1 ⊗ v 1))) tt

-- ---- r is the root of N, and s that of r B: the fourth power of s is not above N B², and where w is enough above k s, that of w is above k⁴ N B²
low-root : (N B r s : ℕ) → r * r ≤ N → s * s ≤ r * B → fourth_power s ≤ N * (B * B)
low-root N B r s h k =
    let e : r * B * (r * B) ≡ r * r * (B * B) = ring_ℕ (r ∷ B ∷ []) (v 0 ⊗ v 1 ⊗ (v 0 ⊗ v 1)) (v 0 ⊗ v 0 ⊗ (v 1 ⊗ v 1)) tt in
    le_trans (mul-le-mul k k) (subst (λ (x : ℕ). x ≤ N * (B * B)) (sym e) (mul-le-mul_right (B * B) h))

high-root : (N B r k w : ℕ) → 0 < B → 0 < k → N < suc r * suc r → k * k * (suc r * B) ≤ w * w → fourth_power k * (N * (B * B)) < fourth_power w
high-root N B r k w b p h l =
    let e : k * k * (suc r * B) * (k * k * (suc r * B)) ≡ fourth_power k * (suc r * suc r * (B * B)) =
    ring_ℕ (k ∷ suc r ∷ B ∷ []) (v 0 ⊗ v 0 ⊗ (v 1 ⊗ v 2) ⊗ (v 0 ⊗ v 0 ⊗ (v 1 ⊗ v 2))) (v 0 ⊗ v 0 ⊗ (v 0 ⊗ v 0) ⊗ (v 1 ⊗ v 1 ⊗ (v 2 ⊗ v 2))) tt in
    let less = mul-lt-mul_of_pos_left (mul-lt-mul_of_pos_right h (mul-pos b b)) (four-pos p) in
    lt_of_lt_of_le less (subst (λ (x : ℕ). x ≤ fourth_power w) e (mul-le-mul l l))

-- the greatest whole number whose fourth power is not above n
pub twice-below : (n : ℕ) → fourth_power (root (root n)) ≤ n
twice-below n = let r = root_is n in let s = root_is (root n) in omega (arith, low-root n 1 (root n) (root (root n)) r.below (omega (arith, s.below)))

pub twice-above : (n : ℕ) → n < fourth_power (root (root n) + 1)
twice-above n =
    let r = root_is n in
    let s = root_is (root n) in
    omega (arith, high-root n 1 (root n) 1 (root (root n) + 1) (lit< tt) (lit< tt) r.above (omega (arith, s.above)))

-- ---- times a factor A, in units of C: u units are not above A s, or k of them not below A w
low_term : (A M C s u : ℕ) → fourth_power s ≤ M → u * C ≤ A * s → fourth_power u * fourth_power C ≤ fourth_power A * M
low_term A M C s u h k =
    le_trans (subst (λ (x : ℕ). x ≤ fourth_power (A * s)) (scaled u C) (four-le k))
    (subst (λ (x : ℕ). x ≤ fourth_power A * M) (sym (scaled A s)) (mul-le-mul_left (fourth_power A) h))

high_term : (A M C k w u : ℕ) → 0 < A → fourth_power k * M < fourth_power w → A * w ≤ k * (u * C) → fourth_power A * M < fourth_power u * fourth_power C
high_term A M C k w u p h l =
    let turned : fourth_power A * (fourth_power k * M) ≡ fourth_power k * (fourth_power A * M) =
    ring_ℕ (fourth_power A ∷ fourth_power k ∷ M ∷ []) (v 0 ⊗ (v 1 ⊗ v 2)) (v 1 ⊗ (v 0 ⊗ v 2)) tt in
    let less : fourth_power A * (fourth_power k * M) < fourth_power A * fourth_power w = mul-lt-mul_of_pos_left h (four-pos p) in
    let most : fourth_power A * fourth_power w ≤ fourth_power k * (fourth_power u * fourth_power C) =
    rw (← scaled A w, ← scaled u C, ← scaled k (u * C)) (four-le l) in
    lt_of_mul-lt-mul_left (fourth_power k) (subst (λ (x : ℕ). x < fourth_power k * (fourth_power u * fourth_power C)) turned (lt_of_lt_of_le less most))

-- ---- THE TERM: what Δ and the first root are multiplied by, of how many parts a unit is made, and how many units above the term are too much
abbrev first : ℕ
first = 10 ^ 15

abbrev second : ℕ
second = 10 ^ 8

abbrev unit : ℕ
unit = 10 ^ 6

abbrev pub units : ℕ
units = 2

module _ (a Δ : ℕ) where
  abbrev A : ℕ
  A = a * Δ

  abbrev M : ℕ
  M = Δ * first * (second * second)

  half : Half (A * fourth_root Δ) unit (convected a Δ)
  half = half_ℕ (A * fourth_root Δ) (lit< tt)

  one : IsRoot (Δ * first) (square_root Δ)
  one = root_is (Δ * first)

  two : IsRoot (square_root Δ * second) (fourth_root Δ)
  two = root_is (square_root Δ * second)

  in_units : fourth_power A * M ≡ power a Δ * fourth_power unit
  in_units = ring_ℕ (fourth_power A ∷ Δ ∷ []) (v 0 ⊗ (v 1 ⊗ # first ⊗ (# second ⊗ # second))) (v 0 ⊗ v 1 ⊗ # (10 ^ 7) ⊗ # (fourth_power unit)) tt

  pub not-above : fourth_power (convected a Δ - 1) ≤ power a Δ
  not-above =
      let low = low-root (Δ * first) second (square_root Δ) (fourth_root Δ) one.below two.below in
      let u : (convected a Δ - 1) * unit ≤ A * fourth_root Δ = omega (arith, half.low) in
      le_of_mul-le-mul_right {k = fourth_power unit} (rw (← in_units) (low_term A M unit (fourth_root Δ) (convected a Δ - 1) low u)) (lit< tt)

  above-small : 1 ≤ Δ → 0 < A → A ≤ 750000 → fourth_power A * M < fourth_power (convected a Δ + units) * fourth_power unit
  above-small h p k =
      let r : second / 4 ≤ square_root Δ = root-least (second / 4) one (omega arith) in
      let s : second / 2 - 2 ≤ fourth_root Δ = root-least (second / 2 - 2) two (omega arith) in
      let high = high-root (Δ * first) second (square_root Δ) 1 (fourth_root Δ + 2) (lit< tt) (lit< tt) one.above (omega (arith, two.above)) in
      high_term A M unit 1 (fourth_root Δ + 2) (convected a Δ + units) p high (omega (arith, half.high))

  above_large : 2000 ≤ Δ → 0 < A → A ≤ 1200000 → fourth_power A * M < fourth_power (convected a Δ + units) * fourth_power unit
  above_large h p k =
      let r : 14 * second ≤ square_root Δ = root-least (14 * second) one (omega arith) in
      let s : 2 * second ≤ fourth_root Δ = root-least (2 * second) two (omega arith) in
      let high = high-root (Δ * first) second (square_root Δ) 4 (4 * fourth_root Δ + 5) (lit< tt) (lit< tt) one.above (omega (arith, two.above)) in
      high_term A M unit 4 (4 * fourth_root Δ + 5) (convected a Δ + units) p high (omega (arith, half.high))

  module _ (placed : a ≤ placed_most) (warmer : Δ ≤ warmer_most) where
    some-rise : 0 < A → 1 ≤ Δ
    some-rise p = go (dec_le 1 Δ)
      where
        go : Dec (1 ≤ Δ) → 1 ≤ Δ
        go (yes q) = q
        go (no f) = let none : Δ ≤ 0 = omega arith in omega (arith, mul-le-mul placed none)

    above-exact : 0 < A → fourth_power A * M < fourth_power (convected a Δ + units) * fourth_power unit
    above-exact p = go (dec_le Δ 2000)
      where
        go : Dec (Δ ≤ 2000) → fourth_power A * M < fourth_power (convected a Δ + units) * fourth_power unit
        go (yes q) = above-small (some-rise p) p (omega (arith, mul-le-mul placed q))
        go (no f) = above_large (omega arith) p (omega (arith, mul-le-mul placed warmer))

    pub above : power a Δ < fourth_power (convected a Δ + units)
    above = go (dec_le 1 A)
      where
        go : Dec (1 ≤ A) → power a Δ < fourth_power (convected a Δ + units)
        go (yes p) = lt_of_mul-lt-mul_right (fourth_power unit) (rw (← in_units) (above-exact p))
        go (no f) =
            let none : 0 ≡ A = omega arith in
            let some : 0 < fourth_power (convected a Δ + units) = four-pos (omega arith) in
            subst (λ (x : ℕ). fourth_power x * Δ * 10 ^ 7 < fourth_power (convected a Δ + units)) none (omega arith)
