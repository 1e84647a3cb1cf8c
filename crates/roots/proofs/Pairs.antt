-- A root by pairs of bits, from where no pair is brought down to where all are; one root and several side by side go by these laws. Assumes nothing.
use Prim.Native.Nat.{ℕ, zero, suc, ◌+◌, ◌*◌, ◌/◌, ◌%◌, ◌^◌, ◌-◌, ◌≤◌, ◌<◌}
use mathlib.Core.Path.{◌≡◌, sym}
use native.Mathlib.Nat.{mul-le-mul, div-add-mod, div-le_self, lt_of_lt_of_le, div-eq_of_lt}
use native.Mathlib.Decide.{dec_le}
use native.Mathlib.Omega.{arith}
use lib.Pow.{pow_mono, shr-shr, shr_lt, field, mod-mod-pow}
use lib.Count.{count_leading_zeros, leading_length}
use Rattle.roots.specs.Root.{root}
use Rattle.roots.specs.Steps.{Brought, Stepped, Short}
use Rattle.roots.proofs.RootLaws.{root_is, root-only}

-- above the highest pair that is not 0 there is nothing
pub none_brought : (n pairs : ℕ) → n < 2 ^ (2 * pairs) → Brought n pairs 0 0
none_brought n pairs h = record { all = sym (div-eq_of_lt h); least = omega arith }

pub highest : (n pairs : ℕ) → n < 2 ^ 64 → 64 ≤ count_leading_zeros 64 n + 2 * pairs → n < 2 ^ (2 * pairs)
highest n pairs h all =
    let l = leading_length 64 n h in
    let bits : l.0 ≤ 2 * pairs = omega (arith, l.1) in
    lt_of_lt_of_le l.2 (pow_mono bits)

-- a pair comes down to the number as it does to the rest
down : (n p : ℕ) → n / 2 ^ (2 * p) ≡ 4 * (n / 2 ^ (2 * (p + 1))) + n / 2 ^ (2 * p) % 4
down n p =
    let e : 2 * (p + 1) ≡ 2 * p + 2 = omega arith in
    let s : n / 2 ^ (2 * p) / 2 ^ 2 ≡ n / 2 ^ (2 * (p + 1)) = rw e (shr-shr n (2 * p) 2) in
    omega (arith, s, div-add-mod (n / 2 ^ (2 * p)) 4)

pub one_brought : {n p q r rest s left : ℕ} → q ≡ p + 1 → Brought n q r rest → Stepped (n / 2 ^ (2 * p) % 4) r rest s left → Brought n p s left
one_brought {n} {p} h b t = record { all = omega (arith, t.all, rw h at b.all, down n p); least = t.least }

-- the square is not above what is brought down
below : {n p r rest b : ℕ} → Brought n p r rest → n / 2 ^ (2 * p) < b * b → r < b
below {n} {p} {r} {rest} {b} x h = go (dec_le b r)
  where
    go : Dec (b ≤ r) → r < b
    go (yes q) = let f : ⊥ = omega (arith, x.all, h, mul-le-mul q q) in absurd f
    go (no f) = omega arith

pub small : {n p r rest : ℕ} → Brought n p r rest → n < 2 ^ 64 → r < 4294967296
small {n} {p} b h = below b (omega (arith, h, div-le_self n (2 ^ (2 * p))))

-- half the bits will do for a root of 31 pairs while two are left
pub short : {n p r rest : ℕ} → Brought n p r rest → 2 ≤ p → n < 2 ^ 62 → Short r rest
short {n} {p} b h k =
    let few : 62 ≤ 58 + 2 * p = omega arith in
    record { bits = below b (shr_lt 58 (2 * p) (lt_of_lt_of_le k (pow_mono few))); least = b.least }

-- a pair of 32 bits of a number is one of the number's
pair-mod : (m j k : ℕ) → m % 2 ^ (j + 2 + k) / 2 ^ k % 4 ≡ m / 2 ^ k % 4
pair-mod m j k = rw (field m (j + 2) k) (mod-mod-pow (m / 2 ^ k) j 2)

pub half-pair : (n half from to q : ℕ) → half ≡ n / 2 ^ from % 2 ^ 32 → from + 2 * q ≡ to → q < 16 → half / 2 ^ (2 * q) % 4 ≡ n / 2 ^ to % 4
half-pair n half from to q is bits h =
    let e : 30 - 2 * q + 2 + 2 * q ≡ 32 = omega arith in
    rw (is, ← bits) (rw (shr-shr n from (2 * q)) at (rw e at (pair-mod (n / 2 ^ from) (30 - 2 * q) (2 * q))))

-- no pair is left
pub all_brought : {n p r rest : ℕ} → p ≤ 0 → Brought n p r rest → r ≡ root n
all_brought {n} {p = zero} h b = root-only (record { below = omega (arith, b.all); above = omega (arith, b.all, b.least) }) (root_is n)
all_brought {n} {p = suc p} h b = absurd (let f : ⊥ = omega arith in f)

pub last_brought : {n r rest s left : ℕ} → Brought n 1 r rest → Stepped (n % 4) r rest s left → s ≡ root n
last_brought {n} b t =
    let all = div-add-mod n 4 in
    root-only (record { below = omega (arith, b.all, t.all, all); above = omega (arith, b.all, t.all, t.least, all) }) (root_is n)

-- the digit of a step, by the trial: 1 where it goes, or else 0
pub digit_one : {root rest pair next left : ℕ} → pair < 4 → rest ≤ 2 * root → root * 4 + 1 ≤ rest * 4 + pair → next ≡ root * 2 + 1
    → left ≡ rest * 4 + pair - (root * 4 + 1) → Stepped pair root rest next left
digit_one {root} {rest} {pair} p r t e f = record { all = rw (e, f) (grind arith); least = omega arith }

pub digit_zero : {root rest pair next left : ℕ} → pair < 4 → rest ≤ 2 * root → rest * 4 + pair < root * 4 + 1 → next ≡ root * 2 → left ≡ rest * 4 + pair
    → Stepped pair root rest next left
digit_zero {root} {rest} {pair} p r t e f = record { all = rw (e, f) (grind arith); least = omega arith }
