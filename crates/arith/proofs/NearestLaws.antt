-- Laws of `nearest`. All of them hold for any rule for ties that takes q or q + 1, so a change of that rule leaves them as they are.
-- Assumes nothing.
use mathlib.Core.Path.{◌≡◌, refl, sym, ap, ◌∙◌, subst}
use mathlib.Core.Logic.{◌⊎◌, inl, inr}
use mathlib.Core.Bool.{Bool, true, false, cond}
use mathlib.Core.List.{[], ◌∷◌}
use Prim.Native.Nat.{ℕ, zero, suc, ◌+◌, ◌*◌, ◌/◌, ◌%◌, ◌-◌, ◌≤◌, ◌<◌}
use native.Mathlib.Nat.{mul-le-mul_left, mul-le-mul_right, mul-lt-mul_of_pos_left, le_refl, div-add-mod, mod-lt, mul-div-mul_left, mod-eq-sub-mul-div, mul-sub, mul_assoc, mul-pos, zero-lt-suc}
use native.Mathlib.Decide.{dec_le}
use native.Mathlib.Omega.{arith}
use borrow.Author.Tests.{ltb-true, ltb-false, lt-ltb, le-ltb}
use lib.Dec.{ltb, lit<}
use lib.IntN.{ℤ, pos, negsuc, neg_ℤ, nat_abs, ◌-ℤ◌, ◌*ℤ◌, neg_ℤ-neg_ℤ, ℤ_discrete, +ℤ_invr, *ℤ-zero}
use lib.Signed.{◌≤ℤ◌}
use Rattle.arith.specs.Nearest.{tie, settled, nearest_ℕ, nearest}
use Rattle.arith.proofs.Int.{up, dn, eq↓, le↓}
use Rattle.arith.proofs.Ring.{v, ◌⊖◌, ◌⊗◌, ⊝, ring}
use Rattle.arith.proofs.Order.{arithℤ, parts, abs_is, abs_neg, abs-sub, abs-mul, neg_ℤ_anti}

-- ---- all that the laws ask of the rule for ties
tie-low : (q : ℕ) → q ≤ tie q
unfolding tie
tie-low q = omega arith

tie-high : (q : ℕ) → tie q ≤ suc q
unfolding tie
tie-high q = let two : 0 < 2 = lit< tt in omega (arith, mod-lt q two)

-- ---- sizes: the quotient is no further than a half
pub record Half (n d N : ℕ) : Type 0 where
  pub low : 2 * (d * N) ≤ 2 * n + d
  pub high : 2 * n ≤ 2 * (d * N) + d

settled-half : (n d q over short : ℕ) → d * q + over ≡ n → over + short ≡ d → Half n d (settled q over short)
settled-half n d q over short e f = go (ltb over short) refl (ltb short over) refl
  where
    go : (s : Bool) → ltb over short ≡ s → (t : Bool) → ltb short over ≡ t → Half n d (cond s q (cond t (suc q) (tie q)))
    go true p t r = record { low = omega arith; high = omega (arith, ltb-true over short p) }
    go false p true r = record { low = omega (arith, ltb-true short over r); high = omega arith }
    go false p false r = record {
      low = omega (arith, ltb-false over short p, ltb-false short over r, mul-le-mul_left d (tie-high q));
      high = omega (arith, ltb-false over short p, ltb-false short over r, mul-le-mul_left d (tie-low q));
    }

pub half_ℕ : (n : ℕ) {d : ℕ} → 0 < d → Half n d (nearest_ℕ n d)
unfolding nearest_ℕ
half_ℕ n {d} h = settled-half n d (n / d) (n % d) (d - n % d) (div-add-mod n d) (omega (arith, mod-lt n h))

-- a size that no other can reach: N(n) ≤ B where n is nearer to d·B than d·(B + 1)
pub atmost_ℕ : (n : ℕ) {d : ℕ} (B : ℕ) → 0 < d → 2 * n < 2 * (d * B) + d → nearest_ℕ n d ≤ B
atmost_ℕ n {d} B h k = go (dec_le (nearest_ℕ n d) B)
  where
    go : Dec (nearest_ℕ n d ≤ B) → nearest_ℕ n d ≤ B
    go (yes p) = p
    go (no f) = let g : suc B ≤ nearest_ℕ n d = omega arith in let e : ⊥ = omega (arith, (half_ℕ n h).low, mul-le-mul_left d g) in absurd e

pub small_ℕ : (n : ℕ) {d : ℕ} → 0 < d → nearest_ℕ n d ≤ n
small_ℕ n {d} h = atmost_ℕ n n h (omega (arith, mul-le-mul_right n h))

zero_ℕ : {d : ℕ} → 0 < d → nearest_ℕ 0 d ≡ 0
zero_ℕ h = omega (arith, small_ℕ 0 h)

mono_ℕ : (m n : ℕ) {d : ℕ} → 0 < d → m ≤ n → nearest_ℕ m d ≤ nearest_ℕ n d
mono_ℕ m n {d} h k = go (dec_le (nearest_ℕ m d) (nearest_ℕ n d))
  where
    go : Dec (nearest_ℕ m d ≤ nearest_ℕ n d) → nearest_ℕ m d ≤ nearest_ℕ n d
    go (yes p) = p
    go (no f) =
        let g : suc (nearest_ℕ n d) ≤ nearest_ℕ m d = omega arith in
        let e : m ≡ n = omega (arith, (half_ℕ m h).low, (half_ℕ n h).high, mul-le-mul_left d g) in
        rw e (le_refl (nearest_ℕ n d))

-- a fraction may be expanded
ltb-scaled : (a b : ℕ) {k : ℕ} → 0 < k → ltb (k * a) (k * b) ≡ ltb a b
ltb-scaled a b {k} h = go (ltb a b) refl
  where
    go : (t : Bool) → ltb a b ≡ t → ltb (k * a) (k * b) ≡ t
    go true e = lt-ltb (k * a) (k * b) (mul-lt-mul_of_pos_left (ltb-true a b e) h)
    go false e = le-ltb (k * a) (k * b) (mul-le-mul_left k (ltb-false a b e))

mod-scaled : (n d : ℕ) {k : ℕ} → 0 < k → k * n % (k * d) ≡ k * (n % d)
mod-scaled n d {k} h = mod-eq-sub-mul-div (k * n) (k * d) ∙ rw (mul-div-mul_left {m = k} n d h, mul_assoc, ← mul-sub, ← mod-eq-sub-mul-div) refl

scaled_ℕ : (n d : ℕ) {k : ℕ} → 0 < k → nearest_ℕ (k * n) (k * d) ≡ nearest_ℕ n d
unfolding nearest_ℕ
scaled_ℕ n d {k} h =
    rw (mul-div-mul_left {m = k} n d h, mod-scaled n d h, ← mul-sub, ltb-scaled (n % d) (d - n % d) h, ltb-scaled (d - n % d) (n % d) h) refl

-- ---- integers
pub nearest-abs : (n : ℤ) (d : ℕ) → nat_abs (nearest n d) ≡ nearest_ℕ (nat_abs n) d
unfolding nearest
nearest-abs (pos n) d = refl
nearest-abs (negsuc n) d = abs_neg (pos (nearest_ℕ (suc n) d))

-- the sign stays
pub nearest-neg : (n : ℤ) {d : ℕ} → 0 < d → nearest (neg_ℤ n) d ≡ neg_ℤ (nearest n d)
unfolding nearest
nearest-neg (pos zero) h = ap pos (zero_ℕ h) ∙ sym (ap (λ (k : ℕ). neg_ℤ (pos k)) (zero_ℕ h))
nearest-neg (pos (suc n)) h = refl
nearest-neg (negsuc n) {d} h = sym (neg_ℤ-neg_ℤ (pos (nearest_ℕ (suc n) d)))

minus-size : (m d : ℕ) → 0 < m → nearest (neg_ℤ (pos m)) d ≡ neg_ℤ (pos (nearest_ℕ m d))
unfolding nearest
minus-size zero d h = absurd (omega arith)
minus-size (suc m) d h = refl

-- the same fraction, expanded by k
pub nearest-scaled : (x : ℤ) (d : ℕ) {k : ℕ} → 0 < k → nearest (pos k *ℤ x) (k * d) ≡ nearest x d
unfolding nearest
nearest-scaled (pos n) d {k} h = ap pos (scaled_ℕ n d h)
nearest-scaled (negsuc n) d {k} h = minus-size (k * suc n) (k * d) (mul-pos h (zero-lt-suc n)) ∙ ap (λ (q : ℕ). neg_ℤ (pos q)) (scaled_ℕ (suc n) d h)

-- its size: not above the dividend's, and at most B where the dividend's is at most N
pub nearest-small : (n : ℤ) {d : ℕ} → 0 < d → nat_abs (nearest n d) ≤ nat_abs n
nearest-small n {d} h = omega (arith, nearest-abs n d, small_ℕ (nat_abs n) h)

pub nearest-bound : (n : ℤ) {d N B : ℕ} → 0 < d → nat_abs n ≤ N → 2 * N < 2 * (d * B) + d → nat_abs (nearest n d) ≤ B
nearest-bound n {d} {N} {B} h k l = omega (arith, nearest-abs n d, atmost_ℕ (nat_abs n) B h (omega arith))

-- c·|x| ≤ K, where x is a − b
abs-within : (x : ℤ) (a b c K : ℕ) → up x + b ≡ a + dn x → c * a ≤ c * b + K → c * b ≤ c * a + K → c * nat_abs x ≤ K
abs-within (pos n) a b c K r h k = omega (arith, ap (λ (t : ℕ). c * t) r)
abs-within (negsuc n) a b c K r h k = omega (arith, ap (λ (t : ℕ). c * t) r)

-- the error is at most a half
pub nearest_error : (n : ℤ) {d : ℕ} → 0 < d → 2 * nat_abs (n -ℤ pos d *ℤ nearest n d) ≤ d
unfolding nearest
nearest_error (pos n) {d} h =
    let N = nearest_ℕ n d in
    abs-within (pos n -ℤ pos (d * N)) n (d * N) 2 d (omega (arith, parts (pos n ∷ pos (d * N) ∷ []) (v 0 ⊖ v 1))) (half_ℕ n h).high (half_ℕ n h).low
nearest_error (negsuc n) {d} h =
    let N = nearest_ℕ (suc n) d in
    abs-within (negsuc n -ℤ pos d *ℤ neg_ℤ (pos N)) (d * N) (suc n) 2 d (omega (arith, parts (negsuc n ∷ pos d ∷ pos N ∷ []) (v 0 ⊖ v 1 ⊗ ⊝ (v 2))))
    (half_ℕ (suc n) h).low (half_ℕ (suc n) h).high

-- two integers are equal, or at least one apart
apart : (q r : ℤ) → (q ≡ r) ⊎ (1 ≤ nat_abs (r -ℤ q))
apart q r = go (ℤ_discrete q r)
  where
    go : Dec (q ≡ r) → (q ≡ r) ⊎ (1 ≤ nat_abs (r -ℤ q))
    go (yes e) = inl e
    go (no f) = inr (some (dec_le 1 (nat_abs (r -ℤ q))))
      where
        some : Dec (1 ≤ nat_abs (r -ℤ q)) → 1 ≤ nat_abs (r -ℤ q)
        some (yes p) = p
        some (no g) = absurd (f (eq↓ (omega (arith, g, parts (q ∷ r ∷ []) (v 1 ⊖ v 0), abs_is (r -ℤ q)))))

-- the triangle: d·|r − q| ≤ |n − d·q| + |n − d·r|
spread : (n : ℤ) (d : ℕ) (q r : ℤ) → d * nat_abs (r -ℤ q) ≤ nat_abs (n -ℤ pos d *ℤ q) + nat_abs (n -ℤ pos d *ℤ r)
spread n d q r =
    subst (λ (t : ℕ). t ≤ nat_abs (n -ℤ pos d *ℤ q) + nat_abs (n -ℤ pos d *ℤ r))
    (ap nat_abs (ring (n ∷ pos d ∷ q ∷ r ∷ []) (v 0 ⊖ v 1 ⊗ v 2 ⊖ (v 0 ⊖ v 1 ⊗ v 3)) (v 1 ⊗ (v 3 ⊖ v 2)) tt) ∙ abs-mul (pos d) (r -ℤ q))
    (abs-sub (n -ℤ pos d *ℤ q) (n -ℤ pos d *ℤ r))

-- no number is nearer
pub nothing-nearer : (n : ℤ) {d : ℕ} → 0 < d → (q : ℤ) → nat_abs (n -ℤ pos d *ℤ nearest n d) ≤ nat_abs (n -ℤ pos d *ℤ q)
nothing-nearer n {d} h q = go (apart q (nearest n d))
  where
    go : (q ≡ nearest n d) ⊎ (1 ≤ nat_abs (nearest n d -ℤ q)) → nat_abs (n -ℤ pos d *ℤ nearest n d) ≤ nat_abs (n -ℤ pos d *ℤ q)
    go (inl e) = subst (λ (z : ℤ). nat_abs (n -ℤ pos d *ℤ nearest n d) ≤ nat_abs (n -ℤ pos d *ℤ z)) (sym e) (le_refl (nat_abs (n -ℤ pos d *ℤ nearest n d)))
    go (inr k) = omega (arith, nearest_error n h, spread n d q (nearest n d), mul-le-mul_left d k)

-- and none but at a tie is as near: what is nearer than a half is that number
pub nearest-only : (n : ℤ) {d : ℕ} → 0 < d → (q : ℤ) → 2 * nat_abs (n -ℤ pos d *ℤ q) < d → q ≡ nearest n d
nearest-only n {d} h q k = go (apart q (nearest n d))
  where
    go : (q ≡ nearest n d) ⊎ (1 ≤ nat_abs (nearest n d -ℤ q)) → q ≡ nearest n d
    go (inl e) = e
    go (inr j) = let e : ⊥ = omega (arith, nearest_error n h, spread n d q (nearest n d), mul-le-mul_left d j) in absurd e

pub nearest-exact : (q : ℤ) {d : ℕ} → 0 < d → nearest (pos d *ℤ q) d ≡ q
nearest-exact q {d} h = sym (nearest-only (pos d *ℤ q) h q (subst (λ (z : ℤ). 2 * nat_abs z < d) (sym (+ℤ_invr (pos d *ℤ q))) h))

pub nearest_mono : (m n : ℤ) {d : ℕ} → 0 < d → m ≤ℤ n → nearest m d ≤ℤ nearest n d
unfolding nearest
nearest_mono (pos m) (pos n) {d} h k = le↓ (omega (arith, mono_ℕ m n h (omega arithℤ)))
nearest_mono (pos m) (negsuc n) {d} h k = absurd k.le
nearest_mono (negsuc m) (pos n) {d} h k = omega (arithℤ, parts (pos (nearest_ℕ (suc m) d) ∷ []) (⊝ (v 0)))
nearest_mono (negsuc m) (negsuc n) {d} h k =
    neg_ℤ_anti {a = pos (nearest_ℕ (suc n) d)} {b = pos (nearest_ℕ (suc m) d)} (le↓ (omega (arith, mono_ℕ (suc n) (suc m) h (omega arithℤ))))

-- so it is at most k where n ≤ d·k, and at least k where d·k ≤ n
pub nearest-le : (n k : ℤ) {d : ℕ} → 0 < d → n ≤ℤ (pos d *ℤ k) → nearest n d ≤ℤ k
nearest-le n k {d} h l = subst (λ (z : ℤ). nearest n d ≤ℤ z) (nearest-exact k h) (nearest_mono n (pos d *ℤ k) h l)

pub nearest_ge : (n k : ℤ) {d : ℕ} → 0 < d → (pos d *ℤ k) ≤ℤ n → k ≤ℤ nearest n d
nearest_ge n k {d} h l = subst (λ (z : ℤ). z ≤ℤ nearest n d) (nearest-exact k h) (nearest_mono (pos d *ℤ k) n h l)

pub nearest_nonneg : (n : ℤ) {d : ℕ} → 0 < d → pos 0 ≤ℤ n → pos 0 ≤ℤ nearest n d
nearest_nonneg n {d} h l = nearest_ge n (pos 0) h (subst (λ (z : ℤ). z ≤ℤ n) (sym (*ℤ-zero (pos d))) l)

-- ---- a half goes to the even one of the two
two : 0 < 2
two = lit< tt

tie_even : (q : ℕ) → tie q % 2 ≡ 0
unfolding tie
tie_even q = let s = div-add-mod q 2 in let t = div-add-mod (q + q % 2) 2 in omega (arith, mod-lt q two, mod-lt (q + q % 2) two)

-- where what is left over and what is wanting are not the same, the nearest is nearer than a half
even_ℕ : (n : ℕ) {d : ℕ} → 0 < d → 2 * nat_abs (pos n -ℤ pos (d * nearest_ℕ n d)) ≡ d → nearest_ℕ n d % 2 ≡ 0
unfolding nearest_ℕ
even_ℕ n {d} h = go (ltb (n % d) (d - n % d)) refl (ltb (d - n % d) (n % d)) refl
  where
    nearer : (q : ℕ) → 2 * n < 2 * (d * q) + d → 2 * (d * q) < 2 * n + d → 2 * nat_abs (pos n -ℤ pos (d * q)) ≤ d - 1
    nearer q l m =
        let apart = parts (pos n ∷ pos (d * q) ∷ []) (v 0 ⊖ v 1) in
        abs-within (pos n -ℤ pos (d * q)) n (d * q) 2 (d - 1) (omega (arith, apart)) (omega arith) (omega arith)

    chosen : Bool → Bool → ℕ
    chosen s t = cond s (n / d) (cond t (suc (n / d)) (tie (n / d)))

    go : (s : Bool) → ltb (n % d) (d - n % d) ≡ s → (t : Bool) → ltb (d - n % d) (n % d) ≡ t
        → 2 * nat_abs (pos n -ℤ pos (d * chosen s t)) ≡ d → chosen s t % 2 ≡ 0
    go true p t r e =
        let a = ltb-true (n % d) (d - n % d) p in let b = div-add-mod n d in
        let w : ⊥ = omega (arith, nearer (n / d) (omega arith) (omega arith)) in absurd w
    go false p true r e =
        let a = ltb-true (d - n % d) (n % d) r in let b = div-add-mod n d in let c = mod-lt n h in
        let w : ⊥ = omega (arith, nearer (suc (n / d)) (omega arith) (omega arith)) in absurd w
    go false p false r e = tie_even (n / d)

-- n − d·N has the size of |n| − d·|N|
same_size : (n : ℤ) (d : ℕ) → nat_abs (n -ℤ pos d *ℤ nearest n d) ≡ nat_abs (pos (nat_abs n) -ℤ pos (d * nearest_ℕ (nat_abs n) d))
unfolding nearest
same_size (pos n) d = refl
same_size (negsuc n) d =
    let N = nearest_ℕ (suc n) d in
    ap nat_abs (ring (pos (suc n) ∷ pos d ∷ pos N ∷ []) (⊝ (v 0) ⊖ v 1 ⊗ ⊝ (v 2)) (⊝ (v 0 ⊖ v 1 ⊗ v 2)) tt) ∙ abs_neg (pos (suc n) -ℤ pos (d * N))

-- WHERE n IS EXACTLY HALF-WAY, THE RESULT IS EVEN
pub ties_even : (n : ℤ) {d : ℕ} → 0 < d → 2 * nat_abs (n -ℤ pos d *ℤ nearest n d) ≡ d → nat_abs (nearest n d) % 2 ≡ 0
ties_even n {d} h e = rw (nearest-abs n d) (even_ℕ (nat_abs n) h (ap (λ (m : ℕ). 2 * m) (sym (same_size n d)) ∙ e))

even_apart : (q r : ℤ) → nat_abs q % 2 ≡ 0 → nat_abs r % 2 ≡ 0 → nat_abs (r -ℤ q) ≤ 1 → q ≡ r
even_apart q r a b h =
    let s = div-add-mod (nat_abs q) 2 in let t = div-add-mod (nat_abs r) 2 in
    eq↓ (omega (arith, abs_is q, abs_is r, abs_is (r -ℤ q), parts (q ∷ r ∷ []) (v 1 ⊖ v 0)))

at_most_one : (k : ℕ) {d : ℕ} → 0 < d → d * k ≤ d → k ≤ 1
at_most_one k {d} h l = go (dec_le k 1)
  where
    go : Dec (k ≤ 1) → k ≤ 1
    go (yes p) = p
    go (no f) = let g : 2 ≤ k = omega arith in let e : ⊥ = omega (arith, mul-le-mul_left d g) in absurd e

-- and it is the only one of the two neighbours that is
pub ties_only : (n : ℤ) {d : ℕ} → 0 < d → (q : ℤ) → 2 * nat_abs (n -ℤ pos d *ℤ q) ≡ d → nat_abs q % 2 ≡ 0 → q ≡ nearest n d
ties_only n {d} h q e a = go (apart q (nearest n d))
  where
    go : (q ≡ nearest n d) ⊎ (1 ≤ nat_abs (nearest n d -ℤ q)) → q ≡ nearest n d
    go (inl f) = f
    go (inr j) =
        let s = spread n d q (nearest n d) in let m = mul-le-mul_left d j in
        let half : 2 * nat_abs (n -ℤ pos d *ℤ nearest n d) ≡ d = omega (arith, nearest_error n h) in
        even_apart q (nearest n d) a (ties_even n h half) (at_most_one (nat_abs (nearest n d -ℤ q)) h (omega arith))
