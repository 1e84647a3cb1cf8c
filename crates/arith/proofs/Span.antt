-- Ranges of integers: the least and the greatest, and the range of a sum, a difference, a product, a quotient, a remainder and a shift from
-- the ranges of what it is made of. `Machine` uses them to show that what a program computes fits its width. Assumes nothing.
use mathlib.Core.Path.{◌≡◌, refl, sym, subst, ◌∙◌}
use mathlib.Core.Logic.{◌≢◌, ◌⊎◌, inl, inr}
use mathlib.Core.Bool.{Bool, true, false, cond, ◌||◌}
use mathlib.Core.List.{[], ◌∷◌}
use Prim.Native.Nat.{ℕ, zero, suc, ◌-◌, ◌/◌, ◌≤◌, ◌<◌, min, max}
use native.Mathlib.Nat.{le_trans, le-div_iff_mul-le, div-mul-le_self, div-zero, zero-lt-suc}
use native.Mathlib.Omega.{arith}
use lib.Dec.{T, eqb, eqb→eq}
use lib.IntN.{ℤ, pos, negsuc, neg_ℤ, nat_abs, ◌+ℤ◌, ◌-ℤ◌, ◌*ℤ◌}
use lib.Signed.{◌≤ℤ◌, quot_z, rem_z, shr_z, le_z, le_z_yes, ≤ℤ_refl}
use Rattle.arith.proofs.Ring.{v, #, ◌⊗◌, ⊝}
use Rattle.arith.proofs.Order.{arithℤ, parts, le_z_true, le_z_false, <ℤ→≤ℤ, ≤ℤ-trans, ≤ℤ-antisym, ≤ℤ-total, +ℤ-mono, neg_ℤ_anti, *ℤ-monoˡ, *ℤ-monoʳ, le-abs, ge_abs, abs_is, bound-quot, abs-rem, abs-rem-lt}
use Rattle.arith.proofs.Int.{le↑, le↓, eq↑}
use Rattle.arith.proofs.Lin.{leq, prd, below}

-- ---- the lower and the upper of two numbers
abbrev pub lower : ℤ → ℤ → ℤ
lower a b = cond (le_z a b) a b

abbrev pub upper : ℤ → ℤ → ℤ
upper a b = cond (le_z a b) b a

lower-both : (a b : ℤ) → (lower a b ≤ℤ a) × (lower a b ≤ℤ b)
lower-both a b = go (le_z a b) (λ e. le_z_true e) (λ e. <ℤ→≤ℤ (le_z_false e))
  where
    go : (t : Bool) → (t ≡ true → a ≤ℤ b) → (t ≡ false → b ≤ℤ a) → (cond t a b ≤ℤ a) × (cond t a b ≤ℤ b)
    go true f g = (≤ℤ_refl a, f refl)
    go false f g = (g refl, ≤ℤ_refl b)

upper-both : (a b : ℤ) → (a ≤ℤ upper a b) × (b ≤ℤ upper a b)
upper-both a b = go (le_z a b) (λ e. le_z_true e) (λ e. <ℤ→≤ℤ (le_z_false e))
  where
    go : (t : Bool) → (t ≡ true → a ≤ℤ b) → (t ≡ false → b ≤ℤ a) → (a ≤ℤ cond t b a) × (b ≤ℤ cond t b a)
    go true f g = (f refl, ≤ℤ_refl b)
    go false f g = (≤ℤ_refl a, g refl)

-- ---- ranges: the least and the greatest
abbrev pub Span : Type 0
Span = ℤ × ℤ

pub record In (x : ℤ) (s : Span) : Type 0 where
  pub low : s.0 ≤ℤ x
  pub high : x ≤ℤ s.1

abbrev pub add-span : Span → Span → Span
add-span s t = (s.0 +ℤ t.0, s.1 +ℤ t.1)

abbrev pub sub-span : Span → Span → Span
sub-span s t = (s.0 -ℤ t.1, s.1 -ℤ t.0)

-- of the four products of the ends
abbrev pub four : ℤ → ℤ → ℤ → ℤ → Span
four p q r s = (lower (lower p q) (lower r s), upper (upper p q) (upper r s))

abbrev pub mul-span : Span → Span → Span
mul-span s t = four (s.0 *ℤ t.0) (s.0 *ℤ t.1) (s.1 *ℤ t.0) (s.1 *ℤ t.1)

-- the larger size of the two ends, and all numbers of at most a size
abbrev pub far : Span → ℕ
far s = max (nat_abs s.0) (nat_abs s.1)

abbrev pub around : ℕ → Span
around B = (neg_ℤ (pos B), pos B)

-- 0 is not among them
abbrev pub nonzero : Span → Bool
nonzero s = le_z (pos 1) s.0 || le_z s.1 (negsuc 0)

-- the positive number that is the only one, or 0 where there is none such
abbrev pub only : Span → ℕ
only (pos a, pos b) = cond (eqb a b) a 0
only (pos a, negsuc b) = 0
only (negsuc a, b) = 0

-- by one positive number, or by any
abbrev pub quot-by : ℕ → Span → Span
quot-by zero s = around (far s)
quot-by (suc k) s = (quot_z s.0 (pos (suc k)), quot_z s.1 (pos (suc k)))

abbrev pub quot-span : Span → Span → Span
quot-span s t = quot-by (only t) s

-- below the divisor, where that is not 0
abbrev pub rem-span : Span → Span → Span
rem-span s t = around (cond (nonzero t) (min (far s) (far t - 1)) (far s))

-- rounded down
abbrev pub shr-span : ℕ → Span → Span
shr-span m s = (shr_z s.0 m, shr_z s.1 m)

pub add_in : {x y : ℤ} {s t : Span} → In x s → In y t → In (x +ℤ y) (add-span s t)
add_in p q = record { low = +ℤ-mono p.low q.low; high = +ℤ-mono p.high q.high }

pub sub_in : {x y : ℤ} {s t : Span} → In x s → In y t → In (x -ℤ y) (sub-span s t)
sub_in p q = record { low = +ℤ-mono p.low (neg_ℤ_anti q.high); high = +ℤ-mono p.high (neg_ℤ_anti q.low) }

-- a product by a number that is not positive turns the order
turnˡ : {a x c : ℤ} → c ≤ℤ pos 0 → a ≤ℤ x → (c *ℤ x) ≤ℤ (c *ℤ a)
turnˡ {a} {x} {c} h k = below (a ∷ x ∷ c ∷ []) 0 (prd (leq 1 (v 2) (# 0)) (leq 1 (v 0) (v 1)) ∷ []) (v 2 ⊗ v 1) (v 2 ⊗ v 0) tt (h, k)

turnʳ : {a x c : ℤ} → c ≤ℤ pos 0 → a ≤ℤ x → (x *ℤ c) ≤ℤ (a *ℤ c)
turnʳ {a} {x} {c} h k = below (a ∷ x ∷ c ∷ []) 0 (prd (leq 1 (v 2) (# 0)) (leq 1 (v 0) (v 1)) ∷ []) (v 1 ⊗ v 2) (v 0 ⊗ v 2) tt (h, k)

-- a·y lies between a·c and a·d
side : (a : ℤ) {y c d : ℤ} → c ≤ℤ y → y ≤ℤ d → (lower (a *ℤ c) (a *ℤ d) ≤ℤ (a *ℤ y)) × ((a *ℤ y) ≤ℤ upper (a *ℤ c) (a *ℤ d))
side a {y} {c} {d} h k = go (≤ℤ-total (pos 0) a)
  where
    go : (pos 0 ≤ℤ a) ⊎ (a ≤ℤ pos 0) → (lower (a *ℤ c) (a *ℤ d) ≤ℤ (a *ℤ y)) × ((a *ℤ y) ≤ℤ upper (a *ℤ c) (a *ℤ d))
    go (inl p) = (≤ℤ-trans (lower-both (a *ℤ c) (a *ℤ d)).0 (*ℤ-monoˡ p h), ≤ℤ-trans (*ℤ-monoˡ p k) (upper-both (a *ℤ c) (a *ℤ d)).1)
    go (inr p) = (≤ℤ-trans (lower-both (a *ℤ c) (a *ℤ d)).1 (turnˡ p k), ≤ℤ-trans (turnˡ p h) (upper-both (a *ℤ c) (a *ℤ d)).0)

pub mul_in : {x y : ℤ} {s t : Span} → In x s → In y t → In (x *ℤ y) (mul-span s t)
mul_in {x} {y} {s} {t} p q = go (≤ℤ-total (pos 0) y)
  where
    a : ℤ
    a = s.0

    b : ℤ
    b = s.1

    A : (lower (a *ℤ t.0) (a *ℤ t.1) ≤ℤ (a *ℤ y)) × ((a *ℤ y) ≤ℤ upper (a *ℤ t.0) (a *ℤ t.1))
    A = side a q.low q.high

    B : (lower (b *ℤ t.0) (b *ℤ t.1) ≤ℤ (b *ℤ y)) × ((b *ℤ y) ≤ℤ upper (b *ℤ t.0) (b *ℤ t.1))
    B = side b q.low q.high

    L : (lower (lower (a *ℤ t.0) (a *ℤ t.1)) (lower (b *ℤ t.0) (b *ℤ t.1)) ≤ℤ lower (a *ℤ t.0) (a *ℤ t.1))
        × (lower (lower (a *ℤ t.0) (a *ℤ t.1)) (lower (b *ℤ t.0) (b *ℤ t.1)) ≤ℤ lower (b *ℤ t.0) (b *ℤ t.1))
    L = lower-both (lower (a *ℤ t.0) (a *ℤ t.1)) (lower (b *ℤ t.0) (b *ℤ t.1))

    U : (upper (a *ℤ t.0) (a *ℤ t.1) ≤ℤ upper (upper (a *ℤ t.0) (a *ℤ t.1)) (upper (b *ℤ t.0) (b *ℤ t.1)))
        × (upper (b *ℤ t.0) (b *ℤ t.1) ≤ℤ upper (upper (a *ℤ t.0) (a *ℤ t.1)) (upper (b *ℤ t.0) (b *ℤ t.1)))
    U = upper-both (upper (a *ℤ t.0) (a *ℤ t.1)) (upper (b *ℤ t.0) (b *ℤ t.1))

    go : (pos 0 ≤ℤ y) ⊎ (y ≤ℤ pos 0) → In (x *ℤ y) (mul-span s t)
    go (inl h) = record { low = ≤ℤ-trans L.0 (≤ℤ-trans A.0 (*ℤ-monoʳ h p.low)); high = ≤ℤ-trans (*ℤ-monoʳ h p.high) (≤ℤ-trans B.1 U.1) }
    go (inr h) = record { low = ≤ℤ-trans L.1 (≤ℤ-trans B.0 (turnʳ h p.high)); high = ≤ℤ-trans (turnʳ h p.low) (≤ℤ-trans A.1 U.0) }

pub far-is : (x : ℤ) {s : Span} → In x s → nat_abs x ≤ far s
far-is (pos n) {s} p = omega (arith, le↑ p.high, abs_is s.1)
far-is (negsuc n) {s} p = omega (arith, le↑ p.low, abs_is s.0)

pub around_in : {x : ℤ} {B : ℕ} → nat_abs x ≤ B → In x (around B)
around_in h = record { low = ge_abs h; high = le-abs h }

div_mono : {a b : ℕ} (k : ℕ) → a ≤ b → a / suc k ≤ b / suc k
div_mono {a} {b} k h = (le-div_iff_mul-le {k = suc k} (zero-lt-suc k)).1 (le_trans (div-mul-le_self a (suc k)) h)

quot_mono : (x y : ℤ) (k : ℕ) → x ≤ℤ y → quot_z x (pos (suc k)) ≤ℤ quot_z y (pos (suc k))
quot_mono (pos m) (pos n) k h = le↓ (omega (arith, div_mono {a = m} {b = n} k (omega arithℤ)))
quot_mono (pos m) (negsuc n) k h = absurd h.le
quot_mono (negsuc m) (pos n) k h = omega (arithℤ, parts (pos (suc m / suc k) ∷ []) (⊝ (v 0)))
quot_mono (negsuc m) (negsuc n) k h = neg_ℤ_anti {a = pos (suc n / suc k)} {b = pos (suc m / suc k)}
    (le↓ (omega (arith, div_mono {a = suc n} {b = suc m} k (omega arithℤ))))

shr-div : {a b : ℕ} (m : ℕ) → a ≤ b → a / m ≤ b / m
shr-div {a} {b} zero h = omega (arith, div-zero a)
shr-div (suc k) h = div_mono k h

shr_mono : (x y : ℤ) (m : ℕ) → x ≤ℤ y → shr_z x m ≤ℤ shr_z y m
shr_mono (pos a) (pos b) m h = le↓ (omega (arith, shr-div {a = a} {b = b} m (omega arithℤ)))
shr_mono (pos a) (negsuc b) m h = absurd h.le
shr_mono (negsuc a) (pos b) m h = omega arithℤ
shr_mono (negsuc a) (negsuc b) m h = le↓ (omega (arith, shr-div {a = b} {b = a} m (omega arithℤ)))

pub shr_in : {x : ℤ} {s : Span} (m : ℕ) → In x s → In (shr_z x m) (shr-span m s)
shr_in {x} {s} m p = record { low = shr_mono s.0 x m p.low; high = shr_mono x s.1 m p.high }

only-is : {y : ℤ} {t : Span} (k : ℕ) → only t ≡ suc k → In y t → y ≡ pos (suc k)
only-is {y} {t = (pos a, pos b)} k e p = go (eqb a b) refl e
  where
    go : (u : Bool) → eqb a b ≡ u → cond u a 0 ≡ suc k → y ≡ pos (suc k)
    go true q e =
        let f : a ≡ b = eqb→eq a b (subst T (sym q) tt) in
        ≤ℤ-antisym (subst (λ (n : ℕ). y ≤ℤ pos n) (sym f ∙ e) p.high) (subst (λ (n : ℕ). pos n ≤ℤ y) e p.low)
    go false q e = absurd (omega arith)
only-is {t = (pos a, negsuc b)} k e p = absurd (omega arith)
only-is {t = (negsuc a, b)} k e p = absurd (omega arith)

pub quot_in : {x y : ℤ} {s t : Span} → In x s → In y t → In (quot_z x y) (quot-span s t)
quot_in {x} {y} {s} {t} p q = go (only t) (λ k e. only-is k e q)
  where
    go : (k : ℕ) → ((j : ℕ) → k ≡ suc j → y ≡ pos (suc j)) → In (quot_z x y) (quot-by k s)
    go zero f = around_in (bound-quot x y (far-is x p))
    go (suc k) f = subst (λ (z : ℤ). In (quot_z x z) (quot-by (suc k) s)) (sym (f k refl))
        (record { low = quot_mono s.0 x k p.low; high = quot_mono x s.1 k p.high })

pub nonzero-is : {x : ℤ} {s : Span} → In x s → T (nonzero s) → x ≢ pos 0
nonzero-is {x} {s} p t e = go (le_z (pos 1) s.0) (le_z s.1 (negsuc 0)) (λ u. le_z_yes u) (λ u. le_z_yes u) t
  where
    go : (q r : Bool) → (T q → pos 1 ≤ℤ s.0) → (T r → s.1 ≤ℤ negsuc 0) → T (q || r) → ⊥
    go true r f g u = omega (arith, le↑ (f tt), le↑ p.low, eq↑ e)
    go false r f g u = omega (arith, le↑ (g u), le↑ p.high, eq↑ e)

some_size : (y : ℤ) → y ≢ pos 0 → 0 < nat_abs y
some_size (pos zero) n = absurd (n refl)
some_size (pos (suc k)) n = zero-lt-suc k
some_size (negsuc k) n = zero-lt-suc k

pub rem_in : {x y : ℤ} {s t : Span} → In x s → In y t → In (rem_z x y) (rem-span s t)
rem_in {x} {y} {s} {t} p q = around_in (go (nonzero t) (λ u. some_size y (nonzero-is q u)))
  where
    go : (u : Bool) → (T u → 0 < nat_abs y) → nat_abs (rem_z x y) ≤ cond u (min (far s) (far t - 1)) (far s)
    go true f = omega (arith, abs-rem x y, far-is x p, abs-rem-lt x y (f tt), far-is y q)
    go false f = omega (arith, abs-rem x y, far-is x p)
