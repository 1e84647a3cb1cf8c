-- The order of ℤ, absolute values, and bounds of expressions. `omega` proves linear facts of ℤ with the set `arithℤ`: it reads hypotheses
-- `x ≤ℤ y`, `x <ℤ y` and `x ≡ y`, and proves such goals, in the atoms `up x` and `dn x` (x is up x − dn x). Of a compound x hand it
-- the fact `parts xs e`, with e the expression: `omega (arithℤ, parts (a ∷ b ∷ []) (v 0 ⊕ v 1))`. Assumes nothing.
use mathlib.Core.Path.{◌≡◌, refl, sym, subst}
use mathlib.Core.Bool.{Bool, true, false, not}
use mathlib.Core.Logic.{◌⊎◌, inl, inr}
use mathlib.Core.List.{List, [], ◌∷◌}
use Prim.Native.Nat.{ℕ, zero, suc, ◌+◌, ◌*◌, ◌/◌, ◌%◌, ◌^◌, ◌≤◌, ◌<◌}
use native.Mathlib.Nat.{le_trans, le_of_eq, mul-le-mul, lt_of_le_of_lt, div-le_self, mod-le, mod-lt}
use native.Mathlib.Omega.{arith}
use native.Mathlib.Decide.{dec_le}
use lib.IntN.{ℤ, pos, negsuc, neg_ℤ, nat_abs, ◌+ℤ◌, ◌-ℤ◌, ◌*ℤ◌}
use lib.Dec.{T, nleb→lt}
use lib.Signed.{◌≤ℤ◌, ◌<ℤ◌, mag, quot_z, rem_z, nat_abs-le, le_z, lt_z, lt_z_no}
use mir.Syntax.{Width}
use mir.Val.{SFits, hbits}
use Rattle.arith.proofs.Int.{up, dn, Rep, self, off, r-add, r-neg, r-mul, le↑, le↓, lt↑, lt↓, eq↑, eq↓}
use Rattle.arith.proofs.Ring.{Ex, v, lit, ◌⊕◌, ◌⊖◌, ◌⊗◌, ⊝, at, den, ring}

pub ruleset arithℤ = (arith, le↑, le↓, lt↑, lt↓, eq↑, eq↓)

-- ---- an expression's positive and negative terms
abbrev mutual
  pub plus : Ex → (ℕ → ℤ) → ℕ
  plus (v i) ρ = up (ρ i)
  plus (lit k) ρ = up k
  plus (a ⊕ b) ρ = plus a ρ + plus b ρ
  plus (a ⊖ b) ρ = plus a ρ + minus b ρ
  plus (a ⊗ b) ρ = plus a ρ * plus b ρ + minus a ρ * minus b ρ
  plus (⊝ a) ρ = minus a ρ

  pub minus : Ex → (ℕ → ℤ) → ℕ
  minus (v i) ρ = dn (ρ i)
  minus (lit k) ρ = dn k
  minus (a ⊕ b) ρ = minus a ρ + minus b ρ
  minus (a ⊖ b) ρ = minus a ρ + plus b ρ
  minus (a ⊗ b) ρ = plus a ρ * minus b ρ + minus a ρ * plus b ρ
  minus (⊝ a) ρ = plus a ρ

rep-of : (e : Ex) (ρ : ℕ → ℤ) → Rep (den e ρ) (plus e ρ) (minus e ρ)
rep-of (v i) ρ = self (ρ i)
rep-of (lit k) ρ = self k
rep-of (a ⊕ b) ρ = r-add (rep-of a ρ) (rep-of b ρ)
rep-of (a ⊖ b) ρ = r-add (rep-of a ρ) (r-neg (rep-of b ρ))
rep-of (a ⊗ b) ρ = r-mul (rep-of a ρ) (rep-of b ρ)
rep-of (⊝ a) ρ = r-neg (rep-of a ρ)

-- what `omega` has to know of a compound expression
pub parts : (xs : List ℤ) (e : Ex) → up (den e (at xs)) + minus e (at xs) ≡ plus e (at xs) + dn (den e (at xs))
parts xs e = (rep-of e (at xs)).rep

le_or_le : (a b : ℕ) → (a ≤ b) ⊎ (b ≤ a)
le_or_le a b = go (dec_le a b)
  where
    go : Dec (a ≤ b) → (a ≤ b) ⊎ (b ≤ a)
    go (yes p) = inl p
    go (no f) = inr (omega arith)

le_or_lt : (a b : ℕ) → (a ≤ b) ⊎ (b < a)
le_or_lt a b = go (dec_le a b)
  where
    go : Dec (a ≤ b) → (a ≤ b) ⊎ (b < a)
    go (yes p) = inl p
    go (no f) = inr (omega arith)

-- ---- the order's laws
pub ≤ℤ-trans : {x y z : ℤ} → x ≤ℤ y → y ≤ℤ z → x ≤ℤ z
≤ℤ-trans {x} {y} {z} h k = omega arithℤ

pub ≤ℤ-antisym : {x y : ℤ} → x ≤ℤ y → y ≤ℤ x → x ≡ y
≤ℤ-antisym {x} {y} h k = omega arithℤ

pub <ℤ→≤ℤ : {x y : ℤ} → x <ℤ y → x ≤ℤ y
<ℤ→≤ℤ {x} {y} h = omega arithℤ

pub one≤ : {x : ℤ} → pos 0 <ℤ x → pos 1 ≤ℤ x
one≤ {x} h = omega arithℤ

pub ≤ℤ-total : (x y : ℤ) → (x ≤ℤ y) ⊎ (y ≤ℤ x)
≤ℤ-total x y = go (le_or_le (up x + dn y) (up y + dn x))
  where
    go : (up x + dn y ≤ up y + dn x) ⊎ (up y + dn x ≤ up x + dn y) → (x ≤ℤ y) ⊎ (y ≤ℤ x)
    go (inl h) = inl (le↓ h)
    go (inr h) = inr (le↓ h)

-- either x ≤ y or y < x
pub ≤ℤ-or_<ℤ : (x y : ℤ) → (x ≤ℤ y) ⊎ (y <ℤ x)
≤ℤ-or_<ℤ x y = go (le_or_lt (up x + dn y) (up y + dn x))
  where
    go : (up x + dn y ≤ up y + dn x) ⊎ (up y + dn x < up x + dn y) → (x ≤ℤ y) ⊎ (y <ℤ x)
    go (inl h) = inl (le↓ h)
    go (inr h) = inr (lt↓ h)

pub +ℤ-mono : {a b c d : ℤ} → a ≤ℤ b → c ≤ℤ d → (a +ℤ c) ≤ℤ (b +ℤ d)
+ℤ-mono {a} {b} {c} {d} h k = omega (arithℤ, parts (a ∷ c ∷ []) (v 0 ⊕ v 1), parts (b ∷ d ∷ []) (v 0 ⊕ v 1))

pub neg_ℤ_anti : {a b : ℤ} → a ≤ℤ b → neg_ℤ b ≤ℤ neg_ℤ a
neg_ℤ_anti {a} {b} h = omega (arithℤ, parts (a ∷ []) (⊝ (v 0)), parts (b ∷ []) (⊝ (v 0)))

pub sub_nonneg : {a b : ℤ} → a ≤ℤ b → pos 0 ≤ℤ (b -ℤ a)
sub_nonneg {a} {b} h = omega (arithℤ, parts (a ∷ b ∷ []) (v 1 ⊖ v 0))

pub le-of-sub : {a b : ℤ} → pos 0 ≤ℤ (b -ℤ a) → a ≤ℤ b
le-of-sub {a} {b} h = omega (arithℤ, parts (a ∷ b ∷ []) (v 1 ⊖ v 0))

nonneg_mul' : (a b : ℤ) → pos 0 ≤ℤ a → pos 0 ≤ℤ b → pos 0 ≤ℤ (a *ℤ b)
nonneg_mul' (pos m) (pos n) h k = omega arithℤ
nonneg_mul' (pos m) (negsuc n) h k = absurd k.le
nonneg_mul' (negsuc m) b h k = absurd h.le

pub nonneg_mul : {a b : ℤ} → pos 0 ≤ℤ a → pos 0 ≤ℤ b → pos 0 ≤ℤ (a *ℤ b)
nonneg_mul {a} {b} h k = nonneg_mul' a b h k

pub nonneg_square : (a : ℤ) → pos 0 ≤ℤ (a *ℤ a)
nonneg_square (pos m) = omega arithℤ
nonneg_square (negsuc m) = omega arithℤ

-- the product with a number that is not negative keeps the order
pub *ℤ-monoˡ : {a b c : ℤ} → pos 0 ≤ℤ c → a ≤ℤ b → (c *ℤ a) ≤ℤ (c *ℤ b)
*ℤ-monoˡ {a} {b} {c} h k = le-of-sub (subst (λ (z : ℤ). pos 0 ≤ℤ z) (ring (a ∷ b ∷ c ∷ []) (v 2 ⊗ (v 1 ⊖ v 0)) (v 2 ⊗ v 1 ⊖ v 2 ⊗ v 0) tt)
    (nonneg_mul h (sub_nonneg k)))

pub *ℤ-monoʳ : {a b c : ℤ} → pos 0 ≤ℤ c → a ≤ℤ b → (a *ℤ c) ≤ℤ (b *ℤ c)
*ℤ-monoʳ {a} {b} {c} h k = le-of-sub (subst (λ (z : ℤ). pos 0 ≤ℤ z) (ring (a ∷ b ∷ c ∷ []) (v 2 ⊗ (v 1 ⊖ v 0)) (v 1 ⊗ v 2 ⊖ v 0 ⊗ v 2) tt)
    (nonneg_mul h (sub_nonneg k)))

cancel' : (c z : ℤ) → pos 0 <ℤ c → pos 0 ≤ℤ (c *ℤ z) → pos 0 ≤ℤ z
cancel' c (pos n) h k = omega arithℤ
cancel' (pos zero) (negsuc n) h k = omega arithℤ
cancel' (pos (suc m)) (negsuc n) h k = omega (arithℤ, parts (pos (suc m) ∷ negsuc n ∷ []) (v 0 ⊗ v 1))
cancel' (negsuc m) (negsuc n) h k = omega arithℤ

-- and with a positive number it can be cancelled
pub *ℤ-cancel_≤ : {a b c : ℤ} → pos 0 <ℤ c → (c *ℤ a) ≤ℤ (c *ℤ b) → a ≤ℤ b
*ℤ-cancel_≤ {a} {b} {c} h k = le-of-sub (cancel' c (b -ℤ a) h
    (subst (λ (z : ℤ). pos 0 ≤ℤ z) (ring (a ∷ b ∷ c ∷ []) (v 2 ⊗ v 1 ⊖ v 2 ⊗ v 0) (v 2 ⊗ (v 1 ⊖ v 0)) tt) (sub_nonneg k)))

-- ---- absolute values
pub abs_is : (x : ℤ) → nat_abs x ≡ up x + dn x
abs_is (pos n) = omega arith
abs_is (negsuc n) = omega arith

pub abs-pos : {x : ℤ} → pos 0 ≤ℤ x → pos (nat_abs x) ≡ x
abs-pos {x = pos n} h = refl
abs-pos {x = negsuc n} h = absurd h.le

pub abs_nonpos : {x : ℤ} → x ≤ℤ pos 0 → pos (nat_abs x) ≡ neg_ℤ x
abs_nonpos {x = pos zero} h = refl
abs_nonpos {x = pos (suc n)} h = omega arithℤ
abs_nonpos {x = negsuc n} h = refl

abs-rep : {x : ℤ} {a b : ℕ} → Rep x a b → nat_abs x ≤ a + b
abs-rep {x} {a} {b} r = go (off x a b r.rep)
  where
    go : (k : ℕ) × (a ≡ up x + k) × (b ≡ dn x + k) → nat_abs x ≤ a + b
    go o = omega (arith, abs_is x, o.1, o.2)

pub abs_neg : (x : ℤ) → nat_abs (neg_ℤ x) ≡ nat_abs x
abs_neg (pos zero) = refl
abs_neg (pos (suc n)) = refl
abs_neg (negsuc n) = refl

pub abs-add : (x y : ℤ) → nat_abs (x +ℤ y) ≤ nat_abs x + nat_abs y
abs-add x y = omega (arith, abs-rep (r-add (self x) (self y)), abs_is x, abs_is y)

pub abs-sub : (x y : ℤ) → nat_abs (x -ℤ y) ≤ nat_abs x + nat_abs y
abs-sub x y = omega (arith, abs-add x (neg_ℤ y), abs_neg y)

pub abs-mul : (x y : ℤ) → nat_abs (x *ℤ y) ≡ nat_abs x * nat_abs y
abs-mul (pos m) (pos n) = refl
abs-mul (pos m) (negsuc n) = abs_neg (pos (m * suc n))
abs-mul (negsuc m) (pos n) = abs_neg (pos (suc m * n))
abs-mul (negsuc m) (negsuc n) = refl

pub abs-quot : (x y : ℤ) → nat_abs (quot_z x y) ≡ nat_abs x / nat_abs y
abs-quot (pos m) (pos n) = refl
abs-quot (pos m) (negsuc n) = abs_neg (pos (m / suc n))
abs-quot (negsuc m) (pos n) = abs_neg (pos (suc m / n))
abs-quot (negsuc m) (negsuc n) = refl

pub abs-rem : (x y : ℤ) → nat_abs (rem_z x y) ≤ nat_abs x
abs-rem (pos m) y = mod-le m (nat_abs y)
abs-rem (negsuc m) y = le_trans (le_of_eq (abs_neg (pos (suc m % nat_abs y)))) (mod-le (suc m) (nat_abs y))

pub abs-rem-lt : (x y : ℤ) → 0 < nat_abs y → nat_abs (rem_z x y) < nat_abs y
abs-rem-lt (pos m) y h = mod-lt m h
abs-rem-lt (negsuc m) y h = lt_of_le_of_lt (le_of_eq (abs_neg (pos (suc m % nat_abs y)))) (mod-lt (suc m) h)

-- |x| ≤ B says −B ≤ x ≤ B
pub abs≤ : {x : ℤ} {B : ℕ} → neg_ℤ (pos B) ≤ℤ x → x ≤ℤ pos B → nat_abs x ≤ B
abs≤ {x = pos n} {B} h k = omega arithℤ
abs≤ {x = negsuc n} {B} h k = omega (arithℤ, parts (pos B ∷ []) (⊝ (v 0)))

pub abs≤⁺ : {x : ℤ} {B : ℕ} → pos 0 ≤ℤ x → x ≤ℤ pos B → nat_abs x ≤ B
abs≤⁺ {x = pos n} {B} h k = omega arithℤ
abs≤⁺ {x = negsuc n} {B} h k = absurd h.le

pub le-abs : {x : ℤ} {B : ℕ} → nat_abs x ≤ B → x ≤ℤ pos B
le-abs {x = pos n} h = omega arithℤ
le-abs {x = negsuc n} h = omega arithℤ

pub ge_abs : {x : ℤ} {B : ℕ} → nat_abs x ≤ B → neg_ℤ (pos B) ≤ℤ x
ge_abs {x} {B} h = omega (arithℤ, parts (pos B ∷ []) (⊝ (v 0)), abs_is x)

-- ---- bounds of sums and products, and what fits a width
pub bound-add : (x y : ℤ) {A B : ℕ} → nat_abs x ≤ A → nat_abs y ≤ B → nat_abs (x +ℤ y) ≤ A + B
bound-add x y h k = omega (arith, abs-add x y)

pub bound-sub : (x y : ℤ) {A B : ℕ} → nat_abs x ≤ A → nat_abs y ≤ B → nat_abs (x -ℤ y) ≤ A + B
bound-sub x y h k = omega (arith, abs-sub x y)

pub bound-mul : (x y : ℤ) {A B : ℕ} → nat_abs x ≤ A → nat_abs y ≤ B → nat_abs (x *ℤ y) ≤ A * B
bound-mul x y h k = le_trans (le_of_eq (abs-mul x y)) (mul-le-mul h k)

pub bound-quot : (x y : ℤ) {A : ℕ} → nat_abs x ≤ A → nat_abs (quot_z x y) ≤ A
bound-quot x y h = omega (arith, abs-quot x y, div-le_self (nat_abs x) (nat_abs y))

mag_abs : (x : ℤ) → mag x ≤ nat_abs x
mag_abs (pos n) = omega arith
mag_abs (negsuc n) = omega arith

pub sfits_abs : {w : Width} {x : ℤ} → nat_abs x < 2 ^ hbits w → SFits w x
sfits_abs {w} {x} h = record { sfits = omega (arith, mag_abs x) }

pub abs_sfits : {w : Width} {x : ℤ} → SFits w x → nat_abs x ≤ 2 ^ hbits w
abs_sfits {w} {x} f = nat_abs-le x f.sfits

-- ---- a test's outcome
by_true : {b : Bool} → b ≡ true → T b
by_true e = subst (λ (b : Bool). T b) (sym e) tt

by_false : {b : Bool} → b ≡ false → T (not b)
by_false e = subst (λ (b : Bool). T (not b)) (sym e) tt

pub le_z_true : {a b : ℤ} → le_z a b ≡ true → a ≤ℤ b
le_z_true e = record { le = by_true e }

pub lt_z_true : {a b : ℤ} → lt_z a b ≡ true → a <ℤ b
lt_z_true e = record { lt = by_true e }

pub lt_z_false : {a b : ℤ} → lt_z a b ≡ false → b ≤ℤ a
lt_z_false e = lt_z_no (by_false e)

not-le : (a b : ℤ) → T (not (le_z a b)) → b <ℤ a
not-le (pos a) (pos b) t = omega (arithℤ, nleb→lt a b t)
not-le (pos a) (negsuc b) t = omega arithℤ
not-le (negsuc a) (pos b) t = absurd t
not-le (negsuc a) (negsuc b) t = omega (arithℤ, nleb→lt b a t)

pub le_z_false : {a b : ℤ} → le_z a b ≡ false → b <ℤ a
le_z_false {a} {b} e = not-le a b (by_false e)
