-- Signed expressions as a program computes them: each value is kept as its bits, `of_z w z`, and read back, `to_z w n`. From what is known of
-- the variables' ranges, `fits` proves that an operation of an expression fits the width, and `result` that it is the number that is meant:
--     fits (small a ha ∷ range b₀ b₁ ∷ []) w64 (arg 0 ⟨*⟩ arg 1) tt : SFits w64 (to_z w64 (of_z w64 a) *ℤ to_z w64 (of_z w64 b))
-- A false claim is answered "expected ⊥, found Unit" at `tt`. Assumes nothing.
use mathlib.Core.Path.{◌≡◌, refl, sym, ap, ap₂, ◌∙◌, subst}
use mathlib.Core.Logic.{◌≢◌}
use mathlib.Core.Bool.{Bool, true, false, ◌&&◌}
use mathlib.Core.List.{List, [], ◌∷◌}
use Prim.Native.Nat.{ℕ, zero, suc, ◌-◌, ◌^◌, ◌≤◌, ◌<◌, zero-le}
use native.Mathlib.Nat.{le_trans, lt_of_le_of_lt, zero-lt-suc}
use native.Mathlib.Omega.{arith}
use lib.Dec.{T, ltb, ltb→lt, leb, leb→le, lit<}
use lib.Pow.{pow-lt, pow_pos}
use lib.IntN.{ℤ, pos, negsuc, neg_ℤ, nat_abs, ◌+ℤ◌, ◌-ℤ◌, ◌*ℤ◌}
use lib.Signed.{◌≤ℤ◌, ◌<ℤ◌, mag, quot_z, rem_z, shr_z, le_z, lt_z, le_z_yes, ≤ℤ_refl}
use mir.Syntax.{Width, w8, w16, w32, w64, w128}
use mir.Val.{Fits, SFits, bits, hbits, to_z, of_z}
use mir.Facts.{to_z-of_z}
use Rattle.arith.proofs.Ring.{v, ⊝, both_left, both_right}
use Rattle.arith.proofs.Order.{arithℤ, parts, ≤ℤ-trans, le_z_true, le_z_false, lt_z_true, lt_z_false}
use Rattle.arith.proofs.Span.{Span, In, add-span, sub-span, mul-span, quot-span, rem-span, shr-span, far, around, nonzero, add_in, sub_in, mul_in, quot_in, rem_in, shr_in, far-is, around_in, nonzero-is}

-- ---- the numbers of a width
abbrev pub all : Width → Span
all w = (neg_ℤ (pos (2 ^ hbits w)), pos (2 ^ hbits w - 1))

abbrev pub inside : Width → Span → Bool
inside w s = le_z (all w).0 s.0 && le_z s.1 (all w).1

all-fits : (H : ℕ) (x : ℤ) → 0 < H → neg_ℤ (pos H) ≤ℤ x → x ≤ℤ pos (H - 1) → mag x < H
all-fits H (pos n) h p q = omega arithℤ
all-fits H (negsuc n) h p q = omega (arithℤ, parts (pos H ∷ []) (⊝ (v 0)))

inside-fits : (w : Width) {x : ℤ} {s : Span} → In x s → T (inside w s) → SFits w x
inside-fits w {x} {s} p t =
    record {
      sfits = all-fits (2 ^ hbits w) x (pow_pos (hbits w)) (≤ℤ-trans (le_z_yes (both_left (le_z (all w).0 s.0) (le_z s.1 (all w).1) t)) p.low)
          (≤ℤ-trans p.high (le_z_yes (both_right (le_z (all w).0 s.0) (le_z s.1 (all w).1) t)));
    }

fits_all : (H : ℕ) (x : ℤ) → mag x < H → In x (neg_ℤ (pos H), pos (H - 1))
fits_all H (pos n) h = record { low = omega (arithℤ, parts (pos H ∷ []) (⊝ (v 0))); high = omega arithℤ }
fits_all H (negsuc n) h = record { low = omega (arithℤ, parts (pos H ∷ []) (⊝ (v 0))); high = omega arithℤ }

-- ---- what is known of a variable: that |x| ≤ B, that it lies between two numbers, or that it is any number of a width
pub data Known : Type 0 where
  small : (x : ℤ) {B : ℕ} → nat_abs x ≤ B → Known
  range : {a x b : ℤ} → a ≤ℤ x → x ≤ℤ b → Known
  whole : {w : Width} {x : ℤ} → SFits w x → Known

pub nat≥ : (n : ℕ) → pos 0 ≤ℤ pos n
nat≥ n = omega arithℤ

pub nat≤ : {n B : ℕ} → n ≤ B → pos n ≤ℤ pos B
nat≤ h = omega arithℤ

pub pred≤ : {n H : ℕ} → n < H → n ≤ H - 1
pred≤ h = omega arith

-- of an unsigned number that is cast: that n ≤ B, or that it is any number of a width
abbrev pub upto : {n B : ℕ} → n ≤ B → Known
upto {n} {B} h = range {a = pos 0} {x = pos n} {b = pos B} (nat≥ n) (nat≤ h)

abbrev pub word : {w : Width} {n : ℕ} → Fits w n → Known
word {w} {n} f = upto {n = n} {B = 2 ^ bits w - 1} (pred≤ f.fits)

abbrev pub value : Known → ℤ
value (small x {B} h) = x
value (range {a} {x} {b} h k) = x
value (whole {w} {x} f) = x

abbrev pub known : Known → Span
known (small x {B} h) = around B
known (range {a} {x} {b} h k) = (a, b)
known (whole {w} {x} f) = all w

abbrev pub nth : List Known → ℕ → Known
nth [] i = small (pos 0) {B = 0} zero-le
nth (k ∷ ks) zero = k
nth (k ∷ ks) (suc i) = nth ks i

known_in : (k : Known) → In (value k) (known k)
known_in (small x {B} h) = around_in h
known_in (range {a} {x} {b} h k) = record { low = h; high = k }
known_in (whole {w} {x} f) = fits_all (2 ^ hbits w) x f.sfits

-- ---- the operations, and the range of each
pub data Op : Type 0 where
  plus minus times quot rem : Op

abbrev pub apply : Op → ℤ → ℤ → ℤ
apply plus = ◌+ℤ◌
apply minus = ◌-ℤ◌
apply times = ◌*ℤ◌
apply quot = quot_z
apply rem = rem_z

abbrev pub op-span : Op → Span → Span → Span
op-span plus = add-span
op-span minus = sub-span
op-span times = mul-span
op-span quot = quot-span
op-span rem = rem-span

op_in : (f : Op) {x y : ℤ} {s t : Span} → In x s → In y t → In (apply f x y) (op-span f s t)
op_in plus = add_in
op_in minus = sub_in
op_in times = mul_in
op_in quot = quot_in
op_in rem = rem_in

-- ---- expressions: a variable kept as bits, a variable as it stands, a literal, a number cast from a width, a shift to the right, an operation
pub data Mx : Type 0 where
  arg raw : ℕ → Mx
  num : ℤ → Mx
  from : Width → Mx → Mx
  shr : ℕ → Mx → Mx
  op : Op → Mx → Mx → Mx

infixl 6 ◌⟨+⟩◌
abbrev pub ◌⟨+⟩◌ : Mx → Mx → Mx
◌⟨+⟩◌ = op plus

infixl 6 ◌⟨-⟩◌
abbrev pub ◌⟨-⟩◌ : Mx → Mx → Mx
◌⟨-⟩◌ = op minus

infixl 7 ◌⟨*⟩◌
abbrev pub ◌⟨*⟩◌ : Mx → Mx → Mx
◌⟨*⟩◌ = op times

infixl 7 ◌⟨/⟩◌
abbrev pub ◌⟨/⟩◌ : Mx → Mx → Mx
◌⟨/⟩◌ = op quot

infixl 7 ◌⟨%⟩◌
abbrev pub ◌⟨%⟩◌ : Mx → Mx → Mx
◌⟨%⟩◌ = op rem

-- what is meant
abbrev pub mean : Mx → List Known → ℤ
mean (arg i) ks = value (nth ks i)
mean (raw i) ks = value (nth ks i)
mean (num k) ks = k
mean (from u a) ks = mean a ks
mean (shr k a) ks = shr_z (mean a ks) (2 ^ k)
mean (op f a b) ks = apply f (mean a ks) (mean b ks)

-- what an operand reads as
abbrev pub run : Width → Mx → List Known → ℤ
run w (arg i) ks = to_z w (of_z w (value (nth ks i)))
run w (raw i) ks = value (nth ks i)
run w (num k) ks = to_z w (of_z w k)
run w (from u a) ks = to_z w (of_z w (run u a ks))
run w (shr k a) ks = to_z w (of_z w (shr_z (run w a ks) (2 ^ k)))
run w (op f a b) ks = to_z w (of_z w (apply f (run w a ks) (run w b ks)))

-- what is kept, before it is made bits
abbrev pub kept : Width → Mx → List Known → ℤ
kept w (arg i) ks = value (nth ks i)
kept w (raw i) ks = value (nth ks i)
kept w (num k) ks = k
kept w (from u a) ks = run u a ks
kept w (shr k a) ks = shr_z (run w a ks) (2 ^ k)
kept w (op f a b) ks = apply f (run w a ks) (run w b ks)

-- kept as bits
abbrev pub bits? : Mx → Bool
bits? (arg i) = true
bits? (raw i) = false
bits? (num k) = true
bits? (from u a) = true
bits? (shr k a) = true
bits? (op f a b) = true

-- the range, from the variables'
abbrev pub span : Mx → List Known → Span
span (arg i) ks = known (nth ks i)
span (raw i) ks = known (nth ks i)
span (num k) ks = (k, k)
span (from u a) ks = span a ks
span (shr k a) ks = shr-span (2 ^ k) (span a ks)
span (op f a b) ks = op-span f (span a ks) (span b ks)

-- an expression and all its parts fit
abbrev pub safe : Width → Mx → List Known → Bool
safe w (arg i) ks = inside w (known (nth ks i))
safe w (raw i) ks = true
safe w (num k) ks = inside w (k, k)
safe w (from u a) ks = inside w (span a ks) && safe u a ks
safe w (shr k a) ks = inside w (shr-span (2 ^ k) (span a ks)) && safe w a ks
safe w (op f a b) ks = inside w (op-span f (span a ks) (span b ks)) && (safe w a ks && safe w b ks)

half-below : (w : Width) → hbits w < bits w
half-below w8 = lit< tt
half-below w16 = lit< tt
half-below w32 = lit< tt
half-below w64 = lit< tt
half-below w128 = lit< tt

room : (k H B : ℕ) → k < H → H < B → 0 < B - suc k
room k H B h g = omega arith

of_z-above : (w : Width) (z : ℤ) → mag z < 2 ^ hbits w → z ≢ pos 0 → 0 < of_z w z
of_z-above w (pos zero) h n = absurd (n refl)
of_z-above w (pos (suc k)) h n = zero-lt-suc k
of_z-above w (negsuc k) h n = room k (2 ^ hbits w) (2 ^ bits w) h (pow-lt (half-below w))

module _ (ks : List Known) where
  span_in : (e : Mx) → In (mean e ks) (span e ks)
  span_in (arg i) = known_in (nth ks i)
  span_in (raw i) = known_in (nth ks i)
  span_in (num k) = record { low = ≤ℤ_refl k; high = ≤ℤ_refl k }
  span_in (from u a) = span_in a
  span_in (shr k a) = shr_in (2 ^ k) (span_in a)
  span_in (op f a b) = op_in f (span_in a) (span_in b)

  abbrev Fit : Width → Mx → Bool
  Fit w e = inside w (span e ks)

  -- what is kept, and what it reads as once it is made bits
  again : (w : Width) {x y : ℤ} {s : Span} → x ≡ y → In y s → T (inside w s) → (x ≡ y) × (to_z w (of_z w x) ≡ y)
  again w e p t = (e, ap (λ (z : ℤ). to_z w (of_z w z)) e ∙ to_z-of_z (inside-fits w p t))

  both : (w : Width) (e : Mx) → T (safe w e ks) → (kept w e ks ≡ mean e ks) × (run w e ks ≡ mean e ks)
  both w (arg i) t = again w refl (known_in (nth ks i)) t
  both w (raw i) t = (refl, refl)
  both w (num k) t = again w refl (span_in (num k)) t
  both w (from u a) t = again w (both u a (both_right (Fit w a) (safe u a ks) t)).1 (span_in a) (both_left (Fit w a) (safe u a ks) t)
  both w (shr k a) t =
      again w (ap (λ (z : ℤ). shr_z z (2 ^ k)) (both w a (both_right (Fit w (shr k a)) (safe w a ks) t)).1) (span_in (shr k a))
      (both_left (Fit w (shr k a)) (safe w a ks) t)
  both w (op f a b) t =
      let u = both_right (Fit w (op f a b)) (safe w a ks && safe w b ks) t in
      again w (ap₂ (apply f) (both w a (both_left (safe w a ks) (safe w b ks) u)).1 (both w b (both_right (safe w a ks) (safe w b ks) u)).1)
      (span_in (op f a b)) (both_left (Fit w (op f a b)) (safe w a ks && safe w b ks) t)

  -- THE THEOREMS. What an operation keeps is what is meant, and so is what an operand, and at the end the result, reads as
  pub kept-is : (w : Width) (e : Mx) → T (safe w e ks) → kept w e ks ≡ mean e ks
  kept-is w e t = (both w e t).0

  pub result : (w : Width) (e : Mx) → T (safe w e ks) → run w e ks ≡ mean e ks
  result w e t = (both w e t).1

  back_is : (w : Width) (e : Mx) → T (bits? e) → T (safe w e ks) → to_z w (of_z w (kept w e ks)) ≡ mean e ks
  back_is w (raw i) s t = absurd s
  back_is w (arg i) s t = result w (arg i) t
  back_is w (num k) s t = result w (num k) t
  back_is w (from u a) s t = result w (from u a) t
  back_is w (shr k a) s t = result w (shr k a) t
  back_is w (op f a b) s t = result w (op f a b) t

  -- the number that is meant is at least, at most, and of at most the size of a numeral
  pub at_least : (e : Mx) {a : ℤ} → T (le_z a (span e ks).0) → a ≤ℤ mean e ks
  at_least e t = ≤ℤ-trans (le_z_yes t) (span_in e).low

  pub at_most : (e : Mx) {b : ℤ} → T (le_z (span e ks).1 b) → mean e ks ≤ℤ b
  at_most e t = ≤ℤ-trans (span_in e).high (le_z_yes t)

  pub bound : (e : Mx) {B : ℕ} → T (leb (far (span e ks)) B) → nat_abs (mean e ks) ≤ B
  bound e {B} t = le_trans (far-is (mean e ks) (span_in e)) (leb→le (far (span e ks)) B t)

  -- of naturals too, whose sums, products and quotients are those of ℤ: `fits_nat (upto h ∷ word f ∷ []) w64 (arg 0 ⟨*⟩ arg 1) tt : Fits w64 (a * b)`
  pub fits_nat : (w : Width) (e : Mx) → T (ltb (far (span e ks)) (2 ^ bits w)) → Fits w (nat_abs (mean e ks))
  fits_nat w e t = record { fits = lt_of_le_of_lt (far-is (mean e ks) (span_in e)) (ltb→lt (far (span e ks)) (2 ^ bits w) t) }

  -- and so is what an operand reads as
  pub bound-read : (w : Width) (e : Mx) {B : ℕ} → T (leb (far (span e ks)) B && safe w e ks) → nat_abs (run w e ks) ≤ B
  bound-read w e {B} t = subst (λ (z : ℤ). nat_abs z ≤ B) (sym (result w e (both_right (leb (far (span e ks)) B) (safe w e ks) t)))
      (bound e (both_left (leb (far (span e ks)) B) (safe w e ks) t))

  -- an operation's result fits: a sum, a difference, a product or a quotient of operands, or a number that is cast
  pub fits : (w : Width) (e : Mx) → T (inside w (span e ks) && safe w e ks) → SFits w (kept w e ks)
  fits w e t = subst (λ (z : ℤ). SFits w z) (sym (kept-is w e (both_right (inside w (span e ks)) (safe w e ks) t)))
      (inside-fits w (span_in e) (both_left (inside w (span e ks)) (safe w e ks) t))

  -- a division's or a remainder's need: the divisor's bits are not 0, and the quotient fits. The divisor is not 0 by a proof, or by its range
  pub divides-by : (w : Width) (a b : Mx) → T (inside w (span (a ⟨/⟩ b) ks) && safe w (a ⟨/⟩ b) ks) → T (inside w (span b ks) && safe w b ks)
      → mean b ks ≢ pos 0 → (0 < of_z w (kept w b ks)) × SFits w (kept w (a ⟨/⟩ b) ks)
  divides-by w a b t u n = (
    subst (λ (z : ℤ). 0 < of_z w z) (sym (kept-is w b (both_right (inside w (span b ks)) (safe w b ks) u)))
        (of_z-above w (mean b ks) (inside-fits w (span_in b) (both_left (inside w (span b ks)) (safe w b ks) u)).sfits n),
    fits w (a ⟨/⟩ b) t,
  )

  pub divides : (w : Width) (a b : Mx) → T (inside w (span (a ⟨/⟩ b) ks) && safe w (a ⟨/⟩ b) ks)
      → T (nonzero (span b ks) && (inside w (span b ks) && safe w b ks)) → (0 < of_z w (kept w b ks)) × SFits w (kept w (a ⟨/⟩ b) ks)
  divides w a b t u = divides-by w a b t (both_right (nonzero (span b ks)) (inside w (span b ks) && safe w b ks) u)
      (nonzero-is (span_in b) (both_left (nonzero (span b ks)) (inside w (span b ks) && safe w b ks) u))

  -- what a branch on a comparison of two operands tells of the numbers that are meant
  module _ (w : Width) (a b : Mx) (t : T (safe w a ks && safe w b ks)) where
    same : {X : Type 0} (f : ℤ → ℤ → X) → f (mean a ks) (mean b ks) ≡ f (run w a ks) (run w b ks)
    same f = ap₂ f (sym (result w a (both_left (safe w a ks) (safe w b ks) t))) (sym (result w b (both_right (safe w a ks) (safe w b ks) t)))

    pub le_yes : le_z (run w a ks) (run w b ks) ≡ true → mean a ks ≤ℤ mean b ks
    le_yes e = le_z_true (same le_z ∙ e)

    pub le_no : le_z (run w a ks) (run w b ks) ≡ false → mean b ks <ℤ mean a ks
    le_no e = le_z_false (same le_z ∙ e)

    pub lt_yes : lt_z (run w a ks) (run w b ks) ≡ true → mean a ks <ℤ mean b ks
    lt_yes e = lt_z_true (same lt_z ∙ e)

    pub lt_no : lt_z (run w a ks) (run w b ks) ≡ false → mean b ks ≤ℤ mean a ks
    lt_no e = lt_z_false (same lt_z ∙ e)

    -- a test `==` or `!=` compares the bits
    pub eq_yes : T (bits? a && bits? b) → of_z w (kept w a ks) ≡ of_z w (kept w b ks) → mean a ks ≡ mean b ks
    eq_yes u e = sym (back_is w a (both_left (bits? a) (bits? b) u) (both_left (safe w a ks) (safe w b ks) t)) ∙ ap (to_z w) e
        ∙ back_is w b (both_right (bits? a) (bits? b) u) (both_right (safe w a ks) (safe w b ks) t)

    pub eq_no : (of_z w (kept w a ks) ≡ of_z w (kept w b ks) → ⊥) → mean a ks ≢ mean b ks
    eq_no f e = f (ap (of_z w) (kept-is w a (both_left (safe w a ks) (safe w b ks) t) ∙ e ∙ sym (kept-is w b (both_right (safe w a ks) (safe w b ks) t))))
