-- How far two numbers are apart, and what sums, products and roundings do to it: a rounding adds at most half its unit, and every other step
-- carries on what came before. Assumes nothing.
use Prim.Native.Nat.{ℕ, ◌+◌, ◌*◌, ◌/◌, ◌≤◌, ◌<◌}
use mathlib.Core.Path.{◌≡◌, refl, ap, subst}
use mathlib.Core.List.{List, [], ◌∷◌}
use native.Mathlib.Nat.{le_refl, mul-le-mul_left}
use native.Mathlib.Omega.{arith}
use lib.IntN.{ℤ, pos, negsuc, neg_ℤ, nat_abs, ◌+ℤ◌, ◌-ℤ◌, ◌*ℤ◌}
use lib.ListN.{length}
use lib.Signed.{◌≤ℤ◌, ≤ℤ_refl}
use Rattle.arith.specs.Nearest.{nearest}
use Rattle.arith.proofs.Ring.{v, #, ◌⊕◌, ◌⊖◌, ◌⊗◌, ⊝, ring}
use Rattle.arith.proofs.Order.{arithℤ, parts, abs≤, bound-add, bound-sub, bound-mul, +ℤ-mono}
use Rattle.arith.proofs.NearestLaws.{nearest_error}
use Rattle.sheet.specs.Block.{sum}
use Rattle.document.specs.Rules.{Every}

-- |x − y| ≤ flat + rate · w: so much in any case, and so much for each unit of a weight w, be it gas or surface
pub record Off (w flat rate : ℕ) (x y : ℤ) : Type 0 where
  pub off : nat_abs (x -ℤ y) ≤ flat + rate * w

pub same : {w : ℕ} {x : ℤ} → Off w 0 0 x x
same {w} {x} = record { off = subst (λ (i : ℤ). nat_abs i ≤ 0 + 0 * w) (ring (x ∷ []) (# 0) (v 0 ⊖ v 0) tt) (omega arith) }

-- two sizes, neither above the other by more than e
pub sizes : {w m n e : ℕ} → m ≤ n + e → n ≤ m + e → Off w e 0 (pos m) (pos n)
sizes {w} {m} {n} {e} h k =
    let low : neg_ℤ (pos e) ≤ℤ (pos m -ℤ pos n) = omega (arithℤ, parts (pos m ∷ pos n ∷ []) (v 0 ⊖ v 1), parts (pos e ∷ []) (⊝ (v 0))) in
    let high : (pos m -ℤ pos n) ≤ℤ pos e = omega (arithℤ, parts (pos m ∷ pos n ∷ []) (v 0 ⊖ v 1)) in
    record { off = omega (arith, abs≤ low high) }

-- ---- sums, differences and products
module _ {d e : ℕ} (x y z t : ℤ) (h : nat_abs (x -ℤ y) ≤ d) (k : nat_abs (z -ℤ t) ≤ e) where
  apart-sum : nat_abs (x +ℤ z -ℤ (y +ℤ t)) ≤ d + e
  apart-sum =
      subst (λ (i : ℤ). nat_abs i ≤ d + e) (ring (x ∷ y ∷ z ∷ t ∷ []) (v 0 ⊖ v 1 ⊕ (v 2 ⊖ v 3)) (v 0 ⊕ v 2 ⊖ (v 1 ⊕ v 3)) tt)
      (bound-add (x -ℤ y) (z -ℤ t) h k)

  apart-difference : nat_abs (x -ℤ z -ℤ (y -ℤ t)) ≤ d + e
  apart-difference =
      subst (λ (i : ℤ). nat_abs i ≤ d + e) (ring (x ∷ y ∷ z ∷ t ∷ []) (v 0 ⊖ v 1 ⊖ (v 2 ⊖ v 3)) (v 0 ⊖ v 2 ⊖ (v 1 ⊖ v 3)) tt)
      (bound-sub (x -ℤ y) (z -ℤ t) h k)

apart-product : {d e : ℕ} (x y m : ℤ) → nat_abs (x -ℤ y) ≤ d → nat_abs m ≤ e → nat_abs (x *ℤ m -ℤ y *ℤ m) ≤ d * e
apart-product {d} {e} x y m h k =
    subst (λ (i : ℤ). nat_abs i ≤ d * e) (ring (x ∷ y ∷ m ∷ []) ((v 0 ⊖ v 1) ⊗ v 2) (v 0 ⊗ v 2 ⊖ v 1 ⊗ v 2) tt) (bound-mul (x -ℤ y) m h k)

infixl 6 ◌⊞◌
pub ◌⊞◌ : {w a b c d : ℕ} {x y z t : ℤ} → Off w a b x y → Off w c d z t → Off w (a + c) (b + d) (x +ℤ z) (y +ℤ t)
◌⊞◌ {x = x} {y} {z} {t} p q = record { off = omega (arith, apart-sum x y z t p.off q.off) }

infixl 6 ◌⊟◌
pub ◌⊟◌ : {w a b c d : ℕ} {x y z t : ℤ} → Off w a b x y → Off w c d z t → Off w (a + c) (b + d) (x -ℤ z) (y -ℤ t)
◌⊟◌ {x = x} {y} {z} {t} p q = record { off = omega (arith, apart-difference x y z t p.off q.off) }

infixl 7 ◌⊠◌
pub ◌⊠◌ : {w a b : ℕ} {x y : ℤ} → Off w a b x y → (m : ℤ) → Off w (a * nat_abs m) (b * nat_abs m) (x *ℤ m) (y *ℤ m)
◌⊠◌ {x = x} {y} p m = record { off = omega (arith, apart-product x y m p.off (le_refl (nat_abs m))) }

-- times a factor of which only the greatest size is known
pub record Size (most : ℕ) (m : ℤ) : Type 0 where
  pub size : nat_abs m ≤ most

pub times : {w a b most : ℕ} {x y m : ℤ} → Off w a b x y → Size most m → Off w (a * most) (b * most) (x *ℤ m) (y *ℤ m)
times {x = x} {y} {m} p h = record { off = omega (arith, apart-product x y m p.off h.size) }

-- times two, of whose product the greatest size is known
pub times-both : {w a b most : ℕ} {x y : ℤ} (m n : ℤ) → Off w a b x y → Size most (m *ℤ n) → Off w (a * most) (b * most) (x *ℤ m *ℤ n) (y *ℤ m *ℤ n)
times-both {w} {a} {b} {most} {x} {y} m n p h = record {
  off = subst (λ (i : ℤ). nat_abs i ≤ a * most + b * most * w)
      (ring (x ∷ y ∷ m ∷ n ∷ []) (v 0 ⊗ (v 2 ⊗ v 3) ⊖ v 1 ⊗ (v 2 ⊗ v 3)) (v 0 ⊗ v 2 ⊗ v 3 ⊖ v 1 ⊗ v 2 ⊗ v 3) tt) (times p h).off;
}

-- times the weight, which may be a product
pub per : {a : ℕ} {x y : ℤ} (m : ℤ) → Off (nat_abs m) a 0 x y → Off (nat_abs m) 0 a (x *ℤ m) (y *ℤ m)
per {x = x} {y} m p = record { off = omega (arith, apart-product x y m p.off (le_refl (nat_abs m))) }

pub per-both : {a : ℕ} {x y : ℤ} (m n : ℤ) → Off (nat_abs (m *ℤ n)) a 0 x y → Off (nat_abs (m *ℤ n)) 0 a (x *ℤ m *ℤ n) (y *ℤ m *ℤ n)
per-both {a} {x} {y} m n p = record {
  off = subst (λ (i : ℤ). nat_abs i ≤ 0 + a * nat_abs (m *ℤ n))
      (ring (x ∷ y ∷ m ∷ n ∷ []) (v 0 ⊗ (v 2 ⊗ v 3) ⊖ v 1 ⊗ (v 2 ⊗ v 3)) (v 0 ⊗ v 2 ⊗ v 3 ⊖ v 1 ⊗ v 2 ⊗ v 3) tt) (per (m *ℤ n) p).off;
}

-- ---- rounded to a multiple of k, on one side only
pub rounded : {w a b k : ℕ} {x y : ℤ} → 0 < k → Off w a b x y → Off w (a + k / 2) b (nearest x k *ℤ pos k) y
rounded {w} {a} {b} {k} {x} {y} h p =
    let error = bound-sub (x -ℤ y) (x -ℤ pos k *ℤ nearest x k) {B = k / 2} p.off (omega (arith, nearest_error x h)) in
    record {
      off = subst (λ (i : ℤ). nat_abs i ≤ a + k / 2 + b * w) (ring (x ∷ y ∷ pos k ∷ nearest x k ∷ []) (v 0 ⊖ v 1 ⊖ (v 0 ⊖ v 2 ⊗ v 3)) (v 3 ⊗ v 2 ⊖ v 1) tt)
          (omega (arith, error));
    }

-- ---- a weight that is at most so much, and one that does not matter
pub settled : {w v a b most : ℕ} {x y : ℤ} → Off w a b x y → w ≤ most → Off v (a + b * most) 0 x y
settled {b = b} p h = record { off = omega (arith, p.off, mul-le-mul_left b h) }

freed : {w v a : ℕ} {x y : ℤ} → Off w a 0 x y → Off v a 0 x y
freed p = record { off = omega (arith, p.off) }

-- ---- sums over at most n records, weighed by numbers that are not negative
both-sizes : {x y : ℤ} → pos 0 ≤ℤ x → pos 0 ≤ℤ y → nat_abs (x +ℤ y) ≡ nat_abs x + nat_abs y
both-sizes {x = pos m} {y = pos n} h k = refl
both-sizes {x = pos m} {y = negsuc n} h k = absurd k.le
both-sizes {x = negsuc m} {y} h k = absurd h.le

module _ {A : Type 0} {C : A → Type 0} (w : A → ℤ) (least : (a : A) → C a → pos 0 ≤ℤ w a) where
  weight : (l : List A) → Every C l → pos 0 ≤ℤ sum w l
  unfolding sum
  weight [] c = ≤ℤ_refl (pos 0)
  weight (x ∷ l) c = +ℤ-mono {a = pos 0} {b = w x} {c = pos 0} {d = sum w l} (least x c.0) (weight l c.1)

  each : {f g : A → ℤ} {a b : ℕ} → ((x : A) → C x → Off (nat_abs (w x)) a b (f x) (g x)) → (l : List A) → Every C l
      → Off (nat_abs (sum w l)) (a * length l) b (sum f l) (sum g l)
  unfolding sum
  each h [] c = record { off = omega arith }
  each {f} {g} {a} {b} h (x ∷ l) c =
      let size = ap (λ (n : ℕ). b * n) (both-sizes (least x c.0) (weight l c.1)) in
      record { off = omega (arith, size, apart-sum (f x) (g x) (sum f l) (sum g l) (h x c.0).off (each h l c.1).off) }

  pub summed : {f g : A → ℤ} {a b n : ℕ} (l : List A) → Every C l → length l ≤ n → ((x : A) → C x → Off (nat_abs (w x)) a b (f x) (g x))
      → Off (nat_abs (sum w l)) (a * n) b (sum f l) (sum g l)
  summed {a = a} l c k h = record { off = omega (arith, (each h l c).off, mul-le-mul_left a k) }

-- the same with no weight
pub records : {A : Type 0} {C : A → Type 0} {f g : A → ℤ} {w a n : ℕ} (l : List A) → Every C l → length l ≤ n → ((x : A) → C x → Off w a 0 (f x) (g x))
    → Off w (a * n) 0 (sum f l) (sum g l)
records l c k h = freed (summed (λ x. pos 0) (λ x d. ≤ℤ_refl (pos 0)) l c k (λ x d. freed (h x d)))
