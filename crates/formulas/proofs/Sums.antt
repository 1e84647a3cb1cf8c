-- Figures summed over the first lines of an array, and how large they grow. Assumes nothing.
use Prim.Native.Nat.{ℕ, zero, suc, ◌+◌, ◌*◌, ◌^◌, ◌≤◌, ◌<◌, min}
use mathlib.Core.Path.{◌≡◌, sym, ap, ◌∙◌, subst}
use mathlib.Core.List.{List, [], ◌∷◌, map}
use native.Mathlib.Nat.{le_trans, mul-le-mul_right, lt_of_le_of_lt, le_of_suc-le-suc, not-suc-le-zero}
use native.Mathlib.Numerals.{add-one}
use native.Mathlib.Omega.{arith}
use lib.Dec.{T, ltb, ltb→lt}
use lib.IntN.{ℤ, pos, nat_abs, ◌+ℤ◌}
use lib.ListN.{length, get_or, take}
use mir.Syntax.{Width}
use mir.Val.{SFits, hbits}
use Rattle.arith.proofs.Ring.{v, #, ◌⊗◌, ring}
use Rattle.arith.proofs.Order.{bound-add, sfits_abs}
use Rattle.sheet.specs.Block.{sum}
use Rattle.sheet.proofs.Sums.{first, next, held}
use Rattle.document.specs.Rules.{Every}
use Rattle.formulas.specs.Figures.{Is, Figure}
use Rattle.formulas.proofs.Units.{plus}

-- what holds of each of the first n lines
pub each : {A B : Type 0} (P : B → Type 0) (g : A → B) (l : List A) (n i : ℕ) (d : A) → Every P (map g (take n l)) → i < n → i < length l → P (g (get_or l i d))
each P g [] n i d p h k = absurd (not-suc-le-zero k)
each P g (a ∷ l) zero i d p h k = absurd (not-suc-le-zero h)
each P g (a ∷ l) (suc n) zero d p h k = p.0
each P g (a ∷ l) (suc n) (suc i) d p h k = each P g l n i d p.1 (le_of_suc-le-suc h) (le_of_suc-le-suc k)

-- what holds of each line that is lent
pub each_of : {A B : Type 0} (P : B → Type 0) (g : A → B) (l : List A) (i : ℕ) (d : A) → Every P (map g l) → i < length l → P (g (get_or l i d))
each_of P g [] i d p h = absurd (not-suc-le-zero h)
each_of P g (a ∷ l) zero d p h = p.0
each_of P g (a ∷ l) (suc i) d p h = each_of P g l i d p.1 (le_of_suc-le-suc h)

-- as many lines as are held are lent
pub lent : {A : Type 0} (l : List A) (n : ℕ) {m most : ℕ} → length l ≡ most → m ≡ min n most → take m l ≡ take n l
lent l n long e = rw e (held l n long)

-- n units, of i figures of at most `most` units each
pub record Running (unit most i : ℕ) (n x : ℤ) : Type 0 where
  pub is : Is unit n x
  pub size : nat_abs n ≤ i * most

pub none : {k B : ℕ} → Running k B 0 (pos 0) (pos 0)
none {k} = record { is = record { is = ring (pos k ∷ []) (# 0) (# 0 ⊗ v 0) tt }; size = omega arith }

module _ {k B i : ℕ} {m n x y : ℤ} (p : Running k B i m x) (q : Figure k B n y) where
  one_more : nat_abs (m +ℤ n) ≤ (i + 1) * B
  one_more = omega (arith, bound-add m n p.size q.size.size)

  pub more : Running k B (i + 1) (m +ℤ n) (x +ℤ y)
  more = record { is = plus p.is q.is; size = one_more }

  pub more-fits : {w : Width} (most : ℕ) → i < most → T (ltb (most * B) (2 ^ hbits w)) → SFits w (m +ℤ n)
  more-fits {w} most h t =
      let fewer : i + 1 ≤ most = omega arith in
      sfits_abs (lt_of_le_of_lt (le_trans one_more (mul-le-mul_right B fewer)) (ltb→lt _ (2 ^ hbits w) t))

-- at most so many in all
pub at_most : {k B i : ℕ} {n x : ℤ} (most : ℕ) → i ≤ most → Running k B i n x → Figure k (most * B) n x
at_most {B = B} most h p = record { is = p.is; size = record { size = le_trans p.size (mul-le-mul_right B h) } }

-- the step of a loop over the lines
pub summed : {A B : Type 0} (f : B → ℤ) (g : A → B) (l : List A) (d : A) {k most i : ℕ} {m n : ℤ} → i < length l →
    Running k most i m (first f g l i) → Figure k most n (f (g (get_or l i d))) → Running k most (i + 1) (m +ℤ n) (first f g l (i + 1))
summed f g l d {k} {most} {i} {m} {n} h p q =
    subst (λ (x : ℤ). Running k most (i + 1) (m +ℤ n) x) (sym (ap (first f g l) (add-one i) ∙ next f g l i d h)) (more p q)

-- two figures of each line, summed in one loop: m and n units over the first i lines
pub record Both {A B : Type 0} (f g : B → ℤ) (shown : A → B) (l : List A) (unit most₁ most₂ i : ℕ) (m n : ℤ) : Type 0 where
  pub one : Running unit most₁ i m (first f shown l i)
  pub two : Running unit most₂ i n (first g shown l i)

module _ {A B : Type 0} {f g : B → ℤ} {shown : A → B} {l : List A} {unit most₁ most₂ : ℕ} where
  pub begun : Both f g shown l unit most₁ most₂ 0 (pos 0) (pos 0)
  unfolding sum
  begun = record { one = none; two = none }

  pub again : (d : A) {i : ℕ} {m n a b x y : ℤ} → i < length l → Both f g shown l unit most₁ most₂ i m n →
      Figure unit most₁ a (f (shown (get_or l i d))) → Figure unit most₂ b (g (shown (get_or l i d))) →
      x ≡ m +ℤ a → y ≡ n +ℤ b → Both f g shown l unit most₁ most₂ (i + 1) x y
  again d h p q₁ q₂ e₁ e₂ = rw (e₁, e₂) (record { one = summed f shown l d h p.one q₁; two = summed g shown l d h p.two q₂ })
