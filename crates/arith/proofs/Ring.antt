-- Polynomial identities over ℤ, by computation. An expression is reified as an `Ex`, normalised as a Horner polynomial with numerals for
-- coefficients, and the difference of the two sides is tested for zero:
--     ring (a ∷ b ∷ []) ((v 0 ⊕ v 1) ⊗ v 0) (v 0 ⊗ v 0 ⊕ v 0 ⊗ v 1) tt : (a +ℤ b) *ℤ a ≡ a *ℤ a +ℤ a *ℤ b
-- Assumes nothing.
use mathlib.Core.Path.{◌≡◌, refl, sym, ap, ap₂, ◌∙◌}
use mathlib.Core.Bool.{Bool, true, false, ◌&&◌}
use mathlib.Core.List.{List, [], ◌∷◌}
use Prim.Native.Nat.{ℕ, zero, suc, ◌+◌, ◌*◌}
use native.Mathlib.Omega.{arith}
use lib.Dec.{T}
use lib.IntN.{ℤ, pos, negsuc, neg_ℤ, nat_abs, ◌+ℤ◌, ◌-ℤ◌, ◌*ℤ◌, +ℤ_assoc, +ℤ_idl}
use lib.Signed.{non_neg, pos-nat_abs}
use Rattle.arith.proofs.Int.{self, rep_eq, r-pos, r-add, r-neg, r-mul, neg_ℤ_one_*ℤ}

-- ---- expressions: a variable by its place, a number, a sum, a difference, a product, a negation
infixl 6 ◌⊕◌ ◌⊖◌
infixl 7 ◌⊗◌
pub data Ex : Type 0 where
  v : ℕ → Ex
  lit : ℤ → Ex
  ◌⊕◌ ◌⊖◌ ◌⊗◌ : Ex → Ex → Ex
  ⊝ : Ex → Ex

abbrev pub # : ℕ → Ex
# n = lit (pos n)

abbrev pub at : List ℤ → ℕ → ℤ
at [] i = pos 0
at (x ∷ xs) zero = x
at (x ∷ xs) (suc i) = at xs i

abbrev pub den : Ex → (ℕ → ℤ) → ℤ
den (v i) ρ = ρ i
den (lit k) ρ = k
den (a ⊕ b) ρ = den a ρ +ℤ den b ρ
den (a ⊖ b) ρ = den a ρ -ℤ den b ρ
den (a ⊗ b) ρ = den a ρ *ℤ den b ρ
den (⊝ a) ρ = neg_ℤ (den a ρ)

-- ---- polynomials: a number, or `hor c q` = c + x·q, with x the first variable and c a polynomial in the others
pub data P : Type 0 where
  con : ℤ → P
  hor : P → P → P

abbrev pub shift : (ℕ → ℤ) → ℕ → ℤ
shift ρ i = ρ (suc i)

unfoldable pub ev : P → (ℕ → ℤ) → ℤ
ev (con c) ρ = c
ev (hor c q) ρ = ev c (shift ρ) +ℤ ρ 0 *ℤ ev q ρ

abbrev pub var : ℕ → P
var zero = hor (con (pos 0)) (con (pos 1))
var (suc i) = hor (var i) (con (pos 0))

abbrev pub add_c : ℤ → P → P
add_c a (con b) = con (a +ℤ b)
add_c a (hor c q) = hor (add_c a c) q

abbrev pub add : P → P → P
add (con a) p = add_c a p
add (hor c q) (con b) = hor (add_c b c) q
add (hor c q) (hor d r) = hor (add c d) (add q r)

abbrev pub scl : ℤ → P → P
scl a (con b) = con (a *ℤ b)
scl a (hor c q) = hor (scl a c) (scl a q)

abbrev pub scale : ℤ → P → P
scale (pos zero) p = con (pos 0)
scale (pos (suc n)) p = scl (pos (suc n)) p
scale (negsuc n) p = scl (negsuc n) p

-- f is the product with a polynomial in the other variables
abbrev pub under : (P → P) → P → P
under f (con b) = hor (f (con b)) (con (pos 0))
under f (hor d r) = hor (f d) (under f r)

abbrev pub mul : P → P → P
mul (con a) p = scale a p
mul (hor c q) p = add (under (λ d. mul c d) p) (hor (con (pos 0)) (mul q p))

abbrev pub norm : Ex → P
norm (v i) = var i
norm (lit k) = con k
norm (a ⊕ b) = add (norm a) (norm b)
norm (a ⊖ b) = add (norm a) (scl (negsuc 0) (norm b))
norm (a ⊗ b) = mul (norm a) (norm b)
norm (⊝ a) = scl (negsuc 0) (norm a)

abbrev pub zero_z : ℤ → Bool
zero_z (pos zero) = true
zero_z (pos (suc n)) = false
zero_z (negsuc n) = false

abbrev pub zero? : P → Bool
zero? (con c) = zero_z c
zero? (hor c q) = zero? c && zero? q

-- ---- they mean the same
law_hor : (a c x q : ℤ) → a *ℤ c +ℤ x *ℤ (a *ℤ q) ≡ a *ℤ (c +ℤ x *ℤ q)
law_hor a c x q = rep_eq (r-add (r-mul (self a) (self c)) (r-mul (self x) (r-mul (self a) (self q))))
    (r-mul (self a) (r-add (self c) (r-mul (self x) (self q)))) (omega arith)

law_swap : (b c w : ℤ) → (b +ℤ c) +ℤ w ≡ (c +ℤ w) +ℤ b
law_swap b c w = rep_eq (r-add (r-add (self b) (self c)) (self w)) (r-add (r-add (self c) (self w)) (self b)) (omega arith)

law_add : (c d x q r : ℤ) → (c +ℤ d) +ℤ x *ℤ (q +ℤ r) ≡ (c +ℤ x *ℤ q) +ℤ (d +ℤ x *ℤ r)
law_add c d x q r = rep_eq (r-add (r-add (self c) (self d)) (r-mul (self x) (r-add (self q) (self r))))
    (r-add (r-add (self c) (r-mul (self x) (self q))) (r-add (self d) (r-mul (self x) (self r)))) (omega arith)

law_mul : (c p x q : ℤ) → c *ℤ p +ℤ (pos 0 +ℤ x *ℤ (q *ℤ p)) ≡ (c +ℤ x *ℤ q) *ℤ p
law_mul c p x q = rep_eq (r-add (r-mul (self c) (self p)) (r-add (r-pos 0) (r-mul (self x) (r-mul (self q) (self p)))))
    (r-mul (r-add (self c) (r-mul (self x) (self q))) (self p)) (omega arith)

pub law_zero : (c x : ℤ) → c +ℤ x *ℤ pos 0 ≡ c
law_zero c x = rep_eq (r-add (self c) (r-mul (self x) (r-pos 0))) (self c) (omega arith)

law_one : (x : ℤ) → pos 0 +ℤ x *ℤ pos 1 ≡ x
law_one x = rep_eq (r-add (r-pos 0) (r-mul (self x) (r-pos 1))) (self x) (omega arith)

law_null : (x : ℤ) → pos 0 ≡ pos 0 *ℤ x
law_null x = rep_eq (r-pos 0) (r-mul (r-pos 0) (self x)) (omega arith)

pub law_sub : (x y : ℤ) → x -ℤ y +ℤ y ≡ x
law_sub x y = rep_eq (r-add (r-add (self x) (r-neg (self y))) (self y)) (self x) (omega arith)

ev-var : (i : ℕ) (ρ : ℕ → ℤ) → ρ i ≡ ev (var i) ρ
unfolding ev
ev-var zero ρ = sym (law_one (ρ 0))
ev-var (suc i) ρ = ev-var i (shift ρ) ∙ sym (law_zero (ev (var i) (shift ρ)) (ρ 0))

ev-add_c : (a : ℤ) (p : P) (ρ : ℕ → ℤ) → ev (add_c a p) ρ ≡ a +ℤ ev p ρ
unfolding ev
ev-add_c a (con b) ρ = refl
ev-add_c a (hor c q) ρ = ap (λ (z : ℤ). z +ℤ ρ 0 *ℤ ev q ρ) (ev-add_c a c (shift ρ)) ∙ +ℤ_assoc a (ev c (shift ρ)) (ρ 0 *ℤ ev q ρ)

ev-add : (p q : P) (ρ : ℕ → ℤ) → ev (add p q) ρ ≡ ev p ρ +ℤ ev q ρ
unfolding ev
ev-add (con a) q ρ = ev-add_c a q ρ
ev-add (hor c q) (con b) ρ = ap (λ (z : ℤ). z +ℤ ρ 0 *ℤ ev q ρ) (ev-add_c b c (shift ρ)) ∙ law_swap b (ev c (shift ρ)) (ρ 0 *ℤ ev q ρ)
ev-add (hor c q) (hor d r) ρ = ap₂ (λ (y z : ℤ). y +ℤ ρ 0 *ℤ z) (ev-add c d (shift ρ)) (ev-add q r ρ)
    ∙ law_add (ev c (shift ρ)) (ev d (shift ρ)) (ρ 0) (ev q ρ) (ev r ρ)

ev-scl : (a : ℤ) (p : P) (ρ : ℕ → ℤ) → ev (scl a p) ρ ≡ a *ℤ ev p ρ
unfolding ev
ev-scl a (con b) ρ = refl
ev-scl a (hor c q) ρ = ap₂ (λ (y z : ℤ). y +ℤ ρ 0 *ℤ z) (ev-scl a c (shift ρ)) (ev-scl a q ρ) ∙ law_hor a (ev c (shift ρ)) (ρ 0) (ev q ρ)

ev-scale : (a : ℤ) (p : P) (ρ : ℕ → ℤ) → ev (scale a p) ρ ≡ a *ℤ ev p ρ
unfolding ev
ev-scale (pos zero) p ρ = law_null (ev p ρ)
ev-scale (pos (suc n)) p ρ = ev-scl (pos (suc n)) p ρ
ev-scale (negsuc n) p ρ = ev-scl (negsuc n) p ρ

ev-under : (f : P → P) (c : ℤ) (ρ : ℕ → ℤ) → ((d : P) → ev (f d) (shift ρ) ≡ c *ℤ ev d (shift ρ)) → (p : P) → ev (under f p) ρ ≡ c *ℤ ev p ρ
unfolding ev
ev-under f c ρ h (con b) = law_zero (ev (f (con b)) (shift ρ)) (ρ 0) ∙ h (con b)
ev-under f c ρ h (hor d r) = ap₂ (λ (y z : ℤ). y +ℤ ρ 0 *ℤ z) (h d) (ev-under f c ρ h r) ∙ law_hor c (ev d (shift ρ)) (ρ 0) (ev r ρ)

ev-mul : (p q : P) (ρ : ℕ → ℤ) → ev (mul p q) ρ ≡ ev p ρ *ℤ ev q ρ
unfolding ev
ev-mul (con a) q ρ = ev-scale a q ρ
ev-mul (hor c r) q ρ =
    ev-add (under (λ d. mul c d) q) (hor (con (pos 0)) (mul r q)) ρ
    ∙ ap₂ (λ (y z : ℤ). y +ℤ (pos 0 +ℤ ρ 0 *ℤ z)) (ev-under (λ d. mul c d) (ev c (shift ρ)) ρ (λ d. ev-mul c d (shift ρ)) q) (ev-mul r q ρ)
    ∙ law_mul (ev c (shift ρ)) (ev q ρ) (ρ 0) (ev r ρ)

ev-neg : (p : P) (ρ : ℕ → ℤ) → ev (scl (negsuc 0) p) ρ ≡ neg_ℤ (ev p ρ)
ev-neg p ρ = ev-scl (negsuc 0) p ρ ∙ neg_ℤ_one_*ℤ (ev p ρ)

pub sound : (e : Ex) (ρ : ℕ → ℤ) → den e ρ ≡ ev (norm e) ρ
unfolding ev
sound (v i) ρ = ev-var i ρ
sound (lit k) ρ = refl
sound (a ⊕ b) ρ = ap₂ ◌+ℤ◌ (sound a ρ) (sound b ρ) ∙ sym (ev-add (norm a) (norm b) ρ)
sound (a ⊖ b) ρ = ap₂ (λ (x y : ℤ). x +ℤ neg_ℤ y) (sound a ρ) (sound b ρ) ∙ ap (λ (z : ℤ). ev (norm a) ρ +ℤ z) (sym (ev-neg (norm b) ρ))
    ∙ sym (ev-add (norm a) (scl (negsuc 0) (norm b)) ρ)
sound (a ⊗ b) ρ = ap₂ ◌*ℤ◌ (sound a ρ) (sound b ρ) ∙ sym (ev-mul (norm a) (norm b) ρ)
sound (⊝ a) ρ = ap neg_ℤ (sound a ρ) ∙ sym (ev-neg (norm a) ρ)

pub both_left : (a b : Bool) → T (a && b) → T a
both_left true b t = tt
both_left false b t = t

pub both_right : (a b : Bool) → T (a && b) → T b
both_right true b t = t
both_right false b t = absurd t

is-zero_z : (c : ℤ) → T (zero_z c) → c ≡ pos 0
is-zero_z (pos zero) t = refl
is-zero_z (pos (suc n)) t = absurd t
is-zero_z (negsuc n) t = absurd t

pub is_zero : (p : P) (ρ : ℕ → ℤ) → T (zero? p) → ev p ρ ≡ pos 0
unfolding ev
is_zero (con c) ρ t = is-zero_z c t
is_zero (hor c q) ρ t = ap₂ (λ (y z : ℤ). y +ℤ ρ 0 *ℤ z) (is_zero c (shift ρ) (both_left (zero? c) (zero? q) t))
    (is_zero q ρ (both_right (zero? c) (zero? q) t)) ∙ law_zero (pos 0) (ρ 0)

ring' : (ρ : ℕ → ℤ) (l r : Ex) → T (zero? (norm (l ⊖ r))) → den l ρ ≡ den r ρ
ring' ρ l r t = sym (law_sub (den l ρ) (den r ρ)) ∙ ap (λ (z : ℤ). z +ℤ den r ρ) (sound (l ⊖ r) ρ ∙ is_zero (norm (l ⊖ r)) ρ t) ∙ +ℤ_idl (den r ρ)

-- THE THEOREM: the two sides' difference is the zero polynomial
pub ring : (xs : List ℤ) (l r : Ex) → T (zero? (norm (l ⊖ r))) → den l (at xs) ≡ den r (at xs)
ring xs l r t = ring' (at xs) l r t

-- ---- the same over ℕ, for sums and products alone (`omega arith` does this too, up to 64 monomials)
abbrev pub at_ℕ : List ℕ → ℕ → ℕ
at_ℕ [] i = 0
at_ℕ (x ∷ xs) zero = x
at_ℕ (x ∷ xs) (suc i) = at_ℕ xs i

abbrev pub den_ℕ : Ex → (ℕ → ℕ) → ℕ
den_ℕ (v i) ρ = ρ i
den_ℕ (lit k) ρ = nat_abs k
den_ℕ (a ⊕ b) ρ = den_ℕ a ρ + den_ℕ b ρ
den_ℕ (a ⊖ b) ρ = 0
den_ℕ (a ⊗ b) ρ = den_ℕ a ρ * den_ℕ b ρ
den_ℕ (⊝ a) ρ = 0

abbrev pub nat? : Ex → Bool
nat? (v i) = true
nat? (lit k) = non_neg k
nat? (a ⊕ b) = nat? a && nat? b
nat? (a ⊖ b) = false
nat? (a ⊗ b) = nat? a && nat? b
nat? (⊝ a) = false

nat_is : (e : Ex) (ρ : ℕ → ℕ) → T (nat? e) → pos (den_ℕ e ρ) ≡ den e (λ i. pos (ρ i))
nat_is (v i) ρ t = refl
nat_is (lit k) ρ t = pos-nat_abs k t
nat_is (a ⊕ b) ρ t = ap₂ ◌+ℤ◌ (nat_is a ρ (both_left (nat? a) (nat? b) t)) (nat_is b ρ (both_right (nat? a) (nat? b) t))
nat_is (a ⊖ b) ρ t = absurd t
nat_is (a ⊗ b) ρ t = ap₂ ◌*ℤ◌ (nat_is a ρ (both_left (nat? a) (nat? b) t)) (nat_is b ρ (both_right (nat? a) (nat? b) t))
nat_is (⊝ a) ρ t = absurd t

pub ring_ℕ : (xs : List ℕ) (l r : Ex) → T (nat? l && (nat? r && zero? (norm (l ⊖ r)))) → den_ℕ l (at_ℕ xs) ≡ den_ℕ r (at_ℕ xs)
ring_ℕ xs l r t = ap nat_abs (nat_is l (at_ℕ xs) (both_left (nat? l) (nat? r && zero? (norm (l ⊖ r))) t)
    ∙ ring' (λ i. pos (at_ℕ xs i)) l r (both_right (nat? r) (zero? (norm (l ⊖ r))) u)
    ∙ sym (nat_is r (at_ℕ xs) (both_left (nat? r) (zero? (norm (l ⊖ r))) u)))
  where
    u : T (nat? r && zero? (norm (l ⊖ r)))
    u = both_right (nat? l) (nat? r && zero? (norm (l ⊖ r))) t
