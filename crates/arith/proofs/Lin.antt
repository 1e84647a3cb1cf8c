-- Facts of ℤ that follow from others, by a certificate: the goal's difference is the sum of the hypotheses' differences, each times what
-- its `Hyp` says, and a numeral that is not negative. Polynomials are compared, so nothing need be linear:
--     below (a ∷ b ∷ []) 0 (leq 2 (v 0) (v 1) ∷ []) (# 2 ⊗ v 0) (# 2 ⊗ v 1 ⊕ # 7) tt : a ≤ℤ b → (pos 2 *ℤ a) ≤ℤ (pos 2 *ℤ b +ℤ pos 7)
--     equal (a ∷ b ∷ []) 0 (eqn (v 0) (v 0) (v 1) ∷ []) (v 0 ⊗ v 0) (v 0 ⊗ v 1) tt : a ≡ b → a *ℤ a ≡ a *ℤ b
-- Assumes nothing.
use mathlib.Core.Path.{◌≡◌, refl, sym, ap₂, ◌∙◌, subst}
use mathlib.Core.Bool.{Bool, true, false, ◌&&◌}
use mathlib.Core.List.{List, [], ◌∷◌}
use Prim.Native.Nat.{ℕ, suc}
use lib.Dec.{T}
use lib.IntN.{ℤ, pos, negsuc, ◌+ℤ◌, ◌-ℤ◌, ◌*ℤ◌}
use lib.Signed.{◌≤ℤ◌, ◌<ℤ◌, non_neg}
use Rattle.arith.proofs.Ring.{Ex, v, #, ◌⊕◌, ◌⊖◌, ◌⊗◌, at, den, ring, P, con, hor, ev, shift, norm, zero?, sound, is_zero, both_left, both_right, law_zero}
use Rattle.arith.proofs.Order.{arithℤ, parts, nonneg_mul, sub_nonneg, le-of-sub, nonneg_square}

-- a hypothesis, and how often it is taken: an equation any polynomial times, an inequality a natural number of times.
-- `prd` takes two hypotheses' product, and `sqr`, which asks for no proof (tt), a square
pub data Hyp : Type 0 where
  eqn : Ex → Ex → Ex → Hyp
  leq ltn : ℕ → Ex → Ex → Hyp
  prd : Hyp → Hyp → Hyp
  sqr : ℕ → Ex → Hyp

abbrev pub Says : (ℕ → ℤ) → Hyp → Type 0
Says ρ (eqn m l r) = den l ρ ≡ den r ρ
Says ρ (leq k l r) = den l ρ ≤ℤ den r ρ
Says ρ (ltn k l r) = den l ρ <ℤ den r ρ
Says ρ (prd g h) = Says ρ g × Says ρ h
Says ρ (sqr k e) = Unit {0}

abbrev pub gain : Hyp → Ex
gain (eqn m l r) = m ⊗ (r ⊖ l)
gain (leq k l r) = # k ⊗ (r ⊖ l)
gain (ltn k l r) = # k ⊗ (r ⊖ l ⊖ # 1)
gain (prd g h) = gain g ⊗ gain h
gain (sqr k e) = # k ⊗ (e ⊗ e)

abbrev pub gains : List Hyp → Ex
gains [] = # 0
gains (h ∷ hs) = gain h ⊕ gains hs

abbrev pub Imp : (ℕ → ℤ) → List Hyp → Type 0 → Type 0
Imp ρ [] G = G
Imp ρ (h ∷ hs) G = Says ρ h → Imp ρ hs G

abbrev Holds : (ℕ → ℤ) → List Hyp → Type 0
Holds ρ [] = Unit {0}
Holds ρ (h ∷ hs) = Says ρ h × Holds ρ hs

curry : (ρ : ℕ → ℤ) (hs : List Hyp) (G : Type 0) → (Holds ρ hs → G) → Imp ρ hs G
curry ρ [] G f = f tt
curry ρ (h ∷ hs) G f = λ p. curry ρ hs G (λ ps. f (p, ps))

zero_gain : (m l r : ℤ) → l ≡ r → m *ℤ (r -ℤ l) ≡ pos 0
zero_gain m l r e = subst (λ (z : ℤ). m *ℤ (z -ℤ l) ≡ pos 0) e (ring (m ∷ l ∷ []) (v 0 ⊗ (v 1 ⊖ v 1)) (# 0) tt)

nonneg_nat : (k : ℕ) → pos 0 ≤ℤ pos k
nonneg_nat k = omega arithℤ

nonneg_add : (a b : ℤ) → pos 0 ≤ℤ a → pos 0 ≤ℤ b → pos 0 ≤ℤ (a +ℤ b)
nonneg_add a b h k = omega (arithℤ, parts (a ∷ b ∷ []) (v 0 ⊕ v 1))

one_less : (l r : ℤ) → l <ℤ r → pos 0 ≤ℤ (r -ℤ l -ℤ pos 1)
one_less l r h = omega (arithℤ, parts (l ∷ r ∷ []) (v 1 ⊖ v 0 ⊖ # 1))

one_more : (l r : ℤ) → (l +ℤ pos 1) ≤ℤ r → l <ℤ r
one_more l r h = omega (arithℤ, parts (l ∷ []) (v 0 ⊕ # 1))

gain≥ : (ρ : ℕ → ℤ) (h : Hyp) → Says ρ h → pos 0 ≤ℤ den (gain h) ρ
gain≥ ρ (eqn m l r) p = subst (λ (z : ℤ). pos 0 ≤ℤ z) (sym (zero_gain (den m ρ) (den l ρ) (den r ρ) p)) (nonneg_nat 0)
gain≥ ρ (leq k l r) p = nonneg_mul (nonneg_nat k) (sub_nonneg p)
gain≥ ρ (ltn k l r) p = nonneg_mul (nonneg_nat k) (one_less (den l ρ) (den r ρ) p)
gain≥ ρ (prd g h) p = nonneg_mul (gain≥ ρ g p.0) (gain≥ ρ h p.1)
gain≥ ρ (sqr k e) p = nonneg_mul (nonneg_nat k) (nonneg_square (den e ρ))

gains≥ : (ρ : ℕ → ℤ) (hs : List Hyp) → Holds ρ hs → pos 0 ≤ℤ den (gains hs) ρ
gains≥ ρ [] p = nonneg_nat 0
gains≥ ρ (h ∷ hs) p = nonneg_add (den (gain h) ρ) (den (gains hs) ρ) (gain≥ ρ h p.0) (gains≥ ρ hs p.1)

abbrev pub nonneg? : P → Bool
nonneg? (con c) = non_neg c
nonneg? (hor c q) = nonneg? c && zero? q

yes_nat : (c : ℤ) → T (non_neg c) → pos 0 ≤ℤ c
yes_nat (pos n) t = nonneg_nat n
yes_nat (negsuc n) t = absurd t

is_nonneg : (p : P) (ρ : ℕ → ℤ) → T (nonneg? p) → pos 0 ≤ℤ ev p ρ
unfolding ev
is_nonneg (con c) ρ t = yes_nat c t
is_nonneg (hor c q) ρ t =
    subst (λ (z : ℤ). pos 0 ≤ℤ (ev c (shift ρ) +ℤ ρ 0 *ℤ z)) (sym (is_zero q ρ (both_right (nonneg? c) (zero? q) t)))
    (subst (λ (z : ℤ). pos 0 ≤ℤ z) (sym (law_zero (ev c (shift ρ)) (ρ 0))) (is_nonneg c (shift ρ) (both_left (nonneg? c) (zero? q) t)))

div_out : (k : ℕ) (z : ℤ) → pos 0 ≤ℤ (pos (suc k) *ℤ z +ℤ pos k) → pos 0 ≤ℤ z
div_out k (pos n) h = nonneg_nat n
div_out k (negsuc n) h = omega (arithℤ, parts (pos (suc k) ∷ negsuc n ∷ pos k ∷ []) (v 0 ⊗ v 1 ⊕ v 2))

sum≥ : (s g : ℤ) → pos 0 ≤ℤ g → pos 0 ≤ℤ (s -ℤ g) → pos 0 ≤ℤ s
sum≥ s g a b = omega (arithℤ, parts (s ∷ g ∷ []) (v 0 ⊖ v 1))

-- (k + 1)·(r − l) + k
abbrev pub slack : ℕ → Ex → Ex → Ex
slack k l r = # (suc k) ⊗ (r ⊖ l) ⊕ # k

below' : (ρ : ℕ → ℤ) (k : ℕ) (hs : List Hyp) (l r : Ex) → T (nonneg? (norm (slack k l r ⊖ gains hs))) → Holds ρ hs → den l ρ ≤ℤ den r ρ
below' ρ k hs l r t p = le-of-sub (div_out k (den r ρ -ℤ den l ρ) (sum≥ (den (slack k l r) ρ) (den (gains hs) ρ) (gains≥ ρ hs p)
    (subst (λ (z : ℤ). pos 0 ≤ℤ z) (sym (sound (slack k l r ⊖ gains hs) ρ)) (is_nonneg (norm (slack k l r ⊖ gains hs)) ρ t))))

-- THE THEOREMS. (k + 1)·(r − l) + k is the hypotheses' sum and a numeral that is not negative: so l ≤ r
pub below : (xs : List ℤ) (k : ℕ) (hs : List Hyp) (l r : Ex) → T (nonneg? (norm (slack k l r ⊖ gains hs))) → Imp (at xs) hs (den l (at xs) ≤ℤ den r (at xs))
below xs k hs l r t = curry (at xs) hs (den l (at xs) ≤ℤ den r (at xs)) (λ p. below' (at xs) k hs l r t p)

-- the same for l < r, which is l + 1 ≤ r
pub under : (xs : List ℤ) (k : ℕ) (hs : List Hyp) (l r : Ex) → T (nonneg? (norm (slack k (l ⊕ # 1) r ⊖ gains hs)))
    → Imp (at xs) hs (den l (at xs) <ℤ den r (at xs))
under xs k hs l r t = curry (at xs) hs (den l (at xs) <ℤ den r (at xs)) (λ p. one_more (den l (at xs)) (den r (at xs)) (below' (at xs) k hs (l ⊕ # 1) r t p))

-- ---- equations from equations
abbrev pub eqn? : Hyp → Bool
eqn? (eqn m l r) = true
eqn? (leq k l r) = false
eqn? (ltn k l r) = false
eqn? (prd g h) = false
eqn? (sqr k e) = false

abbrev pub eqns? : List Hyp → Bool
eqns? [] = true
eqns? (h ∷ hs) = eqn? h && eqns? hs

gain0 : (ρ : ℕ → ℤ) (h : Hyp) → T (eqn? h) → Says ρ h → den (gain h) ρ ≡ pos 0
gain0 ρ (eqn m l r) t p = zero_gain (den m ρ) (den l ρ) (den r ρ) p
gain0 ρ (leq k l r) t p = absurd t
gain0 ρ (ltn k l r) t p = absurd t
gain0 ρ (prd g h) t p = absurd t
gain0 ρ (sqr k e) t p = absurd t

gains0 : (ρ : ℕ → ℤ) (hs : List Hyp) → T (eqns? hs) → Holds ρ hs → den (gains hs) ρ ≡ pos 0
gains0 ρ [] t p = refl
gains0 ρ (h ∷ hs) t p = ap₂ ◌+ℤ◌ (gain0 ρ h (both_left (eqn? h) (eqns? hs) t) p.0) (gains0 ρ hs (both_right (eqn? h) (eqns? hs) t) p.1)

null' : (k : ℕ) (z g : ℤ) → g ≡ pos 0 → pos (suc k) *ℤ z -ℤ g ≡ pos 0 → z ≡ pos 0
null' k (pos n) g e h = omega (arithℤ, parts (pos (suc k) ∷ pos n ∷ g ∷ []) (v 0 ⊗ v 1 ⊖ v 2))
null' k (negsuc n) g e h = omega (arithℤ, parts (pos (suc k) ∷ negsuc n ∷ g ∷ []) (v 0 ⊗ v 1 ⊖ v 2))

sub_null : (l r : ℤ) → r -ℤ l ≡ pos 0 → l ≡ r
sub_null l r h = omega (arithℤ, parts (l ∷ r ∷ []) (v 1 ⊖ v 0))

-- (k + 1)·(r − l) is the equations' sum: so l ≡ r
pub equal : (xs : List ℤ) (k : ℕ) (hs : List Hyp) (l r : Ex) → T (eqns? hs && zero? (norm (# (suc k) ⊗ (r ⊖ l) ⊖ gains hs)))
    → Imp (at xs) hs (den l (at xs) ≡ den r (at xs))
equal xs k hs l r t = curry (at xs) hs (den l (at xs) ≡ den r (at xs))
    (λ p. sub_null (den l (at xs)) (den r (at xs)) (null' k (den r (at xs) -ℤ den l (at xs)) (den (gains hs) (at xs))
    (gains0 (at xs) hs (both_left (eqns? hs) (zero? (norm (# (suc k) ⊗ (r ⊖ l) ⊖ gains hs))) t) p)
    (sound (# (suc k) ⊗ (r ⊖ l) ⊖ gains hs) (at xs) ∙ is_zero (norm (# (suc k) ⊗ (r ⊖ l) ⊖ gains hs)) (at xs)
    (both_right (eqns? hs) (zero? (norm (# (suc k) ⊗ (r ⊖ l) ⊖ gains hs))) t))))
