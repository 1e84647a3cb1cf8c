-- A line's quantities are checked one after the other, each passing the first fault on: what the last one says is the first field
-- outside its range. Assumes nothing.
use Prim.Native.Nat.{ℕ, suc, ◌<◌}
use mathlib.Core.Path.{◌≡◌, refl, ap}
use mathlib.Core.Bool.{Bool, true, false, cond}
use mathlib.Core.List.{List, [], ◌∷◌}
use mathlib.Core.Option.{some}
use native.Mathlib.Omega.{arith}
use lib.Dec.{eqb-suc-zero}
use lib.IntN.{ℤ}
use Rattle.sheet.specs.Quantities.{Field}
use Rattle.limits.specs.Checked.{in_range, first_fault, Measured}
use Rattle.document.specs.Schema.{within, outside_of, on}
use Rattle.due.specs.Taking.{fault_of, held_to}

-- the fault after some fields, with the fault before them
unfoldable pub chained : ℕ → ℕ → List Field → List ℤ → ℕ
chained fault i [] zs = fault
chained fault i (f ∷ fs) [] = fault
chained fault i (f ∷ fs) (z ∷ zs) = chained (cond (in_range f.least f.greatest z) fault (first_fault fault i)) (suc i) fs zs

by_test : (P : Bool → Type 0) → P true → P false → (t : Bool) → P t
by_test P p q true = p
by_test P p q false = q

chained-kept : (n i : ℕ) (fs : List Field) (zs : List ℤ) → chained (suc n) i fs zs ≡ suc n
unfolding chained first_fault
chained-kept n i [] zs = refl
chained-kept n i (f ∷ fs) [] = refl
chained-kept n i (f ∷ fs) (z ∷ zs) =
    let r = chained-kept n (suc i) fs zs in
    let k : first_fault (suc n) i ≡ suc n = rw eqb-suc-zero in
    by_test (λ t. chained (cond t (suc n) (first_fault (suc n) i)) (suc i) fs zs ≡ suc n) r (rw k r) (in_range f.least f.greatest z)

pub chained-first : (i : ℕ) (fs : List Field) (zs : List ℤ) → chained 0 (suc i) fs zs ≡ fault_of (suc i) fs zs
unfolding chained fault_of first_fault in_range
chained-first i [] zs = refl
chained-first i (f ∷ fs) [] = refl
chained-first i (f ∷ fs) (z ∷ zs) =
    by_test (λ t. chained (cond t 0 (suc i)) (suc (suc i)) fs zs ≡ cond t (fault_of (suc (suc i)) fs zs) (suc i))
    (chained-first (suc i) fs zs) (chained-kept i (suc (suc i)) fs zs) (within f z)

-- where no field is outside its range, the numbers are held as they are
pub held-clean : (i : ℕ) (fs : List Field) (zs : List ℤ) → fault_of (suc i) fs zs ≡ 0 → held_to fs zs ≡ zs
unfolding fault_of held_to
held-clean i [] zs e = refl
held-clean i (f ∷ fs) [] e = refl
held-clean i (f ∷ fs) (z ∷ zs) e =
    by_test (λ t. within f z ≡ t → held_to (f ∷ fs) (z ∷ zs) ≡ z ∷ zs)
    (λ q. rw q (ap (λ (l : List ℤ). z ∷ l) (held-clean (suc i) fs zs (rw q at e)))) (λ q. absurd (let k : suc i ≡ 0 = rw q at e in omega arith))
    (within f z) refl

-- what is held is what a constructor hands out, and so within the limits
pub held_measured : (f : Field) (z x : ℤ) → x ≡ cond (within f z) z f.least
    → Measured f.least f.greatest z 0 1 x (cond (in_range f.least f.greatest z) 0 (first_fault 0 1))
unfolding in_range
held_measured f z x e = record { amount = e; first = refl }

-- the first field outside its range, by both definitions
pub fault_is : (i : ℕ) (fs : List Field) (zs : List ℤ) → fault_of i fs zs ≡ on (outside_of i fs zs) 0 (λ j. j)
unfolding fault_of outside_of
fault_is i [] zs = refl
fault_is i (f ∷ fs) [] = refl
fault_is i (f ∷ fs) (z ∷ zs) =
    by_test (λ t. cond t (fault_of (suc i) fs zs) i ≡ on (cond t (outside_of (suc i) fs zs) (some i)) 0 (λ j. j)) (fault_is (suc i) fs zs) refl (within f z)

pub outside-some : (i : ℕ) (fs : List Field) (zs : List ℤ) (j : ℕ) → outside_of (suc i) fs zs ≡ some j → 0 < j
unfolding outside_of
outside-some i [] zs j e = absurd (let z : ◌≡◌ {A = ℕ} 0 1 = cc in omega arith)
outside-some i (f ∷ fs) [] j e = absurd (let z : ◌≡◌ {A = ℕ} 0 1 = cc in omega arith)
outside-some i (f ∷ fs) (z ∷ zs) j e =
    by_test (λ t. cond t (outside_of (suc (suc i)) fs zs) (some (suc i)) ≡ some j → 0 < j) (outside-some (suc i) fs zs j)
    (λ e. let p : suc i ≡ j = cc in omega arith) (within f z) e
