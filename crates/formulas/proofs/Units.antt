-- The definitions' unit is finer than the code's: what the code finds in its own units, as a whole number of them, is what the definitions
-- say. Each law follows one step of a formula. Assumes nothing.
use Prim.Native.Nat.{ℕ, ◌*◌, ◌<◌}
use mathlib.Core.Path.{◌≡◌, refl, sym, ap, ap₂, ◌∙◌}
use mathlib.Core.List.{[], ◌∷◌}
use lib.IntN.{ℤ, pos, ◌+ℤ◌, ◌-ℤ◌, ◌*ℤ◌}
use lib.Signed.{◌<ℤ◌, ≤ℤ_refl}
use Rattle.arith.specs.Nearest.{nearest}
use Rattle.arith.proofs.Ring.{v, #, ◌⊕◌, ◌⊖◌, ◌⊗◌, ring, ring_ℕ}
use Rattle.arith.proofs.Order.{≤ℤ-antisym, *ℤ-cancel_≤}
use Rattle.arith.proofs.NearestLaws.{nearest-scaled}
use Rattle.formulas.specs.Rounding.{paper}
use Rattle.formulas.specs.Figures.{Is}

pub units : {k : ℕ} {n : ℤ} → Is k n (n *ℤ pos k)
units = record { is = refl }

-- the same number of units, by equations of both
pub same : {k : ℕ} {m n x : ℤ} → m ≡ n → Is k n x → Is k m x
same {k} e p = record { is = p.is ∙ ap (λ (z : ℤ). z *ℤ pos k) (sym e) }

-- times a factor; in a unit that is m times as fine
pub times : {k : ℕ} {n x : ℤ} → Is k n x → (m : ℤ) → Is k (n *ℤ m) (x *ℤ m)
times {k} {n} p m = record { is = ap (λ (z : ℤ). z *ℤ m) p.is ∙ ring (n ∷ m ∷ pos k ∷ []) (v 0 ⊗ v 2 ⊗ v 1) (v 0 ⊗ v 1 ⊗ v 2) tt }

pub finer : {k : ℕ} {n x : ℤ} → Is k n x → (m : ℕ) → Is (k * m) n (x *ℤ pos m)
finer {k} {n} p m = record { is = ap (λ (z : ℤ). z *ℤ pos m) p.is ∙ ring (n ∷ pos k ∷ pos m ∷ []) (v 0 ⊗ v 1 ⊗ v 2) (v 0 ⊗ (v 1 ⊗ v 2)) tt }

-- m units are one that is m times as coarse
pub coarser : {k : ℕ} {n x : ℤ} (m : ℕ) → Is k (n *ℤ pos m) x → Is (m * k) n x
coarser {k} {n} m p = record { is = p.is ∙ ring (n ∷ pos m ∷ pos k ∷ []) (v 0 ⊗ v 1 ⊗ v 2) (v 0 ⊗ (v 1 ⊗ v 2)) tt }

scaled : (n : ℤ) (d : ℕ) {k : ℕ} → 0 < k → nearest (n *ℤ pos k) (d * k) ≡ nearest n d
scaled n d {k} h =
    ap₂ nearest (ring (n ∷ pos k ∷ []) (v 0 ⊗ v 1) (v 1 ⊗ v 0) tt) (ring_ℕ (d ∷ k ∷ []) (v 0 ⊗ v 1) (v 1 ⊗ v 0) tt)
    ∙ nearest-scaled n d h

-- in the definitions' own unit
pub exactly : {n x : ℤ} → n ≡ x → Is 1 n x
exactly {n} e = record { is = sym e ∙ ring (n ∷ []) (v 0) (v 0 ⊗ # 1) tt }

pub as_it_is : {n x : ℤ} → Is 1 n x → n ≡ x
as_it_is {n} p = ring (n ∷ []) (v 0) (v 0 ⊗ # 1) tt ∙ sym p.is

-- brought to a multiple of d units
pub rounds : {n x : ℤ} (d k : ℕ) → 0 < k → Is k n x → Is (d * k) (nearest n d) (paper.to (d * k) x)
rounds {n} d k h p =
    record { is = ap (λ (z : ℤ). nearest z (d * k) *ℤ pos (d * k)) p.is ∙ ap (λ (z : ℤ). z *ℤ pos (d * k)) (scaled n d h) }

pub plus : {k : ℕ} {m n x y : ℤ} → Is k m x → Is k n y → Is k (m +ℤ n) (x +ℤ y)
plus {k} {m} {n} p q = record { is = ap₂ ◌+ℤ◌ p.is q.is ∙ ring (m ∷ n ∷ pos k ∷ []) (v 0 ⊗ v 2 ⊕ v 1 ⊗ v 2) ((v 0 ⊕ v 1) ⊗ v 2) tt }

pub minus : {k : ℕ} {m n x y : ℤ} → Is k m x → Is k n y → Is k (m -ℤ n) (x -ℤ y)
minus {k} {m} {n} p q = record { is = ap₂ ◌-ℤ◌ p.is q.is ∙ ring (m ∷ n ∷ pos k ∷ []) (v 0 ⊗ v 2 ⊖ v 1 ⊗ v 2) ((v 0 ⊖ v 1) ⊗ v 2) tt }

-- no second number of units is the same
pub only : {k : ℕ} {m n x : ℤ} → pos 0 <ℤ pos k → Is k m x → Is k n x → m ≡ n
only {k} {m} {n} h p q =
    let turned : (z : ℤ) → z *ℤ pos k ≡ pos k *ℤ z = λ z. ring (z ∷ pos k ∷ []) (v 0 ⊗ v 1) (v 1 ⊗ v 0) tt in
    let e : pos k *ℤ m ≡ pos k *ℤ n = sym (turned m) ∙ sym p.is ∙ q.is ∙ turned n in
    ≤ℤ-antisym (*ℤ-cancel_≤ h (rw e (≤ℤ_refl (pos k *ℤ n)))) (*ℤ-cancel_≤ h (rw e (≤ℤ_refl (pos k *ℤ n))))
