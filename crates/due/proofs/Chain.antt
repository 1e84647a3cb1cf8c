-- Checking constructors in a row: a line's quantities and the fault that each passes on. Assumes nothing.
use Prim.Native.Nat.{ℕ, zero, suc, ◌+◌}
use mathlib.Core.Path.{◌≡◌, refl, sym, ap, ap₂, ◌∙◌, subst}
use mathlib.Core.List.{List, [], ◌∷◌, ◌++◌}
use native.Mathlib.Omega.{arith}
use lib.ListN.{length, get_or, replicate}
use lib.IntN.{ℤ, pos}
use Rattle.sheet.specs.Quantities.{Field}
use Rattle.limits.specs.declared.Number.{Number}
use Rattle.limits.specs.Checked.{Measured, in_range}
use Rattle.document.specs.Schema.{Row, plain}
use Rattle.due.specs.Taking.{from, held_to, Taken}
use Rattle.due.proofs.Ranges.{chained, chained-first, held-clean}

-- numbers zs checked against fields fs, counted from i, with a fault before and a fault after them; what is handed out
infixr 5 ◌&◌
pub data Chain : ℕ → ℕ → List Field → List ℤ → List ℤ → ℕ → Type 0 where
  done : {fault i : ℕ} → Chain fault i [] [] [] fault
  ◌&◌ : {least greatest z value : ℤ} {fault i after end : ℕ} {fs : List Field} {zs vs : List ℤ}
      → Measured least greatest z fault i value after → Chain after (suc i) fs zs vs end
      → Chain fault i (record { least = least; greatest = greatest } ∷ fs) (z ∷ zs) (value ∷ vs) end

chain_fault : {fault i end : ℕ} {fs : List Field} {zs vs : List ℤ} → Chain fault i fs zs vs end → end ≡ chained fault i fs zs
unfolding chained
chain_fault done = refl
chain_fault (◌&◌ {i = i} {fs = fs} {zs = zs} m c) = chain_fault c ∙ ap (λ (n : ℕ). chained n (suc i) fs zs) m.first

chain_held : {fault i end : ℕ} {fs : List Field} {zs vs : List ℤ} → Chain fault i fs zs vs end → vs ≡ held_to fs zs
unfolding held_to in_range
chain_held done = refl
chain_held (m & c) = ap₂ ◌∷◌ m.amount (chain_held c)

-- THE QUANTITIES OF A LINE, by the constructors' contracts
pub taken : {fs : List Field} {zs vs : List ℤ} {end : ℕ} {A : Type 0} (of : List ℤ → A) → Chain 0 1 fs zs vs end → Taken fs zs end (λ l. of vs ≡ of l)
taken {fs} {zs} of c = record { first = chain_fault c ∙ chained-first 0 fs zs; shown = ap of (chain_held c) }

pub taken_as : {A : Type 0} {fs : List Field} {zs vs : List ℤ} {end : ℕ} (of : Row → A) → Chain 0 1 fs zs vs end
    → Taken fs zs end (λ l. of (plain vs) ≡ of (plain l))
taken_as of = taken (λ l. of (plain l))

-- and where there is no fault they are the line's numbers
pub taken-clean : {fs : List Field} {zs : List ℤ} {fault : ℕ} {Shown : List ℤ → Type 0} → Taken fs zs fault Shown → fault ≡ 0 → Shown zs
taken-clean {fs} {zs} {Shown = Shown} t e = subst Shown (held-clean 0 fs zs (sym t.first ∙ e)) t.shown

-- one field more at the end
pub chain_snoc : {least greatest z value : ℤ} {fault i j end after : ℕ} {fs : List Field} {zs vs : List ℤ} → Chain fault i fs zs vs end
    → j ≡ i + length fs → Measured least greatest z end j value after
    → Chain fault i (fs ++ (record { least = least; greatest = greatest } ∷ [])) (zs ++ (z ∷ [])) (vs ++ (value ∷ [])) after
chain_snoc {least} {greatest} {z} {value} {fault} {i} {j} {after = after} done e m =
    let k : j ≡ i = omega arith in
    subst (λ (k : ℕ). Measured least greatest z fault k value after) k m & done
chain_snoc {i} {j} (◌&◌ {fs = gs} m c) e n =
    let k : j ≡ suc i + length gs = omega arith in
    m & chain_snoc c k n

-- the numbers of an array up to one more
pub from_end : (v : List Number) (j k : ℕ) → from j (suc k) v ≡ from j k v ++ ((get_or v (j + k) (record { 0 = pos 0 })).0 ∷ [])
from_end v j zero = let e : j + 0 ≡ j = omega arith in rw e
from_end v j (suc k) = let e : j + suc k ≡ suc j + k = omega arith in rw e (ap (λ (l : List ℤ). (get_or v j (record { 0 = pos 0 })).0 ∷ l) (from_end v (suc j) k))

pub replicate_end : {A : Type 0} (n : ℕ) (a : A) → replicate (suc n) a ≡ replicate n a ++ (a ∷ [])
replicate_end zero a = refl
replicate_end (suc n) a = ap (λ l. a ∷ l) (replicate_end n a)
