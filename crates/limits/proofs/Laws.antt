-- What a caller learns from a checking constructor, by the two cases of its contract. All of it holds of a count too,
-- with `pos` before its limits and its value; the last section says so in natural numbers. Assumes nothing.
use mathlib.Core.Path.{◌≡◌, refl, ap}
use mathlib.Core.Bool.{Bool, true, false, and-eq-true_iff}
use Prim.Native.Nat.{ℕ, zero, suc, ◌≤◌, ◌<◌}
use native.Mathlib.Omega.{arith}
use lib.Dec.{T, leb, ltb, leb→le, ltb→lt, eqb-suc-zero}
use lib.IntN.{ℤ, nat_abs}
use lib.Signed.{le_z, le_z_yes, ◌≤ℤ◌, ≤ℤ_refl}
use Rattle.limits.specs.Checked.{in_range, first_fault, Measured, Counted}

-- z lies within the limits, both of them included.
pub record Between (least greatest z : ℤ) : Type 0 where
  pub low : least ≤ℤ z
  pub high : z ≤ℤ greatest

-- What it means that there is no fault after a field.
pub record Accepted (least greatest v : ℤ) (fault : ℕ) (value : ℤ) : Type 0 where
  pub clean : fault ≡ 0
  pub between : Between least greatest v
  pub same : value ≡ v

either : {A : Type 0} (t : Bool) → (t ≡ true → A) → (t ≡ false → A) → A
either true f g = f refl
either false f g = g refl

so : {t : Bool} → t ≡ true → T t
so e = rw e tt

holds : (t : Bool) → T t → t ≡ true
holds true h = refl
holds false h = absurd h

module _ {least greatest v : ℤ} where
  -- The test passes exactly between the limits.
  pub between : in_range least greatest v ≡ true → Between least greatest v
  unfolding in_range
  between e =
      let p = (and-eq-true_iff (le_z least v) (le_z v greatest)).0 e in
      record { low = le_z_yes (so p.0); high = le_z_yes (so p.1) }

  pub ranged : Between least greatest v → in_range least greatest v ≡ true
  unfolding in_range
  ranged b = (and-eq-true_iff (le_z least v) (le_z v greatest)).1 (holds _ b.low.le, holds _ b.high.le)

  module _ {fault field : ℕ} {value : ℤ} {after : ℕ} where
    -- The two ways to meet the contract.
    pub met : in_range least greatest v ≡ true → value ≡ v → after ≡ fault → Measured least greatest v fault field value after
    met e p q = record { amount = rw e p; first = rw e q }

    pub missed :
        in_range least greatest v ≡ false →
        value ≡ least → after ≡ first_fault fault field → Measured least greatest v fault field value after
    missed e p q = record { amount = rw e p; first = rw e q }

  module _ {fault : ℕ} {value : ℤ} where
    -- The same by what a number between its limits, or not between them, is.
    pub taken : (field : ℕ) → least ≤ℤ v → v ≤ℤ greatest → value ≡ v → Measured least greatest v fault field value fault
    taken field low high p = met (ranged (record { low = low; high = high })) p refl

    pub refused :
        {field after : ℕ} → (least ≤ℤ v → v ≤ℤ greatest → ⊥) →
        value ≡ least → after ≡ first_fault fault field → Measured least greatest v fault field value after
    refused out p q =
        either (in_range least greatest v) (λ e. let b = between e in absurd (out b.low b.high)) (λ e. missed e p q)

none_before : (field : ℕ) → first_fault 0 field ≡ field
unfolding first_fault
none_before field = refl

one-before : (fault field : ℕ) → 0 < fault → first_fault fault field ≡ fault
unfolding first_fault
one-before zero field h = absurd (omega arith)
one-before (suc n) field h = rw eqb-suc-zero

never-none : (fault field : ℕ) → T (ltb 0 field) → first_fault fault field ≡ 0 → ⊥
never-none zero field h e = omega (arith, ltb→lt 0 field h, none_before field)
never-none (suc n) field h e = omega (arith, one-before (suc n) field (omega arith))

module _ {least greatest v : ℤ} {fault field : ℕ} {value : ℤ} {after : ℕ}
    (m : Measured least greatest v fault field value after) where
  -- Whatever is handed out lies within the limits.
  pub within : least ≤ℤ greatest → Between least greatest value
  within h =
      either
      (in_range least greatest v)
      (λ e. let same : value ≡ v = cc in rw same (between e))
      (λ e. let same : value ≡ least = cc in rw same (record { low = ≤ℤ_refl least; high = h }))

  -- No fault after a field: there was none before, and the number stands as it was given.
  pub inside : T (ltb 0 field) → after ≡ 0 → Accepted least greatest v fault value
  inside h none =
      either
      (in_range least greatest v)
      (λ e. record { clean = cc; between = between e; same = cc })
      (λ e. let z : first_fault fault field ≡ 0 = cc in absurd (never-none fault field h z))

  -- The other way round: a number between the limits stands and adds no fault.
  pub passed : Between least greatest v → (value ≡ v) × (after ≡ fault)
  passed b = let e = ranged b in (cc, cc)

  -- A number outside is the fault, where it is the first.
  pub outside : (Between least greatest v → ⊥) → fault ≡ 0 → after ≡ field
  outside out none =
      either (in_range least greatest v) (λ e. absurd (out (between e))) (λ e. let f = none_before field in cc)

  -- The first fault is kept.
  pub kept : 0 < fault → after ≡ fault
  kept h = either (in_range least greatest v) (λ e. cc) (λ e. let f = one-before fault field h in cc)

  -- No second answer meets the contract.
  pub unique :
      {value₂ : ℤ} {after₂ : ℕ} → Measured least greatest v fault field value₂ after₂ → (value ≡ value₂) × (after ≡ after₂)
  unique m₂ = (cc, cc)

-- The same of a count.
pub record CountBetween (least greatest n : ℕ) : Type 0 where
  pub low : least ≤ n
  pub high : n ≤ greatest

module _ {least greatest : ℕ} {v : ℤ} {fault field value after : ℕ}
    (m : Counted least greatest v fault field value after) where
  -- A count is an index, or a number of turns, that keeps within its limits.
  pub count-within : T (leb least greatest) → CountBetween least greatest value
  count-within h =
      let b = within m (le_z_yes h) in
      record { low = leb→le _ _ b.low.le; high = leb→le _ _ b.high.le }

  -- With no fault after it, a count is the number that was given.
  pub count-inside : T (ltb 0 field) → after ≡ 0 → value ≡ nat_abs v
  count-inside h none = ap nat_abs (inside m h none).same
