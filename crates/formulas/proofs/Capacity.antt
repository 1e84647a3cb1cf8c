-- How large c of a stage's dry flue is, and so what it carries: of an analysed one no more than of one with 1.384, whose flue may be hotter.
-- The table's bound is one computed test. Assumes nothing.
use Prim.Native.Nat.{ℕ, ◌+◌, ◌*◌, ◌/◌, ◌%◌, ◌^◌, ◌-◌, ◌≤◌, ◌<◌}
use mathlib.Core.Path.{◌≡◌, ap}
use mathlib.Core.Bool.{Bool}
use mathlib.Core.List.{[], ◌∷◌}
use mathlib.Core.Option.{Option, none, some}
use native.Mathlib.Nat.{mod-lt, mul-le-mul_left, mul-le-mul_right}
use native.Mathlib.Omega.{arith}
use lib.Dec.{T, leb, leb→le, lit<, lit≤}
use lib.IntN.{ℤ, pos, nat_abs, ◌-ℤ◌, ◌*ℤ◌}
use lib.Signed.{le_z_yes}
use Rattle.arith.specs.Nearest.{nearest_ℕ}
use Rattle.arith.proofs.Ring.{v, ◌⊕◌, both_left, both_right}
use Rattle.arith.proofs.NearestLaws.{atmost_ℕ}
use Rattle.arith.proofs.Order.{arithℤ, parts, abs-pos, ≤ℤ-trans}
use Rattle.arith.proofs.Machine.{raw, num, upto, bound, ◌⟨-⟩◌, ◌⟨*⟩◌}
use Rattle.sheet.specs.Firing.{Analysis, Stage}
use Rattle.sheet.specs.Quantities.{ambient, flue, monoxide, pair, analysis_most}
use Rattle.document.specs.Lawful.{In, FlueIn, StageIn}
use Rattle.document.specs.Tests.{all}
use Rattle.formulas.specs.Tables.{FlueGases, flue_table, flue_row, no_row}
use Rattle.formulas.specs.Formulas.{column_at, analysed_heat, capacity_by, flue_capacity}
use Rattle.formulas.specs.Figures.{Within}
use Rattle.formulas.specs.Sizes.{carried_most, analysed_heat_most, analysed_most}
use Rattle.formulas.proofs.Sizes.{entry, limits, most}

-- a flue's temperature, analysed or not, has no more than sheet 1's range
pub flue_in : (s : Stage) → StageIn s → In flue s.flue
flue_in s h = by s.analysis h.flue
  where
    by : (o : Option Analysis) → FlueIn s.flue s.co o → In flue s.flue
    by none k = k
    by (some a) k = record { low = k.flue.low; high = ≤ℤ-trans k.flue.high (le_z_yes tt) }

-- a column that is nowhere above m, between two rows of it
pub column-most : (gas : FlueGases → ℕ) (m : ℕ) → T (all (λ g. leb (gas g) m) (no_row ∷ flue_table)) → (T : ℕ) → column_at gas T ≤ m * 1000
column-most gas m t T =
    let p : FlueGases → Bool = λ g. leb (gas g) m in
    let none = both_left (p no_row) (all p flue_table) t in
    let rows = both_right (p no_row) (all p flue_table) t in
    let at : (i : ℕ) → gas (flue_row i) ≤ m = λ i. leb→le (gas (flue_row i)) m (entry p no_row flue_table none rows i) in
    let r = T % 1000 in
    let less : r < 1000 = mod-lt T (lit< tt) in
    let whole : 1000 ≡ 1000 - r + r = omega arith in
    omega (arith, ap (λ (i : ℕ). m * i) whole, mul-le-mul_right (1000 - r) (at (T / 1000)), mul-le-mul_right r (at (T / 1000 + 1)))

-- four gases of which the pair is at most 25 % and all but nitrogen 40 %
pub analysed-most : (co p o T : ℕ) → p ≤ nat_abs pair.greatest → co + p + o ≤ analysis_most → analysed_heat co p o T ≤ analysed_heat_most
unfolding analysed_heat
analysed-most co p o T h k =
    let a = mul-le-mul_left co (column-most (λ g. g.co) (flue_row 10).co tt T) in
    let b = mul-le-mul_left p (column-most (λ g. g.co2) (flue_row 10).co2 tt T) in
    let c = mul-le-mul_left o (column-most (λ g. g.o2) (flue_row 10).o2 tt T) in
    let d = mul-le-mul_left (10000 - (co + p + o)) (column-most (λ g. g.n2) (flue_row 10).n2 tt T) in
    omega (arith, a, b, c, d)

heat-most : (co p o T : ℕ) → p ≤ nat_abs pair.greatest → co + p + o ≤ analysis_most → nearest_ℕ (analysed_heat co p o T) (10 ^ 7) ≤ analysed_most
heat-most co p o T h k = atmost_ℕ (analysed_heat co p o T) analysed_most (lit< tt) (omega (arith, analysed-most co p o T h k))

module _ (s : Stage) (co : In monoxide s.co) where
  -- c of any stage
  by_most : (o : Option Analysis) → FlueIn s.flue s.co o → capacity_by s o ≤ analysed_most
  by_most none h = lit≤ tt
  by_most (some a) h =
      let pairs : nat_abs a.pair ≤ nat_abs pair.greatest = bound (limits h.pair ∷ []) (raw 0) tt in
      let whole : nat_abs s.co + nat_abs a.pair + nat_abs a.oxygen ≤ analysis_most =
      omega (
        arithℤ,
        parts (s.co ∷ a.pair ∷ a.oxygen ∷ []) (v 0 ⊕ v 1 ⊕ v 2),
        h.together,
        abs-pos co.low,
        abs-pos h.pair.low,
        abs-pos h.oxygen.low,
      ) in
      heat-most (nat_abs s.co) (nat_abs a.pair) (nat_abs a.oxygen) (nat_abs s.flue) pairs whole

  -- and what it carries
  by-carried : (o : Option Analysis) {t : ℤ} → FlueIn s.flue s.co o → In ambient t → Within carried_most (pos (capacity_by s o) *ℤ (s.flue -ℤ t))
  by-carried none h t = most (limits h ∷ limits t ∷ []) (num (pos 1384) ⟨*⟩ (raw 0 ⟨-⟩ raw 1)) tt
  by-carried (some a) h t = most (upto (by_most (some a) h) ∷ limits h.flue ∷ limits t ∷ []) (raw 0 ⟨*⟩ (raw 1 ⟨-⟩ raw 2)) tt

pub capacity-most : (s : Stage) → StageIn s → Within analysed_most (flue_capacity s)
unfolding flue_capacity
capacity-most s h = record { size = by_most s h.co s.analysis h.flue }

pub carried-most : (s : Stage) {t : ℤ} → StageIn s → In ambient t → Within carried_most (flue_capacity s *ℤ (s.flue -ℤ t))
unfolding flue_capacity
carried-most s h t = by-carried s h.co s.analysis h.flue t
