-- Demand 3: the proof of a heat follows its formula, and how far the heat is off is computed along the way; a side is off by what its items are.
-- What is allowed is asked once, at the end; the nearest to it is x11, 323.5 J of 350, and for each 1,000 square-metre-hours 90 J of 200.
-- Assumes nothing.
use Prim.Native.Nat.{ℕ, zero, suc, ◌+◌, ◌*◌, ◌/◌, ◌^◌, ◌-◌, ◌≤◌, ◌<◌}
use mathlib.Core.Path.{◌≡◌, ap}
use mathlib.Core.Bool.{Bool, true, false, cond, ◌&&◌}
use mathlib.Core.List.{List, [], ◌∷◌, ◌++◌, map}
use native.Mathlib.Nat.{le_trans, lt_of_le_of_lt, mul-le-mul, mul-le-mul_left, mul-le-mul_right}
use native.Mathlib.Omega.{arith}
use lib.Dec.{T, leb, leb→le, lit<, lit≤}
use lib.IntN.{ℤ, pos, nat_abs, ◌-ℤ◌, ◌*ℤ◌}
use lib.ListN.{get_or}
use lib.Signed.{◌≤ℤ◌, ≤ℤ_refl, le_z_yes}
use Rattle.arith.specs.Nearest.{nearest}
use Rattle.arith.proofs.Ring.{both_left, both_right}
use Rattle.arith.proofs.Order.{arithℤ, ≤ℤ-trans, nonneg_mul, abs_is, abs-mul}
use Rattle.arith.proofs.Machine.{range, arg, ◌⟨-⟩◌, bound}
use Rattle.text.specs.Bytes.{bytes}
use Rattle.sheet.specs.Firing.{Stage, Section, Wall, Firing}
use Rattle.sheet.specs.Shown.{same as alike}
use Rattle.sheet.specs.Block.{sum, total_gas}
use Rattle.sheet.specs.Quantities.{product, ambient, heating, flue, monoxide, gas_total}
use Rattle.document.specs.Rules.{Every}
use Rattle.document.specs.Rows.{firing_of}
use Rattle.document.specs.Lawful.{In, StageIn, SectionIn, WallIn, Lawful}
use Rattle.document.proofs.Editions.{firing_lawful}
use Rattle.formulas.specs.Rounding.{Rounding, convected, power, paper}
use Rattle.formulas.specs.Formulas.{gas_heat, joule, sensible, q1, q2, q3, q5, q8, x1, x2, x3, x5, x10, dry_flue, vapour_rate, vapour, dry_heat, vapour_heat, flue_heat, monoxide_heat, flue_capacity, x7, x8, no_stage, numbered, section_of, stage_of, convection, radiation, flux, wall_heat, x9, water_heat, useful, withset}
use Rattle.formulas.specs.Sizes.{placed_most, warmer_most, carried_most}
use Rattle.formulas.specs.Items.{Quantity, Item, item, Sides, shuttle, total, x11, heats}
use Rattle.formulas.specs.Report.{Line, number, heat, share, item_line, shares, lines, printed}
use Rattle.formulas.proofs.Sizes.{placed-most}
use Rattle.formulas.proofs.Capacity.{flue_in, carried-most}
use Rattle.distance.specs.Demand.{Stand, greatest, one_more, stand_in, Enclosed, Choice, against, surface, thousand, allowed, leeway, Within, Near, Demand3}
use Rattle.distance.proofs.FourthRoot.{units, four_less, twice-below, twice-above, not-above, above}
use Rattle.distance.proofs.Off.{Off, Size, same, sizes, ◌⊞◌, ◌⊟◌, ◌⊠◌, times, times-both, per, per-both, rounded, settled, summed, records}

-- ---- THE STAND-INS: their fourth powers enclose the exact one, and each is at most two units from the term, which is within one of the lesser
enclosed : (n : ℕ) → Enclosed n
enclosed n = record {
  low = twice-below n;
  high = twice-above n;
  none_greater = λ m h. let less = four_less m (stand_in one_more n) (lt_of_le_of_lt h (twice-above n)) in omega arith;
}

stand_off : {w : ℕ} (c : Stand) (a Δ : ℕ) → a ≤ placed_most → Δ ≤ warmer_most → Off w units 0 (pos (convected a Δ)) (pos (stand_in c (power a Δ)))
stand_off {w} c a Δ h k =
    let n = power a Δ in
    let low = four_less (convected a Δ - 1) (stand_in one_more n) (lt_of_le_of_lt (not-above a Δ) (twice-above n)) in
    let high = four_less (stand_in greatest n) (convected a Δ + units) (lt_of_le_of_lt (twice-below n) (above a Δ h k)) in
    either c (omega (arith, low)) (omega (arith, high))
  where
    either : (c : Stand) → convected a Δ ≤ stand_in greatest (power a Δ) + 1 → stand_in one_more (power a Δ) ≤ convected a Δ + units
        → Off w units 0 (pos (convected a Δ)) (pos (stand_in c (power a Δ)))
    either greatest low high = sizes (omega arith) (omega arith)
    either one_more low high = sizes (omega arith) (omega arith)

-- ---- THE LIMITS, as the formulas meet them. The gas of all stages
gas_in : {f : Firing} → Lawful f → In gas_total (total_gas f.stages)
gas_in h = h.total

-- a reading's area and minutes, found or not
area-least : (n : ℤ) (l : List Section) → Every SectionIn l → pos 0 ≤ℤ (numbered n l).area
unfolding numbered
area-least n [] c = ≤ℤ_refl (pos 0)
area-least n (x ∷ l) c = here (alike n x.number) (area-least n l c.1)
  where
    here : (t : Bool) → pos 0 ≤ℤ (numbered n l).area → pos 0 ≤ℤ (cond t x (numbered n l)).area
    here true r = ≤ℤ-trans (le_z_yes tt) c.0.area.low
    here false r = r

minutes-least : (i : ℕ) (l : List Stage) → Every StageIn l → pos 0 ≤ℤ (get_or l i no_stage).minutes
minutes-least i [] c = ≤ℤ_refl (pos 0)
minutes-least zero (s ∷ l) c = ≤ℤ-trans (le_z_yes tt) c.0.minutes.low
minutes-least (suc i) (s ∷ l) c = minutes-least i l c.1

-- ---- PRINTING. A figure is c times a heat over D, and D is at least D₀. With the half that printing adds, what the heat is off by has to be
-- within what is allowed, A; and what it is off by for each unit of surface, within the leeway, L
abbrev allows : ℕ → ℕ → ℕ → ℕ → Bool
allows c D₀ A flat = leb (2 * c * flat + D₀) (2 * A * D₀)

abbrev spares : ℕ → ℕ → ℕ → ℕ → Bool
spares c D₀ L rate = leb (c * thousand * rate) (L * D₀)

printing : {w flat rate D₀ D : ℕ} {x y : ℤ} (c A L : ℕ) → Off w flat rate x y → 0 < D → D₀ ≤ D → 1 ≤ A → T (allows c D₀ A flat)
    → T (spares c D₀ L rate) → Within (A * thousand + L * w) thousand (nearest (x *ℤ pos c) D) (record { over = y *ℤ pos c; under = D })
printing {w} {flat} {rate} {D₀} {D} c A L p some more one t u =
    let d = D - D₀ in
    let e : D ≡ D₀ + d = omega arith in
    let a = leb→le (2 * c * flat + D₀) (2 * A * D₀) t in
    let b = leb→le (c * thousand * rate) (L * D₀) u in
    omega (arith, a, mul-le-mul_left w b, mul-le-mul_right d one, ap (λ (i : ℕ). A * i) e, ap (λ (i : ℕ). L * w * i) e, (rounded some (p ⊠ pos c)).off)

-- one line, and those below it
infixr 5 ◌&◌
abbrev ◌&◌ : {A B : Type 0} → A → B → A × B
◌&◌ a b = (a, b)

module _ (f : Firing) (h : Lawful f) (choice : Choice) where
  -- how far a heat is off: so much in any case, and so much for each 0.01 m²·minute of surface
  record Bound (q : Firing → Rounding → ℤ) : Type 0 where
    flat : ℕ
    rate : ℕ
    off : Off (surface f) flat rate (q f paper) (q f (against choice))

  abbrev known : {q : Quantity} {a b : ℕ} → Off (surface f) a b (q f paper) (q f (against choice)) → Bound q
  known {a = a} {b = b} p = record { flat = a; rate = b; off = p }

  -- ---- Income
  q1-off : Bound q1
  unfolding q1
  q1-off = known same

  q2-off : Bound q2
  unfolding q2 gas_heat
  q2-off = known (rounded (lit< tt) same)

  q3-off : Bound q3
  unfolding q3 sensible
  q3-off = known (records f.setters h.setters h.setters_most (λ x c. rounded (lit< tt) same))

  q5-off : Bound q5
  unfolding q5 sensible
  q5-off = known (rounded (lit< tt) same)

  q8-off : Bound q8
  unfolding q8 sensible
  q8-off = known (records f.parts h.parts h.parts_most (λ x c. rounded (lit< tt) same))

  -- ---- Expenditure
  x1-off : Bound x1
  unfolding x1 sensible
  x1-off = known (rounded (lit< tt) same)

  x2-off : Bound x2
  unfolding x2
  x2-off = known (rounded (lit< tt) same)

  x3-off : Bound x3
  unfolding x3
  x3-off = known same

  x5-off : Bound x5
  unfolding x5 sensible
  x5-off = known (records f.setters h.setters h.setters_most (λ x c. rounded (lit< tt) same))

  x10-off : Bound x10
  unfolding x10 sensible
  x10-off = known (records f.parts h.parts h.parts_most (λ x c. rounded (lit< tt) same))

  -- ---- Flue. The rounded rate of vapour counts by the gas that it is for, so over all stages by refusal 10's greatest: by each stage's
  -- greatest, twelve times that, x11 would not be near
  warmth : (s : Stage) → StageIn s → Size (nat_abs (flue.greatest -ℤ ambient.least)) (s.flue -ℤ f.ambient)
  warmth s c = record { size = bound (range (flue_in s c).low (flue_in s c).high ∷ range h.ambient.low h.ambient.high ∷ []) (arg 0 ⟨-⟩ arg 1) tt }

  -- c is given, and rounded on neither side: what an analysed flue carries is no more than sheet 1's greatest
  carried : (s : Stage) → StageIn s → Size carried_most (flue_capacity s *ℤ (s.flue -ℤ f.ambient))
  carried s c = record { size = (carried-most s c h.ambient).size }

  gas-most : nat_abs (total_gas f.stages) ≤ nat_abs gas_total.greatest
  gas-most = bound (range (gas_in h).low (gas_in h).high ∷ []) (arg 0) tt

  x7-off : Bound x7
  unfolding x7 flue_heat dry_heat vapour_heat dry_flue vapour vapour_rate
  x7-off =
      known
      (settled
      (summed (λ s. s.gas) (λ s c. c.gas.low) f.stages h.stages h.stages_most (λ s c.
      rounded (lit< tt) (times-both (flue_capacity s) (s.flue -ℤ f.ambient) (rounded (lit< tt) same) (carried s c) ⊠ pos (joule / 10 ^ 11))
      ⊞ rounded (lit< tt) (times (rounded (lit< tt) (per s.gas (rounded (lit< tt) same)) ⊠ pos 193) (warmth s c) ⊠ pos (joule / (56 * 10 ^ 17)))))
      gas-most)

  monoxide-size : (s : Stage) → StageIn s → Size (nat_abs monoxide.greatest) s.co
  monoxide-size s c = record { size = bound (range c.co.low c.co.high ∷ []) (arg 0) tt }

  x8-off : Bound x8
  unfolding x8 monoxide_heat dry_flue
  x8-off =
      known
      (records f.stages h.stages h.stages_most (λ s c.
      rounded (lit< tt) (times (rounded (lit< tt) same) (monoxide-size s c) ⊠ pos 12750 ⊠ pos (joule / 10 ^ 11))))

  -- ---- Surface
  rise-most : (w : Wall) → WallIn f w → nat_abs (w.surface -ℤ w.air) ≤ warmer_most
  rise-most w c = bound (range c.surface.low c.surface.high ∷ range c.air.low c.air.high ∷ []) (arg 0 ⟨-⟩ arg 1) tt

  x9-off : Bound x9
  unfolding x9 wall_heat flux convection radiation
  x9-off =
      known
      (summed (λ w. (section_of f w).area *ℤ (stage_of f w).minutes)
      (λ w c. nonneg_mul (area-least w.section f.sections h.sections) (minutes-least (nat_abs w.stage - 1) f.stages h.stages))
      f.walls h.walls h.walls_most (λ w c.
      rounded (lit< tt) (per-both (section_of f w).area (stage_of f w).minutes
      (stand_off (choice w) _ _ (placed-most (nat_abs (section_of f w).place)) (rise-most w c) ⊠ pos (10 ^ 9) ⊞ rounded (lit< tt) same)
      ⊠ pos 60 ⊠ pos (joule / 10 ^ 16))))

  -- ---- Sides
  Bounded : List Item → Type 0
  Bounded l = Every (λ i. Bound i.heat) l

  -- a side is off by what its items are
  flats : (l : List Item) → Bounded l → ℕ
  unfolding Bounded
  flats [] p = 0
  flats (i ∷ l) p = p.0.flat + flats l p.1

  rates : (l : List Item) → Bounded l → ℕ
  unfolding Bounded
  rates [] p = 0
  rates (i ∷ l) p = p.0.rate + rates l p.1

  sides : (l : List Item) (p : Bounded l) → Off (surface f) (flats l p) (rates l p) (total l f paper) (total l f (against choice))
  unfolding Bounded flats rates total sum
  sides [] p = same
  sides (i ∷ l) p = p.0.off ⊞ sides l p.1

  side-off : (l : List Item) → Bounded l → Bound (total l)
  side-off l p = known (sides l p)

  x11-off : (s : Sides) → Bounded s.incomes → Bounded s.expenses → Bound (x11 s)
  unfolding x11
  x11-off s p q = known ((side-off s.incomes p).off ⊟ (side-off s.expenses q).off)

  useful-off : Bound useful
  unfolding useful water_heat
  useful-off = known (rounded (lit< tt) same ⊞ x3-off.off ⊞ x1-off.off)

  withset-off : Bound withset
  unfolding withset
  withset-off = known (useful-off.off ⊞ x5-off.off)

  -- ---- Printed: the firing number, a heat per tonne, a heat over q1
  as_it_stands : {key : List ℕ} → Near f choice (record { key = key; figure = number })
  unfolding printed
  as_it_stands = record { is-fraction = lit< tt; near = omega (arith, (rounded {w = 0} {k = 1} {x = f.number} (lit< tt) same).off) }

  abbrev least_product : ℕ
  least_product = joule * nat_abs product.least

  per_tonne : {key : List ℕ} {q : Quantity} (p : Bound q) → T (allows 10 least_product (allowed (heat q)) p.flat)
      → T (spares 10 least_product (leeway key) p.rate) → Near f choice (record { key = key; figure = heat q })
  unfolding printed
  per_tonne {key} {q} p t u =
      let ware : nat_abs product.least ≤ nat_abs f.product = let low = h.product.low in omega (arithℤ, abs_is f.product) in
      let more : least_product ≤ joule * nat_abs f.product = mul-le-mul_left joule ware in
      let some = le_trans (lit< tt) more in
      record { is-fraction = some; near = printing 10 (allowed (heat q)) (leeway key) p.off some more (lit≤ tt) t u }

  abbrev least_fuel : ℕ
  least_fuel = nat_abs gas_total.least * nat_abs heating.least * 100 * joule

  fuel-least : least_fuel ≤ nat_abs (q1 f (against choice))
  unfolding q1
  fuel-least =
      let G = total_gas f.stages in
      let H = f.fuel.heating in
      let gas : nat_abs gas_total.least ≤ nat_abs G = let low = (gas_in h).low in omega (arithℤ, abs_is G) in
      let heat : nat_abs heating.least ≤ nat_abs H = let low = h.heating.low in omega (arithℤ, abs_is H) in
      rw (abs-mul (G *ℤ H *ℤ pos 100) (pos joule), abs-mul (G *ℤ H) (pos 100), abs-mul G H) (omega (arith, mul-le-mul gas heat))

  over-fuel : {key : List ℕ} {q : Quantity} (p : Bound q) → T (allows 10000 least_fuel (allowed (share q)) p.flat)
      → T (spares 10000 least_fuel (leeway key) p.rate) → Near f choice (record { key = key; figure = share q })
  unfolding printed q1
  over-fuel {key} {q} p t u =
      let some = le_trans (lit< tt) fuel-least in
      record { is-fraction = some; near = printing 10000 (allowed (share q)) (leeway key) p.off some fuel-least (lit≤ tt) t u }

  -- whether what is allowed to each heat is kept, and its leeway
  kept : (l : List Item) → Bounded l → Bool
  unfolding Bounded
  kept [] p = true
  kept (i ∷ l) p = allows 10 least_product (allowed (heat i.heat)) p.0.flat && (spares 10 least_product (leeway i.key) p.0.rate && kept l p.1)

  -- the lines of a side, and those below it
  each-near : (l : List Item) (p : Bounded l) (below : List Line) → T (kept l p) → Every (Near f choice) below → Every (Near f choice) (map item_line l ++ below)
  unfolding Bounded kept
  each-near [] p below t n = n
  each-near (i ∷ l) p below t n =
      let a = allows 10 least_product (allowed (heat i.heat)) p.0.flat in
      let b = spares 10 least_product (leeway i.key) p.0.rate in
      let u = both_right a (b && kept l p.1) t in
      (per_tonne p.0 (both_left a (b && kept l p.1) t) (both_left b (kept l p.1) u), each-near l p.1 below (both_right b (kept l p.1) u) n)

  incomes-off : Bounded shuttle.incomes
  unfolding Bounded
  incomes-off = q1-off & q2-off & q3-off & q5-off & q8-off & tt

  expenses-off : Bounded shuttle.expenses
  unfolding Bounded
  expenses-off = x1-off & x2-off & x3-off & x5-off & x7-off & x8-off & x9-off & x10-off & tt

  abbrev below : List Line
  below = item_line (item "x11" (x11 shuttle)) ∷ item_line (item "useful" useful) ∷ item_line (item "withset" withset) ∷ shares

  -- every line: each `tt` is a test of what is allowed, and of the leeway
  near : Every (Near f choice) (lines shuttle)
  unfolding lines heats Bounded kept incomes-off expenses-off flats rates side-off x11-off useful-off withset-off q1-off q2-off q3-off q5-off q8-off x1-off x2-off x3-off x5-off x7-off x8-off x9-off x10-off
  near =
      let rest : Every (Near f choice) below =
      per_tonne {key = bytes "x11"} (x11-off shuttle incomes-off expenses-off) tt tt
      & per_tonne useful-off tt tt
      & per_tonne withset-off tt tt
      & over-fuel useful-off tt tt
      & over-fuel withset-off tt tt
      & tt in
      as_it_stands
      & each-near shuttle.incomes incomes-off (item_line (item "in" (total shuttle.incomes)) ∷ (map item_line shuttle.expenses ++ below)) tt
      (per_tonne (side-off shuttle.incomes incomes-off) tt tt & each-near shuttle.expenses expenses-off below tt rest)

-- THE THEOREM
pub demand3 : Demand3
demand3 = record {
  enclosed = enclosed;
  near = λ text sheet good choice. near (firing_of sheet) (firing_lawful text sheet good) choice;
}
