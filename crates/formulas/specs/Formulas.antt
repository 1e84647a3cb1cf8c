-- Document 01, "From reading to joules": each formula once, over a way of rounding. Heats are whole numbers of a unit so small that no
-- unrounded heat has a fraction: `joule` of them are one joule.
use Rattle.std.specs.Prelude.{ℕ, ◌+◌, ◌*◌, ◌/◌, ◌%◌, ◌^◌, ◌-◌, cond, List, [], ◌∷◌, map, eqb, ℤ, pos, nat_abs, ◌+ℤ◌, ◌-ℤ◌, ◌*ℤ◌, get_or}
use Rattle.std.proofs.Math.Option.{Option, none, some}
use Rattle.sheet.specs.Firing.{Stuff, Gas, Analysis, Stage, Section, Wall, Firing}
use Rattle.arith.specs.Nearest.{nearest_ℕ}
use Rattle.sheet.specs.Shown.{same}
use Rattle.sheet.specs.Block.{sum, total_gas}
use Rattle.document.specs.Tests.{weigh}
use Rattle.document.specs.Rows.{gas_row}
use Rattle.formulas.specs.Rounding.{Rounding}
use Rattle.formulas.specs.Tables.{row_of, straight_at, table_a1, FlueGases, flue_row}

-- 56 because of 18/22.4, 10^17 by the finest product
abbrev pub joule : ℕ
joule = 56 * 10 ^ 17

-- n k-ths of a joule
abbrev pub parts : ℕ → ℤ → ℤ
parts k n = n *ℤ pos (joule / k)

-- ---- Specific heat of table A.2, in 1e-7 kJ/(kg·°C), with T in 0.1 °C
abbrev pub by_table : ℕ → ℤ → ℤ
by_table i T = (straight_at i).a *ℤ pos (10 ^ 5) +ℤ (straight_at i).b *ℤ T

-- code 0 uses c
unfoldable pub specific_heat : Stuff → ℤ → ℤ
specific_heat x T = let m = nat_abs x.material in cond (eqb m 0) (x.c *ℤ pos 1000) (by_table (row_of m T) T)

-- m c (T − T₀), with c at T, the temperature that stands first in the bracket
unfoldable pub sensible : Rounding → ℤ → Stuff → ℤ → ℤ → ℤ
sensible r m x T T₀ = r.to joule (parts (10 ^ 6) (m *ℤ specific_heat x T *ℤ (T -ℤ T₀)))

-- ---- Income (2, 4): c of the mixture in 1e-10 kJ/(m³·°C), of each gas on a straight line between 0 and 100 °C
unfoldable pub mixed_heat : Gas → ℤ → ℤ
mixed_heat g T = weigh (map (λ k. k.cold *ℤ pos 1000 +ℤ (k.hot -ℤ k.cold) *ℤ T) table_a1) (gas_row g).numbers

-- n c (T − T₀) of n tenths of a cubic metre, with such a c
unfoldable pub gas_heat : Rounding → ℤ → ℤ → ℤ → ℤ → ℤ
gas_heat r n c T T₀ = r.to joule (parts (10 ^ 9) (n *ℤ c *ℤ (T -ℤ T₀)))

module _ (f : Firing) (r : Rounding) where
  unfoldable pub q1 : ℤ
  q1 = parts 1 (total_gas f.stages *ℤ f.fuel.heating *ℤ pos 100)

  unfoldable pub q2 : ℤ
  q2 = gas_heat r (total_gas f.stages) (mixed_heat f.gas f.fuel.temperature) f.fuel.temperature f.ambient

  unfoldable pub q3 : ℤ
  q3 = sum (λ x. sensible r x.mass x.stuff x.entry f.ambient) f.setters

  unfoldable pub q5 : ℤ
  q5 = sensible r f.ware.green f.ware.stuff f.ware.entry f.ambient

  unfoldable pub q8 : ℤ
  q8 = sum (λ x. sensible r x.mass x.stuff x.before f.ambient) f.parts

  -- ---- Expenditure
  unfoldable pub x1 : ℤ
  x1 = sensible r f.product f.ware.stuff f.ware.highest f.ware.entry

  -- (14): 2490 + 1.93 (flue − t) in 0.001 kJ per kg
  unfoldable pub x2 : ℤ
  x2 = r.to joule (parts 10 ((f.water.adsorbed +ℤ f.water.crystal) *ℤ (pos 2490000 +ℤ pos 193 *ℤ (f.water.flue -ℤ f.ambient))))

  -- 1088 kJ per kg
  unfoldable pub x3 : ℤ
  x3 = parts 1 (f.clay *ℤ pos 108800)

  unfoldable pub x5 : ℤ
  x5 = sum (λ x. sensible r x.mass x.stuff f.ware.highest x.entry) f.setters

  unfoldable pub x10 : ℤ
  x10 = sum (λ x. sensible r x.mass x.stuff x.firing f.ambient) f.parts

-- ---- Flue. (B.3): theoretical air in 1e-6 m³ per m³; 0.0476 (m + n/4) is 0.0238 (2m + n/2)
unfoldable pub theoretical_air : Gas → ℤ
theoretical_air g =
    pos 238 *ℤ (g.co +ℤ g.h2) +ℤ pos 952 *ℤ g.ch4
    +ℤ pos 238 *ℤ (pos 6 *ℤ g.c2h4 +ℤ pos 7 *ℤ g.c2h6 +ℤ pos 10 *ℤ g.c3h8 +ℤ pos 13 *ℤ g.c4h10)
    +ℤ pos 714 *ℤ g.h2s -ℤ pos 476 *ℤ g.o2

-- CO + CH4 + m CmHn + N2 + CO2 + H2S + SO2, in 1e-4 m³ per m³
unfoldable pub dry_of_gas : Gas → ℤ
dry_of_gas g =
    g.co +ℤ g.ch4 +ℤ (pos 2 *ℤ g.c2h4 +ℤ pos 2 *ℤ g.c2h6 +ℤ pos 3 *ℤ g.c3h8 +ℤ pos 4 *ℤ g.c4h10)
    +ℤ g.n2 +ℤ g.co2 +ℤ g.h2s +ℤ g.so2

-- H2 + 2 CH4 + (n/2) CmHn + H2S + H2O, in 1e-4 m³ per m³
unfoldable pub vapour_of_gas : Gas → ℤ
vapour_of_gas g =
    g.h2 +ℤ pos 2 *ℤ g.ch4 +ℤ (pos 2 *ℤ g.c2h4 +ℤ pos 3 *ℤ g.c2h6 +ℤ pos 4 *ℤ g.c3h8 +ℤ pos 5 *ℤ g.c4h10)
    +ℤ g.h2s +ℤ g.h2o

-- WHAT A UNIT OF FUEL ASKS AND GIVES: theoretical air in 1e-6 m³, dry flue of its own in 1e-9 m³, vapour of its own in 1e-16/56 kg
pub record Burning : Type 0 where
  pub air : ℤ
  pub dry : ℤ
  pub vapour : ℤ

-- a cubic metre of gas; 18/22.4 kg of vapour to the cubic metre is 45/56
unfoldable pub of_gas : Gas → Burning
of_gas g = record { air = theoretical_air g; dry = dry_of_gas g *ℤ pos (10 ^ 5); vapour = vapour_of_gas g *ℤ pos (45 * 10 ^ 12) }

abbrev pub burning : Firing → Burning
burning f = of_gas f.gas

-- C OF A STAGE'S DRY FLUE in 0.001 kJ/(m³·°C): 1.384, or by T-03 formula 4 over what the analyser says. A gas's column is straight between the
-- rows of table A.1 at T, in 0.1 °C: here in 1e-6 kJ/(m³·°C)
abbrev pub column_at : (FlueGases → ℕ) → ℕ → ℕ
column_at gas T = gas (flue_row (T / 1000)) * (1000 - T % 1000) + gas (flue_row (T / 1000 + 1)) * (T % 1000)

-- CO, CO2 with SO2 in CO2's column, O2, and nitrogen for the rest, in 1e-10 kJ/(m³·°C); shares in 0.01 %
unfoldable pub analysed_heat : ℕ → ℕ → ℕ → ℕ → ℕ
analysed_heat co pair oxygen T =
    co * column_at (λ g. g.co) T + pair * column_at (λ g. g.co2) T + oxygen * column_at (λ g. g.o2) T
    + (10000 - (co + pair + oxygen)) * column_at (λ g. g.n2) T

-- rounded once, to 0.001, which is taken as given as 1.384 is: it goes through no `Rounding`
abbrev pub capacity_by : Stage → Option Analysis → ℕ
capacity_by s none = 1384
capacity_by s (some a) = nearest_ℕ (analysed_heat (nat_abs s.co) (nat_abs a.pair) (nat_abs a.oxygen) (nat_abs s.flue)) (10 ^ 7)

unfoldable pub flue_capacity : Stage → ℤ
flue_capacity s = pos (capacity_by s s.analysis)

module _ (r : Rounding) where
  -- (B.10) with (B.4): a stage's dry flue in 1e-10 m³, to 1e-5 m³
  unfoldable pub dry_flue : Burning → Stage → ℤ
  dry_flue b s = r.to (10 ^ 5) (s.gas *ℤ (b.dry +ℤ (s.excess -ℤ pos 210) *ℤ b.air))

  -- (B.15): vapour per unit of fuel in 1e-16/56 kg, to 1e-9 kg; X in 0.0001 kg per kg
  unfoldable pub vapour_rate : Burning → ℤ → Stage → ℤ
  vapour_rate b X s = r.to (56 * 10 ^ 7) (pos 1293 *ℤ s.excess *ℤ b.air *ℤ X *ℤ pos 56 +ℤ b.vapour)

  -- a stage's vapour in 1e-17/56 kg, to 1e-6 kg
  unfoldable pub vapour : Burning → ℤ → Stage → ℤ
  vapour b X s = r.to (56 * 10 ^ 11) (vapour_rate b X s *ℤ s.gas)

  unfoldable pub dry_heat : Burning → ℤ → ℤ → Stage → ℤ
  dry_heat b c t s = r.to joule (parts (10 ^ 11) (dry_flue b s *ℤ c *ℤ (s.flue -ℤ t)))

  unfoldable pub vapour_heat : Burning → ℤ → ℤ → Stage → ℤ
  vapour_heat b X t s = r.to joule (parts (56 * 10 ^ 17) (vapour b X s *ℤ pos 193 *ℤ (s.flue -ℤ t)))

  unfoldable pub flue_heat : Burning → ℤ → ℤ → Stage → ℤ
  flue_heat b X t s = dry_heat b (flue_capacity s) t s +ℤ vapour_heat b X t s

  -- (23): the CO share as a fraction
  unfoldable pub monoxide_heat : Burning → Stage → ℤ
  monoxide_heat b s = r.to joule (parts (10 ^ 11) (dry_flue b s *ℤ s.co *ℤ pos 12750))

module _ (f : Firing) (r : Rounding) where
  unfoldable pub x7 : ℤ
  x7 = sum (flue_heat r (burning f) f.moisture f.ambient) f.stages

  unfoldable pub x8 : ℤ
  x8 = sum (monoxide_heat r (burning f)) f.stages

-- ---- Surface. A of formula 25 in 0.01, by place: roof, wall, floor
abbrev pub placed : ℕ → ℕ
placed p = get_or (0 ∷ 326 ∷ 256 ∷ 210 ∷ []) p 0

-- ((273 + T)/100)⁴ in 1e-12
abbrev pub fourth : ℤ → ℤ
fourth T = let k = pos 2730 +ℤ T in k *ℤ k *ℤ k *ℤ k

abbrev pub no_section : Section
no_section = record { number = pos 0; place = pos 0; area = pos 0 }

abbrev pub no_stage : Stage
no_stage = record { gas = pos 0; excess = pos 0; flue = pos 0; co = pos 0; analysis = none; minutes = pos 0 }

unfoldable pub numbered : ℤ → List Section → Section
numbered n [] = no_section
numbered n (x ∷ l) = let rest = numbered n l in cond (same n x.number) x rest

module _ (f : Firing) where
  abbrev pub section_of : Wall → Section
  section_of w = numbered w.section f.sections

  abbrev pub stage_of : Wall → Stage
  stage_of w = get_or f.stages (nat_abs w.stage - 1) no_stage

module _ (r : Rounding) where
  -- (25), first term, in 1e-14 W/m²
  unfoldable pub convection : Section → Wall → ℤ
  convection x w = pos (r.convection w (placed (nat_abs x.place)) (nat_abs (w.surface -ℤ w.air))) *ℤ pos (10 ^ 9)

  -- second term, in 1e-14 W/m², to 1e-5 W/m²
  unfoldable pub radiation : Wall → ℤ
  radiation w = r.to (10 ^ 9) (pos 454 *ℤ (fourth w.surface -ℤ fourth w.air))

  unfoldable pub flux : Section → Wall → ℤ
  flux x w = convection x w +ℤ radiation w

  -- (27): 3,600 J per Wh, a sixtieth of it a minute; area in 0.01 m²
  unfoldable pub wall_heat : Section → Stage → Wall → ℤ
  wall_heat x s w = r.to joule (parts (10 ^ 16) (flux x w *ℤ x.area *ℤ s.minutes *ℤ pos 60))

unfoldable pub x9 : Firing → Rounding → ℤ
x9 f r = sum (λ w. wall_heat r (section_of f w) (stage_of f w) w) f.walls

-- ---- Useful (32, 33)
module _ (f : Firing) (r : Rounding) where
  -- J per kg: to 100 °C, to steam, and the steam on by Δ °C
  abbrev pub boiled : ℕ → ℤ
  boiled Δ = (pos 1000 -ℤ f.ware.entry) *ℤ pos 418 +ℤ (pos 2260000 +ℤ pos Δ *ℤ pos 1930)

  unfoldable pub water_heat : ℤ
  water_heat = r.to joule (parts 10 (f.water.adsorbed *ℤ boiled 25 +ℤ f.water.crystal *ℤ boiled 450))

  unfoldable pub useful : ℤ
  useful = water_heat +ℤ x3 f r +ℤ x1 f r

  unfoldable pub withset : ℤ
  withset = useful +ℤ x5 f r
