-- How large what the formulas form can be: each size is computed from the limits of the sheet's quantities and from the sizes above it, so that
-- a limit changes in its one place and the prover does the rest.
use Rattle.std.specs.Prelude.{ℕ, ◌+◌, ◌*◌, ◌/◌, ◌^◌, ◌-◌, max, List, [], ◌∷◌, ℤ, pos, nat_abs, ◌+ℤ◌, ◌-ℤ◌, ◌*ℤ◌}
use Rattle.sheet.specs.Quantities.{ambient, heating, fuel_temperature, share, moisture, mass, temperature, capacity, flue, pair, analysis_most, cubic_metres, excess, monoxide, minutes, area, surface, near_air, gas_total, stages_most, setters_most, parts_most, sections_most, Field}
use Rattle.formulas.specs.Tables.{table_a1, flue_row}
use Rattle.formulas.specs.Formulas.{placed, fourth}

-- ---- The rules: a quantity; the difference of two; an entry of a table's column
abbrev pub greatest : Field → ℕ
greatest x = max (nat_abs x.least) (nat_abs x.greatest)

abbrev pub apart : Field → Field → ℕ
apart x y = max (nat_abs (x.greatest -ℤ y.least)) (nat_abs (x.least -ℤ y.greatest))

abbrev pub column : {A : Type 0} → (A → ℤ) → List A → ℕ
column f [] = 0
column f (a ∷ l) = max (nat_abs (f a)) (column f l)

-- n over d, brought to the nearest: not above n over d rounded up
abbrev pub up_to : ℕ → ℕ → ℕ
up_to n d = (n + (d - 1)) / d

-- the root of n, cut down: not above the mean of any x and n / x, which five times over from 10⁹ is it for both roots of Δ
abbrev pub mean : ℕ → ℕ → ℕ
mean n x = (x + n / x) / 2

abbrev pub root_up_to : ℕ → ℕ
root_up_to n = mean n (mean n (mean n (mean n (mean n (10 ^ 9)))))

-- ---- How many readings have room, by section and stage
abbrev pub cells_most : ℕ
cells_most = sections_most * stages_most

-- ---- Specific heat: c that the sheet gives is more than any line of table A.2
abbrev pub specific_heat_most : ℕ
specific_heat_most = greatest capacity * 1000

-- ---- m c (T − T₀) of any two temperatures: one, of all setters, of all parts
abbrev pub sensible_most : ℕ
sensible_most = up_to (greatest mass * specific_heat_most * (2 * greatest temperature)) (10 ^ 6)

abbrev pub setters_heat_most : ℕ
setters_heat_most = setters_most * sensible_most

abbrev pub parts_heat_most : ℕ
parts_heat_most = parts_most * sensible_most

-- ---- Income: q1; c of a gas at 0 °C and its rise to 100 °C, and of the mixture, whose shares add to 100 %; q2
abbrev pub q1_most : ℕ
q1_most = greatest gas_total * greatest heating * 100

abbrev pub cold_most : ℕ
cold_most = column (λ k. k.cold) table_a1

abbrev pub rise_most : ℕ
rise_most = column (λ k. k.hot -ℤ k.cold) table_a1

abbrev pub mixed_cold_most : ℕ
mixed_cold_most = greatest share * cold_most

abbrev pub mixed_rise_most : ℕ
mixed_rise_most = greatest share * rise_most

abbrev pub q2_most : ℕ
q2_most = up_to (greatest gas_total * (mixed_cold_most * 1000 + mixed_rise_most * greatest fuel_temperature) * apart fuel_temperature ambient) (10 ^ 9)

-- ---- Expenditure
abbrev pub x2_most : ℕ
x2_most = up_to (2 * greatest mass * (2490000 + 193 * apart flue ambient)) 10

abbrev pub x3_most : ℕ
x3_most = greatest mass * 108800

-- ---- Flue: what a share of butane asks and gives, the greatest of all gases; and what a unit of fuel does
abbrev pub butane_air : ℕ
butane_air = 238 * 13

abbrev pub butane_dry : ℕ
butane_dry = 4 * 10 ^ 5

abbrev pub butane_vapour : ℕ
butane_vapour = 5 * (45 * 10 ^ 12)

abbrev pub air_most : ℕ
air_most = greatest share * butane_air

abbrev pub dry_most : ℕ
dry_most = greatest share * butane_dry

abbrev pub vapour_most : ℕ
vapour_most = greatest share * butane_vapour

-- a stage's dry flue; its vapour, for a unit of fuel and in all
abbrev pub dry_flue_most : ℕ
dry_flue_most = up_to (greatest cubic_metres * (dry_most + (greatest excess - 210) * air_most)) (10 ^ 5)

abbrev pub vapour_rate_most : ℕ
vapour_rate_most = up_to (1293 * greatest excess * air_most * greatest moisture * 56 + vapour_most) (56 * 10 ^ 7)

abbrev pub vapour_mass_most : ℕ
vapour_mass_most = up_to (vapour_rate_most * greatest cubic_metres) (10 ^ 4)

-- c of analysed flue: no gas has more than its column's last row. CO2 has most above nitrogen, O2 less, CO least
abbrev pub analysed_heat_most : ℕ
analysed_heat_most =
    let last = flue_row 10 in
    (10000 * last.n2 + greatest pair * (last.co2 - last.n2) + (analysis_most - greatest pair) * (last.o2 - last.n2)) * 1000

abbrev pub analysed_most : ℕ
analysed_most = up_to analysed_heat_most (10 ^ 7)

-- c (flue − t) of a m³ of dry flue, which is no more where the flue is analysed, and a stage's heats
abbrev pub carried_most : ℕ
carried_most = 1384 * apart flue ambient

abbrev pub dry_heat_most : ℕ
dry_heat_most = up_to (dry_flue_most * carried_most) (10 ^ 6)

abbrev pub vapour_heat_most : ℕ
vapour_heat_most = up_to (vapour_mass_most * 193 * apart flue ambient) (10 ^ 6)

abbrev pub flue_heat_most : ℕ
flue_heat_most = dry_heat_most + vapour_heat_most

abbrev pub monoxide_heat_most : ℕ
monoxide_heat_most = up_to (dry_flue_most * greatest monoxide * 12750) (10 ^ 6)

abbrev pub x7_most : ℕ
x7_most = stages_most * flue_heat_most

abbrev pub x8_most : ℕ
x8_most = stages_most * monoxide_heat_most

-- ---- Surface: A, of the roof; Δ, its square root and the square root of that; both terms of the flux; a reading's heat, and that of all cells
abbrev pub placed_most : ℕ
placed_most = placed 1

abbrev pub warmer_most : ℕ
warmer_most = apart surface near_air

abbrev pub square_root_most : ℕ
square_root_most = root_up_to (warmer_most * 10 ^ 15)

abbrev pub fourth_root_most : ℕ
fourth_root_most = root_up_to (square_root_most * 10 ^ 8)

abbrev pub convection_most : ℕ
convection_most = up_to (placed_most * warmer_most * fourth_root_most) (10 ^ 6)

abbrev pub radiation_most : ℕ
radiation_most = up_to (454 * nat_abs (fourth surface.greatest -ℤ fourth near_air.least)) (10 ^ 9)

abbrev pub flux_most : ℕ
flux_most = convection_most + radiation_most

abbrev pub wall_heat_most : ℕ
wall_heat_most = up_to (flux_most * greatest area * greatest minutes * 6) (10 ^ 6)

abbrev pub x9_most : ℕ
x9_most = cells_most * wall_heat_most

-- ---- Useful: (33) per kg, at either limit of the ware's temperature
abbrev pub boiled_most : ℕ → ℕ
boiled_most Δ =
    let at : ℤ → ℕ = λ T. nat_abs ((pos 1000 -ℤ T) *ℤ pos 418 +ℤ pos (2260000 + Δ * 1930)) in
    max (at temperature.least) (at temperature.greatest)

abbrev pub water_heat_most : ℕ
water_heat_most = up_to (greatest mass * (boiled_most 25 + boiled_most 450)) 10

-- ---- ANY HEAT OF A BALANCE: not above both sides together
abbrev pub heat_most : ℕ
heat_most =
    q1_most + q2_most + setters_heat_most + sensible_most + parts_heat_most
    + (sensible_most + x2_most + x3_most + setters_heat_most + x7_most + x8_most + x9_most + parts_heat_most)
