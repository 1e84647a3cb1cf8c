-- Document 01's marked cases and the joules of its worked firing, with the root of request T-02: one table of facts about the definitions, with
-- one proof, by computation.
use Rattle.std.specs.Prelude.{ℕ, ◌*◌, ◌/◌, ◌^◌, Bool, true, ◌&&◌, List, [], ◌∷◌, T, eqb, ℤ, pos}
use Rattle.std.proofs.Math.Option.{none, some}
use Rattle.arith.specs.Nearest.{nearest, nearest_ℕ, tie}
use Rattle.roots.specs.Root.{root, root_in}
use Rattle.sheet.specs.Firing.{Gas, Stuff, Water, Analysis, Stage, Section, Wall, Firing}
use Rattle.sheet.specs.Shown.{same}
use Rattle.sheet.specs.Block.{sum}
use Rattle.formulas.specs.Rounding.{paper}
use Rattle.formulas.specs.Formulas.{joule, specific_heat, sensible, mixed_heat, gas_heat, theoretical_air, dry_of_gas, vapour_of_gas, of_gas, dry_flue, vapour_rate, vapour, dry_heat, vapour_heat, flue_heat, monoxide_heat, flue_capacity, analysed_heat, numbered, convection, radiation, flux, wall_heat, q1, q2, q3, q5, q8, x1, x2, x3, x5, x7, x8, x9, x10, water_heat, useful, withset}
use Rattle.formulas.specs.Items.{shuttle, total, x11}
use Rattle.formulas.specs.Report.{heat, share, printed}

abbrev methane : Gas
methane = record {
  h2 = pos 0;
  n2 = pos 0;
  co = pos 0;
  o2 = pos 0;
  h2o = pos 0;
  co2 = pos 0;
  ch4 = pos 10000;
  c2h4 = pos 0;
  c2h6 = pos 0;
  c3h8 = pos 0;
  c4h10 = pos 0;
  h2s = pos 0;
  so2 = pos 0;
}

-- its own c, 1.0000
abbrev given : Stuff
given = record { material = pos 0; c = pos 10000 }

abbrev only : ℕ → Stuff
only m = record { material = pos m; c = pos 0 }

abbrev stage : Stage
stage = record { gas = pos 2000; excess = pos 1100; flue = pos 8200; co = pos 0; analysis = none; minutes = pos 600 }

-- CO, CO2 with SO2, O2 and the flue's temperature, as an analyser says them
abbrev analysed : ℕ → ℕ → ℕ → ℕ → Stage
analysed co pair oxygen flue =
    let said : Analysis = record { pair = pos pair; oxygen = pos oxygen } in
    record { gas = pos 2000; excess = pos 1100; flue = pos flue; co = pos co; analysis = some said; minutes = pos 600 }

abbrev section : Section
section = record { number = pos 3; place = pos 2; area = pos 1000 }

abbrev wall : Wall
wall = record { section = pos 3; stage = pos 1; surface = pos 560; air = pos 200 }

abbrev still : Wall
still = record { section = pos 3; stage = pos 1; surface = pos 200; air = pos 200 }

-- the worked firing, and the same with other waters
abbrev with_water : Water → Firing
with_water water = record {
  edition = pos 1;
  number = pos 7;
  product = pos 10000;
  ambient = pos 200;
  fuel = record { heating = pos 35000; temperature = pos 200 };
  gas = methane;
  moisture = pos 0;
  ware = record { green = pos 11000; entry = pos 200; highest = pos 12200; stuff = given };
  water = water;
  clay = pos 5000;
  stages = stage ∷ [];
  setters = record { mass = pos 5000; entry = pos 200; stuff = given } ∷ [];
  parts = record { mass = pos 20000; stuff = only 1; before = pos 200; firing = pos 6200 } ∷ [];
  sections = section ∷ [];
  walls = wall ∷ [];
}

abbrev pub worked : Firing
worked = with_water (record { adsorbed = pos 500; crystal = pos 500; flue = pos 2200 })

abbrev no_crystal : Firing
no_crystal = with_water (record { adsorbed = pos 500; crystal = pos 0; flue = pos 2200 })

-- what is computed, what document 01 says in the formula's unit, and how many of the definitions' units that unit is
record Case : Type 0 where
  computed : ℤ
  said : ℕ
  unit : ℕ

abbrev case : ℤ → ℕ → ℕ → Case
case x n k = record { computed = x; said = n; unit = k }

cases : List Case
cases =
    case (specific_heat (only 1) (pos 6200)) 10012000 1  -- clay brick at 620.0: 1.0012
    ∷ case (specific_heat (only 3) (pos 8000)) 11240000 1  -- corundum at 800.0: 1.124
    ∷ case (specific_heat (only 3) (pos 8001)) 11344418 1  -- at 800.1: 1.1344418
    ∷ case (theoretical_air methane) 9520000 1  -- 9.52
    ∷ case (dry_flue paper (of_gas methane) stage) 94728 (2000 * 10 ^ 5)  -- 9.4728 per m³
    ∷ case (vapour_rate paper (of_gas methane) (pos 0) stage) 1607142857 (56 * 10 ^ 7)  -- in dry air 1.607142857
    ∷ case (convection paper section wall) 22574497 (10 ^ 9)  -- 225.74497, T-02's
    ∷ case (radiation paper wall) 19731127 (10 ^ 9)  -- 197.31127
    ∷ case (flux paper section still) 0 1
    ∷ case (wall_heat paper section stage wall) 152300246 joule  -- that wall's heat, T-02's
    ∷ case (q1 worked paper) 7000000000 joule
    ∷ case (q2 worked paper) 0 joule
    ∷ case (q3 worked paper) 0 joule
    ∷ case (q5 worked paper) 0 joule
    ∷ case (q8 worked paper) 0 joule
    ∷ case (total shuttle.incomes worked paper) 7000000000 joule
    ∷ case (x1 worked paper) 1200000000 joule
    ∷ case (x2 worked paper) 287600000 joule
    ∷ case (x3 worked paper) 544000000 joule
    ∷ case (x5 worked paper) 600000000 joule
    ∷ case (x7 worked paper) 2593942546 joule
    ∷ case (x8 worked paper) 0 joule
    ∷ case (x9 worked paper) 152300246 joule
    ∷ case (x10 worked paper) 1201440000 joule
    ∷ case (x11 shuttle worked paper) 420717208 joule
    ∷ case (useful worked paper) 2049277500 joule
    ∷ case (withset worked paper) 2649277500 joule
    -- printed per tonne, 2,049,277.5 is 2,049,278; and over q1, in 0.01 %
    ∷ case (printed worked (heat useful)) 2049278 1
    ∷ case (printed worked (share useful)) 2928 1
    -- T-03: c before and after it is rounded, and a tie
    ∷ case (flue_capacity stage) 1384 1
    ∷ case (pos (analysed_heat 0 0 0 0)) 12960000 1000
    ∷ case (flue_capacity (analysed 0 0 0 0)) 1296 1
    ∷ case (pos (analysed_heat 0 1050 190 8200)) 14526918 1000
    ∷ case (flue_capacity (analysed 0 1050 190 8200)) 1453 1
    ∷ case (pos (analysed_heat 50 860 420 2350)) 13484542 1000
    ∷ case (flue_capacity (analysed 50 860 420 2350)) 1348 1
    ∷ case (pos (analysed_heat 0 2500 1500 10000)) 16103500 1000
    ∷ case (flue_capacity (analysed 0 2500 1500 10000)) 1610 1
    ∷ case (pos (analysed_heat 0 1400 0 250)) 13425000 1000
    ∷ case (flue_capacity (analysed 0 1400 0 250)) 1342 1
    ∷ case (flue_heat paper (of_gas methane) (pos 0) (pos 200) (analysed 0 1050 190 8200)) 2698522258 joule
    -- T-04, which none of these tells from halves away from zero: 1,876,132.5 is 1,876,132, and 2,476,132.5 is 2,476,132
    ∷ case (printed no_crystal (heat useful)) 1876132 1
    ∷ case (printed no_crystal (heat withset)) 2476132 1
    ∷ []

holds : List Case → Bool
holds [] = true
holds (c ∷ l) = same c.computed (pos (c.said * c.unit)) && holds l

marked : T (holds cases)
unfolding holds cases flue_capacity analysed_heat printed nearest nearest_ℕ tie root root_in sum specific_heat sensible mixed_heat gas_heat theoretical_air dry_of_gas vapour_of_gas of_gas dry_flue vapour_rate
    vapour dry_heat vapour_heat flue_heat monoxide_heat numbered convection radiation flux wall_heat
    q1 q2 q3 q5 q8 x1 x2 x3 x5 x7 x8 x9 x10 total x11 water_heat useful withset
marked = tt

-- each fraction of a joule that the formulas name is a whole number of the unit
abbrev whole : List ℕ → Bool
whole [] = true
whole (k ∷ l) = eqb (joule / k * k) joule && whole l

units : T (whole (1 ∷ 10 ∷ 10 ^ 6 ∷ 10 ^ 9 ∷ 10 ^ 11 ∷ 10 ^ 16 ∷ 56 * 10 ^ 17 ∷ []))
units = tt
