-- The tables of document 01: A.2 of the refractories by material code, and A.1 of the gases in the gas line's order.
use Rattle.std.specs.Prelude.{ℕ, cond, List, [], ◌∷◌, eqb, ℤ, pos, get_or}
use Rattle.std.specs.Int.Signed.{le_z}
use Rattle.formulas.specs.declared.Straight.{Straight}

-- a + b T, with a in 0.01 and b in 1e-6 kJ/(kg·°C)
abbrev pub straight : ℕ → ℕ → Straight
straight a b = record { a = pos a; b = pos b }

abbrev pub table_a2 : List Straight
table_a2 =
    straight 0 0  -- 0: the sheet gives c
    ∷ straight 84 260  -- 1 clay
    ∷ straight 84 260  -- 2 high-alumina
    ∷ straight 42 880  -- 3 corundum, up to and with 800.0
    ∷ straight 67 167  -- 4 sillimanite
    ∷ straight 67 126  -- 5 mullite
    ∷ straight 80 330  -- 6 silica
    ∷ straight 94 250  -- 7 magnesia
    ∷ straight 75 150  -- 8 chrome-magnesia
    ∷ straight 77 300  -- 9 spinel
    ∷ straight 89 420  -- 10 forsterite
    ∷ straight 63 126  -- 11 zircon
    ∷ straight 73 376  -- 12 opaque quartz, up to and with 800.0
    ∷ straight 96 150  -- 13 silicon carbide
    ∷ straight 80 334  -- 14 light silica
    ∷ straight 84 260  -- 15 light clay brick
    ∷ straight 80 293  -- 16 fibre blanket
    ∷ straight 89 0  -- 17 slag wool
    ∷ straight 46 0  -- 18 steel
    ∷ straight 80 418  -- 19: corundum above 800.0
    ∷ straight 90 167  -- 20: opaque quartz above 800.0
    ∷ []

-- the line that holds for a material at T, in 0.1 °C
abbrev pub row_of : ℕ → ℤ → ℕ
row_of m T = cond (le_z T (pos 8000)) m (cond (eqb m 3) 19 (cond (eqb m 12) 20 m))

abbrev pub straight_at : ℕ → Straight
straight_at i = get_or table_a2 i (straight 0 0)

-- c at 0 and at 100 °C, in 0.001 kJ/(m³·°C)
pub record GasHeat : Type 0 where
  pub cold : ℤ
  pub hot : ℤ

abbrev pub between : ℕ → ℕ → GasHeat
between c h = record { cold = pos c; hot = pos h }

abbrev pub table_a1 : List GasHeat
table_a1 =
    between 1275 1287  -- H2
    ∷ between 1296 1300  -- N2
    ∷ between 1300 1301  -- CO
    ∷ between 1304 1317  -- O2
    ∷ between 1488 1501  -- H2O
    ∷ between 1597 1697  -- CO2
    ∷ between 1563 1651  -- CH4
    ∷ between 1869 2103  -- C2H4
    ∷ between 2061 2061  -- C2H6
    ∷ between 3043 3959  -- C3H8
    ∷ between 4122 5250  -- C4H10
    ∷ between 1530 1559  -- H2S
    ∷ between 1777 1860  -- SO2
    ∷ []

-- Table A.1 of the gases of dry flue: c at 0, 100, .. 1,000 °C in 0.001 kJ/(m³·°C), as printed
pub record FlueGases : Type 0 where
  pub co : ℕ
  pub co2 : ℕ
  pub o2 : ℕ
  pub n2 : ℕ

abbrev at : ℕ → ℕ → ℕ → ℕ → FlueGases
at a b c d = record { co = a; co2 = b; o2 = c; n2 = d }

abbrev pub flue_table : List FlueGases
flue_table =
    at 1300 1597 1304 1296  -- 0 °C
    ∷ at 1301 1697 1317 1300
    ∷ at 1308 1793 1333 1301
    ∷ at 1317 1877 1354 1304
    ∷ at 1329 1923 1375 1317
    ∷ at 1342 1998 1396 1325
    ∷ at 1359 2052 1414 1338
    ∷ at 1372 2098 1434 1354
    ∷ at 1388 2140 1450 1367
    ∷ at 1400 2178 1463 1379
    ∷ at 1413 2215 1476 1392  -- 1,000 °C
    ∷ []

-- 0 beyond the last, where it counts for nothing
abbrev pub no_row : FlueGases
no_row = at 0 0 0 0

abbrev pub flue_row : ℕ → FlueGases
flue_row i = get_or flue_table i no_row
