-- Table A.1 as the code has it: c of each gas, and beside it what a share of the gas asks of the air and gives to the flue. The definitions
-- write the sums of these out; `Shares` shows that they come to the same.
use Rattle.std.specs.Prelude.{ℕ, ◌*◌, ◌^◌, List, [], ◌∷◌, ℤ, pos, negsuc}
use Rattle.formulas.specs.Tables.{GasHeat, table_a1}
use Rattle.burning.specs.declared.mixture.Kind.{Kind}

-- theoretical air of a share (B.3), in 1e-6 m³; and the m³ of dry flue (B.10) and of vapour (B.15) that a m³ of the gas gives
pub record Flow : Type 0 where
  pub air : ℤ
  pub dry : ℕ
  pub vapour : ℕ

abbrev pub flow : ℤ → ℕ → ℕ → Flow
flow a d v = record { air = a; dry = d; vapour = v }

abbrev pub flows : List Flow
flows =
    flow (pos 238) 0 1  -- H2
    ∷ flow (pos 0) 1 0  -- N2
    ∷ flow (pos 238) 1 0  -- CO
    ∷ flow (negsuc 475) 0 0  -- O2
    ∷ flow (pos 0) 0 1  -- H2O
    ∷ flow (pos 0) 1 0  -- CO2
    ∷ flow (pos 952) 1 2  -- CH4
    ∷ flow (pos 1428) 2 2  -- C2H4
    ∷ flow (pos 1666) 2 3  -- C2H6
    ∷ flow (pos 2380) 3 4  -- C3H8
    ∷ flow (pos 3094) 4 5  -- C4H10
    ∷ flow (pos 714) 1 1  -- H2S
    ∷ flow (pos 0) 1 0  -- SO2
    ∷ []

-- in the units of `Burning`
abbrev pub kind : GasHeat → Flow → Kind
kind c x = record { cold = c.cold; hot = c.hot; air = x.air; dry = pos (x.dry * 10 ^ 5); vapour = pos (x.vapour * (45 * 10 ^ 12)) }

abbrev pub beside : List GasHeat → List Flow → List Kind
beside [] l = []
beside (c ∷ cs) [] = []
beside (c ∷ cs) (x ∷ xs) = kind c x ∷ beside cs xs

abbrev pub kinds : List Kind
kinds = beside table_a1 flows
