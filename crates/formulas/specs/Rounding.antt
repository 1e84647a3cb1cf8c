-- Where a figure is rounded is said in `Formulas`; how, here.
use Rattle.std.specs.Prelude.{ℕ, ◌*◌, ◌^◌, ℤ, pos, ◌*ℤ◌}
use Rattle.arith.specs.Nearest.{nearest, nearest_ℕ}
use Rattle.roots.specs.Root.{root}
use Rattle.sheet.specs.Firing.{Wall}

pub record Rounding : Type 0 where
  -- to k x: x, brought to a multiple of k
  pub to : ℕ → ℤ → ℤ
  -- convection w a Δ: A Δ ⁴√Δ of formula 25 for the reading w, in 1e-5 W/m²
  pub convection : Wall → ℕ → ℕ → ℕ

-- ---- The first term of formula 25, as request T-02 reads it: A in 0.01, Δ in 0.1 °C. The square root of Δ cut down to 1e-8, and the square
-- root of that cut down to 1e-8
abbrev pub square_root : ℕ → ℕ
square_root Δ = root (Δ * 10 ^ 15)

abbrev pub fourth_root : ℕ → ℕ
fourth_root Δ = root (square_root Δ * 10 ^ 8)

-- and its product with A and Δ, rounded to 1e-5 W/m²
abbrev pub convected : ℕ → ℕ → ℕ
convected a Δ = nearest_ℕ (a * Δ * fourth_root Δ) (10 ^ 6)

-- the exact term is no fraction of whole numbers, but its fourth power is: (A Δ)⁴ Δ, in (1e-5 W/m²)⁴
abbrev pub fourth_power : ℕ → ℕ
fourth_power n = n * n * (n * n)

abbrev pub power : ℕ → ℕ → ℕ
power a Δ = fourth_power (a * Δ) * Δ * 10 ^ 7

-- document 01, with T-04: to the nearest, halves to the even one; the term as above
abbrev pub paper : Rounding
paper = record { to = λ k x. nearest x k *ℤ pos k; convection = λ w a Δ. convected a Δ }

-- nothing is rounded, and of the stand-ins for the root each reading has the one that is chosen
abbrev pub exact : (Wall → ℕ → ℕ → ℕ) → Rounding
exact choice = record { to = λ k x. x; convection = choice }
