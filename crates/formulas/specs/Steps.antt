-- What the code of more than one heat asks and makes: a product that does not leave an i64, and a quotient.
use Rattle.std.specs.Prelude.{ℕ, ℤ, pos, ◌*ℤ◌}
use Rattle.std.specs.Int.{w64}
use Rattle.std.proofs.Common.{SFits}
use Rattle.formulas.specs.declared.rounding.Quotient.{Quotient}

-- a product of three
pub record ProductFits (a b c : ℤ) : Type 0 where
  pub one : SFits w64 (a *ℤ b)
  pub all : SFits w64 (a *ℤ b *ℤ c)

-- so many parts, and of how many one unit is made
abbrev pub over : ℤ → ℕ → Quotient
over n d = record { 0 = n; 1 = pos d }
