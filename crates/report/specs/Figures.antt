-- What the code asks where it finds the report's figures.
use Rattle.std.specs.Prelude.{ℕ, ◌≡◌, List, ℤ, pos, ◌*ℤ◌, ◌<ℤ◌}
use Rattle.std.specs.Int.{w64}
use Rattle.std.proofs.Common.{SFits}
use Rattle.sheet.specs.Firing.{Firing}
use Rattle.document.specs.Lawful.{Lawful}
use Rattle.heat.specs.Balance.{Balanced}

-- so many times a heat can be divided by a number
pub record Divides (times : ℕ) (heat by : ℤ) : Type 0 where
  pub fits : SFits w64 (heat *ℤ pos times)
  pub some : pos 0 <ℤ by

-- the firing's number, product and heats
pub record Found (f : Firing) (number product : ℤ) (heats : List ℤ) : Type 0 where
  pub is_number : number ≡ f.number
  pub is-product : product ≡ f.product
  pub balanced : Balanced f heats
  pub rules : Lawful f
