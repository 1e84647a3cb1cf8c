-- The mass is widened, and the product is in whole joules.
use Rattle.std.proofs.Common.{[], ◌∷◌, pos, w32, w64}
use Rattle.arith.proofs.Machine.{arg, from, num, ◌⟨*⟩◌, result}
use Rattle.formulas.specs.Formulas.{x3}
use Rattle.formulas.proofs.Units.{units}
use Rattle.formulas.proofs.Sizes.{limits, most}
use Rattle.solids.proofs.water.x3.Goals as goal

pub returns : goal.returns
unfolding x3
returns c =
    let ks = limits c.requires ∷ [] in
    let e = result ks w64 (from w32 (arg 0) ⟨*⟩ num (pos 108800)) tt in
    λ f e₁. rw (e₁, e) (record { is = units; size = most ks (arg 0 ⟨*⟩ num (pos 108800)) tt })
