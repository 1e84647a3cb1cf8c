-- Both numbers are widened, and the product is in whole joules.
use Rattle.std.proofs.Common.{[], ◌∷◌, pos, w32, w64}
use Rattle.arith.proofs.Machine.{arg, from, num, ◌⟨*⟩◌, result}
use Rattle.formulas.specs.Formulas.{q1}
use Rattle.formulas.proofs.Units.{units}
use Rattle.formulas.proofs.Sizes.{limits, most}
use Rattle.burning.proofs.q1.Goals as goal

pub returns : goal.returns
unfolding q1
returns c =
    let ks = limits c.requires.gas ∷ limits c.requires.heating ∷ [] in
    let burnt = from w32 (arg 0) ⟨*⟩ from w32 (arg 1) ⟨*⟩ num (pos 100) in
    let e = result ks w64 burnt tt in
    λ f e₁ e₂. rw (e₁, e₂, e) (record { is = units; size = most ks burnt tt })
