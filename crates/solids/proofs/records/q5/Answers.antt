-- `sensible` is the formula, and the ware is within its limits.
use Rattle.formulas.specs.Formulas.{q5}
use Rattle.formulas.proofs.Sizes.{sized}
use Rattle.solids.proofs.records.q5.Goals as goal

pub sensible-requires : goal.sensible-requires
sensible-requires c =
    let h = c.requires.ware in
    record { mass = sized h.green tt; stuff = h.stuff; at = sized h.entry tt; from = c.requires.ambient }

pub returns : goal.returns
unfolding q5
returns c = λ f e₁ e₂. rw (e₁, e₂) c.sensible.ensures
