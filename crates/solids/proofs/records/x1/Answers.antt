-- `sensible` is the formula, with the product for the mass.
use Rattle.std.proofs.Common.{rules, SFits, w32}
use mir.Facts.{to_z-of_z}
use Rattle.formulas.specs.Formulas.{x1}
use Rattle.formulas.proofs.Sizes.{sized}
use Rattle.solids.proofs.records.x1.Goals as goal

pub sensible-requires : goal.sensible-requires
sensible-requires c =
    let h = c.requires.ware in
    let f : SFits w32 c.args.product.0 = search rules in
    record { mass = rw (to_z-of_z f) (sized c.requires.product tt); stuff = h.stuff; at = sized h.highest tt; from = sized h.entry tt }

pub returns : goal.returns
unfolding x1
returns c =
    let f : SFits w32 c.args.product.0 = search rules in
    λ g e₁ e₂. rw (e₁, e₂) (rw (to_z-of_z f) at c.sensible.ensures)
