-- The rounded rate times the gas, rounded.
use mathlib.Core.List.{[], ◌∷◌}
use Prim.Native.Nat.{◌*◌, ◌^◌}
use borrow.Author.Rules.{rules}
use mir.Syntax.{w64}
use mir.Val.{SFits}
use mir.Facts.{to_z-of_z}
use Rattle.arith.proofs.Machine.{raw, ◌⟨*⟩◌}
use Rattle.formulas.specs.Formulas.{vapour}
use Rattle.formulas.proofs.Units.{times}
use Rattle.formulas.proofs.Sizes.{limits, within, fit, rounded}
use Rattle.flue.proofs.vapour.Goals as goal

pub vapour_exact-requires : goal.vapour_exact-requires
vapour_exact-requires c =
    let p = c.requires.burns in
    fit (within c.vapour_rate.ensures.size ∷ limits p.stage.gas ∷ []) (raw 0 ⟨*⟩ raw 1) tt

pub returns : goal.returns
unfolding vapour
returns c =
    let fits : SFits w64 c.units.result.0 = search rules in
    let rate = c.vapour_rate.ensures in
    rounded (within rate.size ∷ limits c.requires.burns.stage.gas ∷ []) (raw 0 ⟨*⟩ raw 1) (10 ^ 4) (56 * 10 ^ 7) tt
    (times rate.is c.args.stage.gas.0) (rw (to_z-of_z fits, c.units.ensures, c.vapour_exact.ensures))
