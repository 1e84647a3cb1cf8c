-- The rounded volume times the share times 12750 is in millionths of a joule; `joules` rounds it.
use mathlib.Core.List.{[], ◌∷◌}
use Prim.Native.Nat.{◌/◌, ◌^◌}
use lib.IntN.{pos}
use Rattle.arith.proofs.Machine.{raw, num, ◌⟨*⟩◌}
use Rattle.formulas.specs.Formulas.{joule, monoxide_heat}
use Rattle.formulas.proofs.Units.{times, finer}
use Rattle.formulas.proofs.Sizes.{limits, within, rounded}
use Rattle.flue.proofs.monoxide_heat.Goals as goal

pub returns : goal.returns
unfolding monoxide_heat
returns c =
    let p = c.requires in
    λ b v.
    rounded (within p.volume ∷ limits p.stage.co ∷ []) (raw 0 ⟨*⟩ raw 1 ⟨*⟩ num (pos 12750)) (10 ^ 6) (joule / 10 ^ 6) tt
    (finer (times (times v.is c.args.stage.co.0) (pos 12750)) (joule / 10 ^ 11)) (rw (c.joules.ensures, c.unburnt.ensures))
