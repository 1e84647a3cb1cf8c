-- The exact volume is the formula's, and `units` rounds it.
use mathlib.Core.Path.{refl}
use mathlib.Core.List.{List, [], ◌∷◌}
use Prim.Native.Nat.{◌^◌}
use borrow.Author.Rules.{rules}
use mir.Syntax.{w64}
use mir.Val.{SFits}
use mir.Facts.{to_z-of_z}
use lib.IntN.{pos}
use Rattle.arith.proofs.Machine.{Known, Mx, raw, num, ◌⟨+⟩◌, ◌⟨-⟩◌, ◌⟨*⟩◌}
use Rattle.sheet.specs.Firing.{Stage}
use Rattle.formulas.specs.Formulas.{Burning, dry_flue}
use Rattle.flue.specs.Steps.{BurnsIn}
use Rattle.formulas.proofs.Units.{exactly}
use Rattle.formulas.proofs.Sizes.{limits, within, fit, rounded}
use Rattle.flue.proofs.dry_flue.Goals as goal

abbrev known : {b : Burning} {s : Stage} → BurnsIn b s → List Known
known p = limits p.stage.gas ∷ limits p.stage.excess ∷ within p.burning.dry ∷ within p.burning.air ∷ []

abbrev aired : Mx
aired = (raw 1 ⟨-⟩ num (pos 210)) ⟨*⟩ raw 3

abbrev each : Mx
each = raw 2 ⟨+⟩ aired

pub dry_rate-requires : goal.dry_rate-requires
dry_rate-requires c =
    let ks = known c.requires in
    record { more = fit ks (raw 1 ⟨-⟩ num (pos 210)) tt; aired = fit ks aired tt; all = fit ks each tt }

pub dry_exact-requires : goal.dry_exact-requires
dry_exact-requires c = rw c.dry_rate.ensures (fit (known c.requires) (raw 0 ⟨*⟩ each) tt)

pub returns : goal.returns
unfolding dry_flue
returns c =
    let fits : SFits w64 c.units.result.0 = search rules in
    rounded (known c.requires) (raw 0 ⟨*⟩ each) (10 ^ 5) 1 tt (exactly refl)
    (rw (to_z-of_z fits, c.units.ensures, c.dry_exact.ensures, c.dry_rate.ensures))
