-- The exact rate is the formula's, and `units` rounds it.
use mathlib.Core.Path.{refl}
use mathlib.Core.List.{List, [], ◌∷◌}
use Prim.Native.Nat.{◌*◌, ◌^◌}
use borrow.Author.Rules.{rules}
use mir.Syntax.{w64}
use mir.Val.{SFits}
use mir.Facts.{to_z-of_z}
use lib.IntN.{ℤ, pos}
use Rattle.arith.proofs.Machine.{Known, Mx, raw, num, ◌⟨+⟩◌, ◌⟨*⟩◌}
use Rattle.sheet.specs.Firing.{Stage}
use Rattle.formulas.specs.Formulas.{Burning, vapour_rate}
use Rattle.flue.specs.Steps.{MoistIn}
use Rattle.formulas.proofs.Units.{exactly}
use Rattle.formulas.proofs.Sizes.{limits, within, fit, rounded}
use Rattle.flue.proofs.vapour_rate.Goals as goal

abbrev known : {b : Burning} {X : ℤ} {s : Stage} → MoistIn b X s → List Known
known p = limits p.burns.stage.excess ∷ within p.burns.burning.air ∷ limits p.moisture ∷ within p.burns.burning.vapour ∷ []

abbrev moist : Mx
moist = num (pos 1293) ⟨*⟩ raw 0 ⟨*⟩ raw 1 ⟨*⟩ raw 2

abbrev all : Mx
all = moist ⟨*⟩ num (pos 56) ⟨+⟩ raw 3

pub rate_exact-requires : goal.rate_exact-requires
rate_exact-requires c =
    let ks = known c.requires in
    record {
      dense = fit ks (num (pos 1293) ⟨*⟩ raw 0) tt;
      aired = fit ks (num (pos 1293) ⟨*⟩ raw 0 ⟨*⟩ raw 1) tt;
      moist = fit ks moist tt;
      over = fit ks (moist ⟨*⟩ num (pos 56)) tt;
      all = fit ks all tt;
    }

pub returns : goal.returns
unfolding vapour_rate
returns c =
    let fits : SFits w64 c.units.result.0 = search rules in
    rounded (known c.requires) all (56 * 10 ^ 7) 1 tt (exactly refl) (rw (to_z-of_z fits, c.units.ensures, c.rate_exact.ensures))
