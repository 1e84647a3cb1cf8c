-- The rounded volume times c times the rise is in millionths of a joule; `joules` rounds it.
use mathlib.Core.Path.{◌≡◌, sym}
use mathlib.Core.List.{[], ◌∷◌}
use Prim.Native.Nat.{◌/◌, ◌^◌}
use lib.IntN.{ℤ, ◌-ℤ◌, ◌*ℤ◌}
use Rattle.arith.proofs.Ring.{v, ◌⊗◌, ring}
use Rattle.arith.proofs.Machine.{raw, ◌⟨*⟩◌}
use Rattle.formulas.specs.Formulas.{joule, dry_heat}
use Rattle.formulas.proofs.Units.{same, times, finer}
use Rattle.formulas.proofs.Sizes.{within, fit, rounded}
use Rattle.flue.proofs.dry_heat.Goals as goal

-- the code's product, with the one whose size is known
regrouped : (n c x : ℤ) → n *ℤ c *ℤ x ≡ n *ℤ (c *ℤ x)
regrouped n c x = ring (n ∷ c ∷ x ∷ []) (v 0 ⊗ v 1 ⊗ v 2) (v 0 ⊗ (v 1 ⊗ v 2)) tt

pub dry_carried-requires : goal.dry_carried-requires
dry_carried-requires c =
    let p = c.requires in
    let rise = c.args.stage.flue.0 -ℤ c.args.t.0 in
    let e = regrouped c.args.volume.0 c.args.c.0 rise in
    rw (c.above-rise.ensures, c.from.ensures)
    (record { one = p.first; all = rw e (fit (within p.filled.volume ∷ within p.carried ∷ []) (raw 0 ⟨*⟩ raw 1) tt) })

pub returns : goal.returns
unfolding dry_heat
returns c =
    let p = c.requires in
    let rise = c.args.stage.flue.0 -ℤ c.args.t.0 in
    let e = regrouped c.args.volume.0 c.args.c.0 rise in
    λ b v.
    rounded (within p.filled.volume ∷ within p.carried ∷ []) (raw 0 ⟨*⟩ raw 1) (10 ^ 6) (joule / 10 ^ 6) tt
    (same (sym e) (finer (times (times v.is c.args.c.0) rise) (joule / 10 ^ 11)))
    (rw (c.joules.ensures, c.dry_carried.ensures, c.above-rise.ensures, c.from.ensures, e))
