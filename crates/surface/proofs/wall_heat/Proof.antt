-- Flux, area and minutes give millionths of a joule; `joules` rounds them. Assumes nothing.
use mathlib.Core.Path.{refl}
use mathlib.Core.List.{[], ◌∷◌}
use Prim.Native.Nat.{◌/◌, ◌^◌}
use borrow.Author.Rules.{rules}
use lib.IntN.{pos}
use Rattle.arith.proofs.Ring.{v, #, ◌⊗◌, ring}
use Rattle.arith.proofs.Machine.{raw, num, ◌⟨*⟩◌}
use Rattle.formulas.specs.Formulas.{joule, wall_heat}
use Rattle.formulas.proofs.Units.{same, times, finer, coarser}
use Rattle.formulas.proofs.Sizes.{within, limits, fit, rounded}
use Rattle.surface.proofs.Terms.{wall_of}
use Rattle.surface.proofs.wall_heat.Statement.{statement}
use Rattle.surface.proofs.wall_heat.Tie as tie

flux-at-requires : tie.Need-flux_at-requires
flux-at-requires c κs = search rules

lost-requires : tie.Need-lost-requires
lost-requires c κs =
    let s = c.before in
    let flux = c.flux_at.ensures (wall_of s.args.reading) refl refl in
    let ks = within flux.size ∷ limits s.requires.wall.section.area ∷ limits s.requires.stage.minutes ∷ [] in
    record {
      one = fit ks (raw 0 ⟨*⟩ raw 1) tt;
      two = fit ks (raw 0 ⟨*⟩ raw 1 ⟨*⟩ raw 2) tt;
      all = fit ks (raw 0 ⟨*⟩ raw 1 ⟨*⟩ raw 2 ⟨*⟩ num (pos 6)) tt;
    }

joules-requires : tie.Need-joules-requires
joules-requires c κs = rw c.lost.ensures (search rules)

returns : tie.Need-returns
unfolding wall_heat
returns c =
    let s = c.before.before.before in
    let flux = c.flux_at in
    let a = s.args.section.area.0 in
    let m = s.args.stage.minutes.0 in
    λ w e₁ e₂.
    let at = flux.ensures w e₁ e₂ in
    let ten = ring (flux.result.0 ∷ a ∷ m ∷ []) (v 0 ⊗ v 1 ⊗ v 2 ⊗ # 6 ⊗ # 10) (v 0 ⊗ v 1 ⊗ v 2 ⊗ # 60) tt in
    let sixty = finer (times (times (times at.is a) m) (pos 60)) (joule / 10 ^ 16) in
    rounded (within at.size ∷ limits s.requires.wall.section.area ∷ limits s.requires.stage.minutes ∷ [])
    (raw 0 ⟨*⟩ raw 1 ⟨*⟩ raw 2 ⟨*⟩ num (pos 6)) (10 ^ 6) (joule / 10 ^ 6) tt
    (coarser 10 (same ten sixty)) (rw (c.joules.ensures, c.lost.ensures))

pub wall_heat_spec : {M : Type 1} → statement M
wall_heat_spec = tie.close (tie.spec flux-at-requires lost-requires joules-requires returns)
