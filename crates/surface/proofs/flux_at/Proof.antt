-- The rise of surface over air is not negative; the two terms add. Assumes nothing.
use mathlib.Core.Path.{sym, ◌∙◌}
use mathlib.Core.List.{[], ◌∷◌}
use borrow.Author.Rules.{rules}
use Rattle.arith.proofs.Order.{arithℤ, sub_nonneg}
use Rattle.arith.proofs.Machine.{raw, ◌⟨+⟩◌, ◌⟨-⟩◌, at_most}
use Rattle.formulas.specs.Formulas.{flux, convection}
use Rattle.formulas.proofs.Units.{units, same, plus}
use Rattle.formulas.proofs.Sizes.{within, limits, most, fit}
use Rattle.surface.proofs.Terms.{wall_of}
use Rattle.surface.proofs.flux_at.Statement.{statement}
use Rattle.surface.proofs.flux_at.Tie as tie

above-requires : tie.Need-above-requires
above-requires c κs =
    let p = c.requires.reading in
    fit (limits p.surface ∷ limits p.air ∷ []) (raw 0 ⟨-⟩ raw 1) tt

convection-requires : tie.Need-convection-first-requires
convection-requires c κs =
    let p = c.requires in
    let ks = limits p.reading.surface ∷ limits p.reading.air ∷ [] in
    rw c.above.ensures
    (record { place = omega (arithℤ, p.section.place.high); low = sub_nonneg p.reading.warmer; high = at_most ks (raw 0 ⟨-⟩ raw 1) tt })

degrees-requires : tie.Need-from-requires
degrees-requires c κs = search rules

degrees-requires-2 : tie.Need-from-requires-2
degrees-requires-2 c κs = search rules

radiation-requires : tie.Need-radiation-second-requires
radiation-requires c κs =
    let p = c.requires.reading in
    rw (c.from.ensures, c.from-2.ensures) (record { surface = p.surface; air = p.air })

both-requires : tie.Need-both-requires
both-requires c κs =
    let first = c.before.before.before in
    let r = first.args.reading in
    let second = c.radiation-second.ensures (wall_of r) (sym c.from.ensures) (sym c.from-2.ensures) in
    fit (within first.convection-first.ensures.size ∷ within second.size ∷ []) (raw 0 ⟨+⟩ raw 1) tt

returns : tie.Need-returns
unfolding flux convection
returns c =
    let warm = c.before.before.before.before in
    let first = warm.convection-first.ensures in
    let rise = warm.above.ensures in
    λ w e₁ e₂.
    let second = c.radiation-second.ensures w (e₁ ∙ sym c.from.ensures) (e₂ ∙ sym c.from-2.ensures) in
    let is = rw (rise, ← e₁, ← e₂) at first.is in
    rw c.both.ensures
    (record { is = plus (same is units) second.is; size = most (within first.size ∷ within second.size ∷ []) (raw 0 ⟨+⟩ raw 1) tt })

pub flux_at_spec : {M : Type 1} → statement M
flux_at_spec =
    tie.close
    (tie.spec above-requires convection-requires degrees-requires degrees-requires-2 radiation-requires both-requires returns)
