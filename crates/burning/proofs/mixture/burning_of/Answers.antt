use Rattle.std.proofs.Common.{◌≡◌, ◌≤◌, refl, ◌∙◌, length, length-append, inl, inr, rules}
use Rattle.sheet.specs.Shown.{gas}
use Rattle.sheet.specs.Quantities.{gases}
use Rattle.formulas.specs.Sizes.{butane_air, butane_dry, butane_vapour}
use Rattle.burning.proofs.Shares.{airs, dries, vapours, so_far-all, turned, all-turned, column-next, column_fits, weigh-size, air-is, dry-is, vapour-is}
use Rattle.burning.proofs.mixture.burning_of.Goals as goal

pub loop-kind-init : goal.loop-kind-init
loop-kind-init c = record { left = record { gases-left = search rules; shares-left = search rules }; air = refl; dry = refl; vapour = refl }

pub burning_with-sum-requires : goal.burning_with-sum-requires
burning_with-sum-requires c =
    let l = c.loop-kind in
    let i = length l.yielded in
    let s = c.in-Some.ensures.steps in
    let t = turned c.args.gas i l.invariant.left s.0 s.1 in
    rw (← t.1, ← t.2)
    (record {
      air = column_fits (λ k. k.air) refl c.args.gas i t.0 l.invariant.air butane_air c.requires tt tt;
      dry = column_fits (λ k. k.dry) refl c.args.gas i t.0 l.invariant.dry butane_dry c.requires tt tt;
      vapour = column_fits (λ k. k.vapour) refl c.args.gas i t.0 l.invariant.vapour butane_vapour c.requires tt tt;
    })

pub loop-kind-preserved : goal.loop-kind-preserved
loop-kind-preserved c =
    let l = c.loop-kind in
    let i = length l.yielded in
    let s = c.in-Some.ensures.steps in
    let t = turned c.args.gas i l.invariant.left s.0 s.1 in
    let e = rw (← t.1, ← t.2) at c.burning_with-sum.ensures in
    simp length-append
    (record {
      left = t.3;
      air = column-next (λ k. k.air) refl c.args.gas i t.0 l.invariant.air e.air;
      dry = column-next (λ k. k.dry) refl c.args.gas i t.0 l.invariant.dry e.dry;
      vapour = column-next (λ k. k.vapour) refl c.args.gas i t.0 l.invariant.vapour e.vapour;
    })

pub returns : goal.returns
returns c =
    let l = c.loop-kind in
    let long : length c.args.gas ≡ gases = search rules in
    let all : gases ≤ length l.yielded =
    all-turned c.args.gas _ long l.invariant.left (elim c.in-None.ensures.steps [ inl p ↦ inl p.1.0 | inr p ↦ inr p.1.0 ])
    in
    let air = l.invariant.air ∙ so_far-all (λ k. k.air) c.args.gas _ all in
    let dry = l.invariant.dry ∙ so_far-all (λ k. k.dry) c.args.gas _ all in
    let vapour = l.invariant.vapour ∙ so_far-all (λ k. k.vapour) c.args.gas _ all in
    rw (air, dry, vapour)
    (record {
      is = rw (air-is (gas c.args.gas), dry-is (gas c.args.gas), vapour-is (gas c.args.gas)) refl;
      within = record {
        air = weigh-size butane_air airs gases c.requires tt;
        dry = weigh-size butane_dry dries gases c.requires tt;
        vapour = weigh-size butane_vapour vapours gases c.requires tt;
      };
    })
