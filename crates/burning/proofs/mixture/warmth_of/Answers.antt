use Rattle.std.proofs.Common.{◌≡◌, ◌≤◌, refl, ◌∙◌, length, length-append, inl, inr, rules}
use native.Mathlib.Nat.{lt_of_le_of_lt}
use lib.Dec.{lit<}
use Rattle.arith.proofs.Order.{sfits_abs}
use Rattle.sheet.specs.Shown.{gas}
use Rattle.sheet.specs.Quantities.{gases}
use Rattle.formulas.specs.Sizes.{cold_most, rise_most}
use Rattle.burning.proofs.Shares.{colds, rises, so_far-all, turned, all-turned, column-next, column-size, column_fits, weigh-size, heat-is}
use Rattle.burning.proofs.mixture.warmth_of.Invariants.{rise}
use Rattle.burning.proofs.mixture.warmth_of.Goals as goal

pub loop-kind-init : goal.loop-kind-init
loop-kind-init c = record { left = record { gases-left = search rules; shares-left = search rules }; cold = refl; rise = refl }

pub warmth_with-sum-requires : goal.warmth_with-sum-requires
warmth_with-sum-requires c =
    let l = c.loop-kind in
    let i = length l.yielded in
    let s = c.in-Some.ensures.steps in
    let t = turned c.args.gas i l.invariant.left s.0 s.1 in
    rw (← t.1, ← t.2)
    (record {
      difference = sfits_abs (lt_of_le_of_lt (column-size rise refl c.args.gas i t.0 rise_most tt) (lit< tt));
      cold = column_fits (λ k. k.cold) refl c.args.gas i t.0 l.invariant.cold cold_most c.requires tt tt;
      rise = column_fits rise refl c.args.gas i t.0 l.invariant.rise rise_most c.requires tt tt;
    })

pub loop-kind-preserved : goal.loop-kind-preserved
loop-kind-preserved c =
    let l = c.loop-kind in
    let i = length l.yielded in
    let s = c.in-Some.ensures.steps in
    let t = turned c.args.gas i l.invariant.left s.0 s.1 in
    let e = rw (← t.1, ← t.2) at c.warmth_with-sum.ensures in
    simp length-append
    (record {
      left = t.3;
      cold = column-next (λ k. k.cold) refl c.args.gas i t.0 l.invariant.cold e.cold;
      rise = column-next rise refl c.args.gas i t.0 l.invariant.rise e.rise;
    })

pub returns : goal.returns
returns c =
    let l = c.loop-kind in
    let long : length c.args.gas ≡ gases = search rules in
    let all : gases ≤ length l.yielded =
    all-turned c.args.gas _ long l.invariant.left (elim c.in-None.ensures.steps [ inl p ↦ inl p.1.0 | inr p ↦ inr p.1.0 ])
    in
    let cold = l.invariant.cold ∙ so_far-all (λ k. k.cold) c.args.gas _ all in
    let risen = l.invariant.rise ∙ so_far-all rise c.args.gas _ all in
    record {
      heat = λ T. rw (cold, risen) (heat-is (gas c.args.gas) T);
      cold = rw cold (weigh-size cold_most colds gases c.requires tt);
      rise = rw risen (weigh-size rise_most rises gases c.requires tt);
    }
