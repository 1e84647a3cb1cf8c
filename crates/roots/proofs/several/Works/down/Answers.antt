-- Each root is brought as far as one is in `floor_root`'s loop, by pairs that are the half's and so the number's.
use Rattle.std.proofs.Common.{◌≡◌, ◌+◌, ◌-◌, ◌*◌, ◌%◌, arith}
use Rattle.roots.proofs.Pairs.{one_brought, short, half-pair}
use Rattle.roots.proofs.several.Works.down.Goals as goal

pub stepped-works-requires : goal.stepped-works-requires
stepped-works-requires c = (omega arith, λ k h. short (c.loop-pair.invariant.1 k h) (omega arith) (c.requires.4 k h))

pub loop-pair-preserved : goal.loop-pair-preserved
loop-pair-preserved c =
    let one : c.loop-pair.pair ≡ c.loop-pair.pair - 1 + 1 = omega arith in (
      omega arith,
      λ k h.
          let p = c.loop-pair.pair - 1 in
          let pair = half-pair _ _ _ (2 * p) (p % 16) (c.halves-half.ensures k h) (omega (arith, c.requires)) (omega arith) in
          one_brought one (c.loop-pair.invariant.1 k h) (rw pair at (c.stepped-works.ensures k h)),
    )

pub returns : goal.returns
returns c = λ k h. let e : c.loop-pair.pair ≡ c.args.to = omega arith in rw (← e) (c.loop-pair.invariant.1 k h)
