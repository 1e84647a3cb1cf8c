-- Each column's sum is that over the gases so far.
use Rattle.std.proofs.Common.{◌≡◌, length}
use Rattle.burning.proofs.Shares.{Left, so_far}
use Rattle.burning.proofs.mixture.burning_of.Given as goal

abbrev pub invariant-loop-kind : goal.invariant-loop-kind
invariant-loop-kind l =
    let i = length l.yielded in
    record {
      left : Left l.fn.gas l.kind-iterator.a.rest.now l.kind-iterator.b.rest.now i;
      air : l.sum.air ≡ so_far (λ k. k.air) l.fn.gas i;
      dry : l.sum.dry ≡ so_far (λ k. k.dry) l.fn.gas i;
      vapour : l.sum.vapour ≡ so_far (λ k. k.vapour) l.fn.gas i;
    }
