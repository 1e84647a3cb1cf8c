-- Each column's sum is that over the gases so far.
use Rattle.std.proofs.Common.{◌≡◌, ℤ, ◌-ℤ◌, length}
use Rattle.burning.specs.declared.mixture.Kind.{Kind}
use Rattle.burning.proofs.Shares.{Left, so_far}
use Rattle.burning.proofs.mixture.warmth_of.Given as goal

-- from 0 to 100 °C
abbrev pub rise : Kind → ℤ
rise k = k.hot -ℤ k.cold

abbrev pub invariant-loop-kind : goal.invariant-loop-kind
invariant-loop-kind l =
    let i = length l.yielded in
    record {
      left : Left l.fn.gas l.kind-iterator.a.rest.now l.kind-iterator.b.rest.now i;
      cold : l.sum.cold ≡ so_far (λ k. k.cold) l.fn.gas i;
      rise : l.sum.rise ≡ so_far rise l.fn.gas i;
    }
