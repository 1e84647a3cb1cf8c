-- One share more is checked. Assumes nothing.
use Prim.Native.Nat.{ℕ, ◌+◌, ◌<◌}
use mathlib.Core.Path.{◌≡◌, refl}
use mathlib.Core.List.{List, [], ◌∷◌, map-append}
use native.Mathlib.Numerals.{add-one}
use native.Mathlib.Omega.{arith}
use lib.IntN.{ℤ, pos}
use lib.ListN.{length, get_or, take, set, replicate, length-set, length-replicate}
use lib.Seq.{take-suc-set, take_all}
use Rattle.limits.specs.Checked.{Measured}
use Rattle.limits.specs.declared.Number.{Number}
use Rattle.quantity.specs.declared.gas.Share.{Share}
use Rattle.sheet.specs.Quantities.{share, gases}
use Rattle.due.specs.Taking.{from}
use Rattle.fuel.specs.Fuel.{shares}
use Rattle.due.proofs.Chain.{Chain, done, taken, chain_snoc, from_end, replicate_end}
use Rattle.fuel.proofs.gas.gas_of.Goals as goal

one_more : (v : List Number) (gas : List Share) (x : Share) (i fault after : ℕ) → i < length gas
    → Chain 0 1 (replicate i share) (from 0 i v) (shares (take i gas)) fault
    → Measured share.least share.greatest (get_or v i (record { 0 = pos 0 })).0 fault (i + 1) x.0 after
    → Chain 0 1 (replicate (i + 1) share) (from 0 (i + 1) v) (shares (take (i + 1) (set gas i x))) after
one_more v gas x i fault after h c m =
    let k : i + 1 ≡ 1 + length (replicate i share) = omega (arith, length-replicate i share) in
    let e : 0 + i ≡ i = omega arith in
    rw (add-one i, replicate_end i share, from_end v 0 i, e, take-suc-set gas i x h, map-append (λ (y : Share). y.0) (take i gas) (x ∷ [])) (chain_snoc c k m)

pub loop-i-init : goal.loop-i-init
loop-i-init c = (refl, done)

pub loop-i-preserved : goal.loop-i-preserved
loop-i-preserved c =
    let at = c.loop-i in
    let share = c.checked-share.result in (
      simp length-set at.invariant.0,
      one_more c.args.v at.value share.value at.i at.fault share.fault (omega (arith, at.invariant.0)) at.invariant.1 c.checked-share.ensures,
    )

pub returns : goal.returns
returns c =
    let at = c.loop-i in
    let e : at.i ≡ gases = omega arith in
    taken (λ (l : List ℤ). l) (rw (e, take_all gases at.value (omega (arith, at.invariant.0))) at at.invariant.1)
