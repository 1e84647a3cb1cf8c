-- A sum with every weight 1 is the sum of the shares. Assumes nothing.
use Prim.Native.Nat.{ℕ, zero, suc, ◌≤◌}
use mathlib.Core.Path.{◌≡◌, refl, ap, ap₂, ◌∙◌}
use mathlib.Core.Bool.{Bool, not, ◌&&◌}
use mathlib.Core.List.{List, [], ◌∷◌}
use native.Mathlib.Omega.{arith}
use lib.IntN.{ℤ, pos, ◌+ℤ◌}
use lib.ListN.{length, replicate, length-map}
use lib.Signed.{lt_z}
use Rattle.arith.proofs.Int.{one_*ℤ}
use Rattle.quantity.specs.declared.gas.Share.{Share}
use Rattle.sheet.specs.Shown.{same}
use Rattle.sheet.specs.Block.{sum}
use Rattle.sheet.specs.Quantities.{gases}
use Rattle.document.specs.Tests.{weigh, air_weights}
use Rattle.fuel.specs.Fuel.{shares}
use Rattle.fuel.proofs.gas.unburnable.Goals as goal
use Rattle.fuel.proofs.gas.unburnable.Goals.{then-full, else-full}

weigh-ones : (n : ℕ) (zs : List ℤ) → length zs ≤ n → weigh (replicate n (pos 1)) zs ≡ sum (λ z. z) zs
unfolding sum
weigh-ones zero [] h = refl
weigh-ones (suc n) [] h = refl
weigh-ones zero (z ∷ zs) h = absurd (omega arith)
weigh-ones (suc n) (z ∷ zs) h = ap₂ ◌+ℤ◌ (one_*ℤ z) (weigh-ones n zs (omega arith))

-- both tests, as the definition joins them
joined : (full burns : Bool) (t u : Bool) → full ≡ t → burns ≡ u → not (full && burns) ≡ not (t && u)
joined full burns t u e f = rw (e, f)

module _ (gas : List Share) (few : length gas ≡ gases) {total air : ℤ} {full burns : Bool}
    (s : total ≡ weigh (replicate gases (pos 1)) (shares gas)) (a : air ≡ weigh air_weights (shares gas))
    (f : full ≡ same total (pos 10000)) (b : burns ≡ lt_z (pos 0) air) where
  tests : not (full && burns) ≡ not (same (sum (λ z. z) (shares gas)) (pos 10000) && lt_z (pos 0) (weigh air_weights (shares gas)))
  tests =
      let one = weigh-ones gases (shares gas) (omega (arith, length-map gas (λ (x : Share). x.0))) in
      joined full burns _ _ (f ∙ ap (λ (z : ℤ). same z (pos 10000)) (s ∙ one)) (b ∙ ap (λ (z : ℤ). lt_z (pos 0) z) a)

pub returns : goal.returns
returns c =
    let t = tests c.args.gas (omega arith) c.weighed.ensures c.weighed-2.ensures c.whole-full.ensures c.any-burns.ensures in
    elim c.if-full.branch [
      | then-full w ↦ rw w.result-is (rw w.if-full.true at t)
      | else-full w ↦ rw (w.result-is, w.if-full.false) (rw w.if-full.false at t)
    ]
