-- One share more is weighed. Assumes nothing.
use Prim.Native.Nat.{ℕ, ◌+◌, ◌*◌, ◌≤◌, ◌<◌}
use mathlib.Core.Path.{◌≡◌, sym, ap, ◌∙◌}
use mathlib.Core.List.{List, [], ◌∷◌}
use native.Mathlib.Numerals.{add-one}
use native.Mathlib.Omega.{arith}
use lib.IntN.{ℤ, pos, nat_abs, ◌+ℤ◌, ◌*ℤ◌, +ℤ_assoc, +ℤ_idl}
use lib.ListN.{length, get_or, drop, get_or-map, length-map, drop_of_length-le}
use lib.Seq.{drop-cons}
use mir.Syntax.{w32, w64}
use Rattle.sheet.specs.Quantities.{gases}
use Rattle.arith.proofs.Ring.{v, #, ◌⊕◌, ring}
use Rattle.arith.proofs.Order.{abs-add}
use Rattle.arith.proofs.Machine.{Known, small, arg, from, ◌⟨+⟩◌, ◌⟨*⟩◌, fits, result, bound}
use Rattle.quantity.specs.declared.gas.Share.{Share}
use Rattle.document.specs.Tests.{weigh}
use Rattle.document.specs.Rules.{Every}
use Rattle.fuel.specs.Fuel.{shares}
use Rattle.document.proofs.Lists.{every-at}
use Rattle.fuel.proofs.gas.weighed.Goals as goal

weigh-step : (ws : List ℤ) (gas : List Share) (i : ℕ) → i < length ws → i < length gas
    → weigh (drop i ws) (drop i (shares gas)) ≡ get_or ws i (pos 0) *ℤ (get_or gas i (record { 0 = pos 0 })).0 +ℤ weigh (drop (i + 1) ws) (drop (i + 1) (shares gas))
weigh-step ws gas i h k =
    let n : i < length (shares gas) = omega (arith, length-map gas (λ (x : Share). x.0)) in
    let e : get_or (shares gas) i (pos 0) ≡ (get_or gas i (record { 0 = pos 0 })).0 = get_or-map (λ (x : Share). x.0) gas i (record { 0 = pos 0 }) in
    rw (add-one i, drop-cons ws i (pos 0) h, drop-cons (shares gas) i (pos 0) n, e)

module _ (gas : List Share) (weights : List ℤ) (sum : ℤ) (i : ℕ) (h : i < gases) (few : length gas ≡ gases) (few' : length weights ≡ gases)
    (each : Every (λ x. nat_abs x.0 ≤ 10000) gas) (light : Every (λ w. nat_abs w ≤ 13) weights) (low : nat_abs sum ≤ i * 130000) where
  abbrev ks : List Known
  ks =
      small (get_or weights i (pos 0)) (every-at (λ w. nat_abs w ≤ 13) weights i (pos 0) light (omega arith))
      ∷ small (get_or gas i (record { 0 = pos 0 })).0 (every-at (λ (x : Share). nat_abs x.0 ≤ 10000) gas i (record { 0 = pos 0 }) each (omega arith))
      ∷ small sum {B = 1690000} (omega arith)
      ∷ []

pub overflow_mul-sum : goal.overflow_mul-sum
overflow_mul-sum c =
    let at = c.loop-i in
    let known = ks c.args.gas c.args.weights at.sum.0 at.i (omega arith) (omega arith) (omega arith) c.requires.shares c.requires.weights at.invariant.0 in
    fits known w64 (arg 0 ⟨*⟩ from w32 (arg 1)) tt

pub overflow_add-sum : goal.overflow_add-sum
overflow_add-sum c =
    let at = c.loop-i in
    let known = ks c.args.gas c.args.weights at.sum.0 at.i (omega arith) (omega arith) (omega arith) c.requires.shares c.requires.weights at.invariant.0 in
    fits known w64 (arg 2 ⟨+⟩ arg 0 ⟨*⟩ from w32 (arg 1)) tt

pub loop-i-init : goal.loop-i-init
loop-i-init c = (omega arith, +ℤ_idl _)

pub loop-i-preserved : goal.loop-i-preserved
loop-i-preserved c =
    let at = c.loop-i in
    let known = ks c.args.gas c.args.weights at.sum.0 at.i (omega arith) (omega arith) (omega arith) c.requires.shares c.requires.weights at.invariant.0 in
    let w = get_or c.args.weights at.i (pos 0) in
    let x = (get_or c.args.gas at.i (record { 0 = pos 0 })).0 in
    let r = result known w64 (arg 2 ⟨+⟩ arg 0 ⟨*⟩ from w32 (arg 1)) tt in
    let more : nat_abs (w *ℤ x) ≤ 130000 = bound known (arg 0 ⟨*⟩ from w32 (arg 1)) tt in
    let step = weigh-step c.args.weights c.args.gas at.i (omega arith) (omega arith) in
    let rest = weigh (drop (at.i + 1) c.args.weights) (drop (at.i + 1) (shares c.args.gas)) in (
      rw r (omega (arith, at.invariant.0, more, abs-add at.sum.0 (w *ℤ x))),
      rw r (+ℤ_assoc at.sum.0 (w *ℤ x) rest ∙ ap (λ (z : ℤ). at.sum.0 +ℤ z) (sym step) ∙ at.invariant.1),
    )

pub returns : goal.returns
returns c =
    let at = c.loop-i in
    let none : drop at.i c.args.weights ≡ [] = drop_of_length-le c.args.weights {i = at.i} (omega arith) in
    ring (at.sum.0 ∷ []) (v 0) (v 0 ⊕ # 0) tt ∙ rw none at at.invariant.1
