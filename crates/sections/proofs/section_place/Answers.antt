-- A number that is not this one is one more before it. Assumes nothing.
use Prim.Native.Nat.{ℕ, suc, ◌+◌, ◌≤◌, ◌<◌}
use native.Mathlib.Omega.{arith}
use mathlib.Core.Path.{◌≡◌, sym, ap, ◌∙◌}
use mathlib.Core.List.{List}
use lib.ListN.{length, get_or, take, drop, drop_of_length-le}
use lib.Seq.{length-take-le, get_or-take}
use Rattle.sections.specs.Sections.{place_of}
use Rattle.sections.proofs.Sections.{place_here, place_further}
use Rattle.sections.proofs.section_place.Goals as goal

module _ (n : ℕ) (l : List ℕ) (count : ℕ) (fits : count ≤ length l) where
  first-length : length (take count l) ≡ count
  first-length = length-take-le count l fits

  none-met : place_of n (drop count (take count l)) ≡ 0
  unfolding place_of
  none-met = ap (place_of n) (drop_of_length-le (take count l) {i = count} (omega (arith, first-length)))

  module _ (i : ℕ) (h : i < count) where
    met : get_or l i 0 ≡ n → place_of n (drop i (take count l)) ≡ 0
    met e = place_here n (take count l) i (rw first-length h) (get_or-take count l i 0 h ∙ e)

    not-met : (k : ℕ) → k ≡ suc i → ¬ (get_or l i 0 ≡ n) → place_of n (drop i (take count l)) ≡ suc (place_of n (drop k (take count l)))
    not-met k e other = rw e (place_further n (take count l) i (rw first-length h) (λ q. other (sym (get_or-take count l i 0 h) ∙ q)))

pub loop-i-init : goal.loop-i-init
loop-i-init c = omega arith

pub loop-i-preserved : goal.loop-i-preserved
loop-i-preserved c =
    let i = c.loop-i.i in
    let further = not-met c.args.number.0 c.args.numbers.now c.args.count c.requires.1 i (omega arith) (i + 1) (omega arith) c.if-numbers-i.false in
    omega (arith, c.loop-i.invariant, further)

pub returns-then-numbers-i : goal.returns-then-numbers-i
returns-then-numbers-i c =
    let here = met c.args.number.0 c.args.numbers.now c.args.count c.requires.1 c.loop-i.i (omega arith) c.if-numbers-i.true in
    omega (arith, c.loop-i.invariant, here)

pub returns : goal.returns
returns c =
    let e : c.loop-i.i ≡ c.args.count = omega arith in
    let none = none-met c.args.number.0 c.args.numbers.now c.args.count c.requires.1 in
    omega (arith, rw e at c.loop-i.invariant, none)
