-- Behind the sign stands a number with an opposite, and it is handed on unless it is 0. Assumes nothing.
use Rattle.std.proofs.Common.{◌≡◌, Bool, true, false, cond, ℤ, pos, neg_ℤ, ◌-ℤ◌, Some, None, refl, sym, ap, ◌∙◌, arith, w64}
use Rattle.std.specs.Bool.{then_some}
use lib.Signed.{lt_z}
use mir.ValLaws.{to_z-of_z}
use Rattle.arith.proofs.Signed.{W, turned}
use Rattle.text.proofs.Reading.{unsigned-text, below-most, within_signed}
use Rattle.text.proofs.read.number_within.Goals as goal

then_cond : (t : Bool) (z : ℤ) → then_some t z ≡ cond t (Some z) None
then_cond true z = refl
then_cond false z = refl

pub returns-in_ok-n-in-Some : goal.returns-in_ok-n-in-Some
returns-in_ok-n-in-Some c =
    let a = c.args in
    let z = c.in_ok-n-in-Some.n in
    let behind = c.in-Some.ensures.cases in
    let u = unsigned-text _ _ _ (sym c.unsigned.ensures ∙ c.in_ok-n-in-Some.was) in
    let t = turned z u.0 u.1 (omega (arith, below-most u.0 a.most u.3 c.requires)) in
    let kept : W (pos 0 -ℤ W z) ≡ neg_ℤ z = ap W t.minus ∙ to_z-of_z w64 (neg_ℤ z) t.fits in
    rw (c.then_some.ensures, kept, t.back, within_signed a.most a.f.now behind.0, ← behind.1, ← c.unsigned.ensures, c.in_ok-n-in-Some.was) (then_cond (lt_z (pos 0) z) (neg_ℤ z))

pub overflow_sub-n : goal.overflow_sub-n
overflow_sub-n c =
    let u = unsigned-text _ _ _ (sym c.unsigned.ensures ∙ c.in_ok-n-in-Some.was) in
    let t = turned _ u.0 u.1 (omega (arith, below-most u.0 c.args.most u.3 c.requires)) in
    rw t.minus t.fits
