-- Each turn writes the last of the digits that are left. Assumes nothing.
use Rattle.std.proofs.Common.{◌≡◌, ◌+◌, ◌-◌, length, ◌∙◌, arith}
use Rattle.text.specs.Decimal.{digits}
use Rattle.pen.proofs.Digits.{last-all, last_none, last_written}
use Rattle.pen.proofs.Writing.{over_none}
use Rattle.pen.proofs.digits_at.Goals as goal

pub loop-i-init : goal.loop-i-init
loop-i-init c =
    let k = length (digits c.args.n) in
    let e : c.args.at + k - c.args.at ≡ k = omega arith in
    record { behind = omega arith; text = rw (c.digit_count.ensures, e, last-all c.args.n) }

pub loop-i-preserved : goal.loop-i-preserved
loop-i-preserved c = let l = c.loop-i in record { behind = omega arith; text = last_written c.args.at l.i l.rest l.out (omega arith) (omega arith) ∙ l.invariant.text }

pub returns : goal.returns
returns c =
    let l = c.loop-i in
    let none : l.i - c.args.at ≡ 0 = omega arith in
    record { ends = omega (arith, c.digit_count.ensures); holds = rw (none, last_none, over_none) at l.invariant.text }
