-- What is written, with the digits of the rest written over its front, is the text that is wanted. Assumes nothing.
use Rattle.std.proofs.Common.{◌≡◌, ◌-◌, ◌≤◌}
use Rattle.text.specs.Decimal.{digits}
use Rattle.pen.specs.Writing.{over}
use Rattle.pen.proofs.Digits.{last_digits}
use Rattle.pen.proofs.digits_at.Given as goal

abbrev pub invariant-loop-i : goal.invariant-loop-i
invariant-loop-i l = record {
  behind : l.at ≤ l.i;
  text : over l.at (last_digits (l.i - l.at) l.rest) l.out ≡ over l.at (digits l.n) l.fn.out;
}
