-- By the sign its text is `-` and digits, or digits alone. Assumes nothing.
use Rattle.std.proofs.Common.{ap, length, arith}
use Rattle.text.proofs.Decimal.{length_digits}
use Rattle.pen.proofs.Signed.{minus-text, plain-text}
use Rattle.pen.proofs.width.Goals as goal

pub overflow_add-result : goal.overflow_add-result
overflow_add-result c = let m = c.magnitude.result in omega (arith, c.digit_count-n.ensures, length_digits 19 m (omega arith))

pub returns-then-z-lt0 : goal.returns-then-z-lt0
returns-then-z-lt0 c =
    let m = c.magnitude in
    omega (arith, c.digit_count-n.ensures, ap length (minus-text c.args.z m.result c.ranges.z m.ensures c.if-z-lt0.true))

pub returns-else-z-lt0 : goal.returns-else-z-lt0
returns-else-z-lt0 c =
    let m = c.magnitude in
    omega (arith, c.digit_count-n.ensures, ap length (plain-text c.args.z m.result c.ranges.z m.ensures c.if-z-lt0.false))
