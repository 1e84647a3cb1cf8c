-- By the sign its text is `-` and digits, or digits alone, and so it is written. Assumes nothing.
use Rattle.std.proofs.Common.{ap, length, arith}
use Rattle.pen.proofs.Signed.{minus-text, plain-text}
use Rattle.pen.proofs.Writing.{next}
use Rattle.pen.proofs.number_at.Goals as goal

pub bytes_at-next-requires : goal.bytes_at-next-requires
bytes_at-next-requires c =
    let m = c.magnitude-n in
    omega (arith, c.requires, ap length (minus-text c.args.z m.result c.ranges.z m.ensures c.if-z-lt0.true))

pub digits_at-requires : goal.digits_at-requires
digits_at-requires c =
    let m = c.magnitude-n in
    omega (arith, c.requires, ap length (minus-text c.args.z m.result c.ranges.z m.ensures c.if-z-lt0.true), c.bytes_at-next.ensures.ends)

pub returns-then-z-lt0 : goal.returns-then-z-lt0
returns-then-z-lt0 c =
    let m = c.magnitude-n in
    rw (minus-text c.args.z m.result c.ranges.z m.ensures c.if-z-lt0.true) (next c.bytes_at-next.ensures c.digits_at.ensures)

pub digits_at-requires-2 : goal.digits_at-requires-2
digits_at-requires-2 c =
    let m = c.magnitude-n in
    omega (arith, c.requires, ap length (plain-text c.args.z m.result c.ranges.z m.ensures c.if-z-lt0.false))

pub returns : goal.returns
returns c =
    let m = c.magnitude-n in
    rw (plain-text c.args.z m.result c.ranges.z m.ensures c.if-z-lt0.false) c.digits_at-2.ensures
