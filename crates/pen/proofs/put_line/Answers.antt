-- Four pieces are written one behind the other, and the line's length leaves room for each. Assumes nothing.
use Rattle.std.proofs.Common.{arith, w64}
use mir.ValLaws.{to_z-of_z}
use Rattle.text.proofs.Decimal.{length-line, line-pieces}
use Rattle.pen.proofs.Writing.{next}
use Rattle.pen.proofs.put_line.Goals as goal

pub bytes_at-a-requires : goal.bytes_at-a-requires
bytes_at-a-requires c = omega (arith, c.requires, length-line c.args.key.now c.args.z)

pub bytes_at-b-requires : goal.bytes_at-b-requires
bytes_at-b-requires c = omega (arith, c.requires, length-line c.args.key.now c.args.z, c.bytes_at-a.ensures.ends)

pub number_at-c-requires : goal.number_at-c-requires
number_at-c-requires c =
    rw (to_z-of_z w64 c.args.z c.ranges.z)
    (omega (arith, c.requires, length-line c.args.key.now c.args.z, c.bytes_at-a.ensures.ends, c.bytes_at-b.ensures.ends))

pub bytes_at-requires : goal.bytes_at-requires
bytes_at-requires c =
    let number = rw (to_z-of_z w64 c.args.z c.ranges.z) at c.number_at-c.ensures in
    omega (arith, c.requires, length-line c.args.key.now c.args.z, c.bytes_at-a.ensures.ends, c.bytes_at-b.ensures.ends, number.ends)

pub returns : goal.returns
returns c =
    let number = rw (to_z-of_z w64 c.args.z c.ranges.z) at c.number_at-c.ensures in
    rw (← line-pieces) (next (next (next c.bytes_at-a.ensures c.bytes_at-b.ensures) number) c.bytes_at.ensures)
