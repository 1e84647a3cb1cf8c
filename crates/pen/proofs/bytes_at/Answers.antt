-- Each turn writes one byte more behind those that stand there. Assumes nothing.
use Rattle.std.proofs.Common.{◌≡◌, ◌+◌, ◌++◌, [], ◌∷◌, length, get_or, take, arith}
use native.Mathlib.Nat.{add-zero}
use native.Mathlib.Numerals.{add-one}
use lib.Seq.{take-suc, take_all}
use Rattle.pen.proofs.Writing.{begun, next, one_byte}
use Rattle.pen.proofs.bytes_at.Goals as goal

pub loop-i-init : goal.loop-i-init
loop-i-init c = rw add-zero (begun c.args.at c.args.out.now)

pub loop-i-preserved : goal.loop-i-preserved
loop-i-preserved c =
    let l = c.loop-i in
    let src = c.args.src.now in
    let b = get_or src l.i 0 in
    let more : take (l.i + 1) src ≡ take l.i src ++ (b ∷ []) = rw add-one (take-suc src l.i 0 (omega arith)) in
    let behind : c.args.at + (l.i + 1) ≡ c.args.at + l.i + 1 = omega arith in
    rw (more, behind) (next l.invariant (one_byte (c.args.at + l.i) b l.out (omega arith)))

pub returns : goal.returns
returns c =
    let l = c.loop-i in
    let all : take l.i c.args.src.now ≡ c.args.src.now = take_all l.i c.args.src.now (omega arith) in
    let end : c.args.at + l.i ≡ c.args.at + length c.args.src.now = omega arith in
    rw (all, end) at l.invariant
