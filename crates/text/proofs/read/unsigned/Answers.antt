-- Each step of reading, and that so few digits fit. Assumes nothing.
use Rattle.std.proofs.Common.{◌≤◌, get_or, ap, sym, ◌∙◌, arith, Some, w64}
use mir.ValLaws.{to_z_pos}
use Rattle.text.proofs.Reading.{unsigned_reads, read-digit, read_end, below_more, below-most}
use Rattle.text.proofs.read.unsigned.Goals as goal

pub loop-b-init : goal.loop-b-init
loop-b-init c = record {
  rest = unsigned_reads c.args.most c.args.f.now (grind arith) (omega arith) (λ o e. grind arith);
  below = omega arith;
  short = omega (arith, c.requires);
}

pub overflow_mul-n : goal.overflow_mul-n
overflow_mul-n c = let l = c.loop-b in omega (arith, below-most l.n l.b-index l.invariant.below (omega arith))

pub overflow_add-n : goal.overflow_add-n
overflow_add-n c = let l = c.loop-b in omega (arith, below-most l.n l.b-index l.invariant.below (omega arith))

pub loop-b-preserved : goal.loop-b-preserved
loop-b-preserved c =
    let l = c.loop-b in
    let b = get_or c.args.f.now l.b-index 0 in
    let digit : (48 ≤ b) × (b ≤ 57) = c.if-not-is_ascii_digit.ensures.cases in
    record {
      rest = rw c.from.ensures (sym (read-digit c.args.f.now l.b-index c.loop-b-test.true l.n digit.0 digit.1) ∙ l.invariant.rest);
      below = below_more _ _ _ l.invariant.below (omega arith);
      short = l.invariant.short;
    }

pub overflow_cast-result : goal.overflow_cast-result
overflow_cast-result c = let l = c.loop-b in record { sfits = omega (arith, below-most l.n l.b-index l.invariant.below (omega arith)) }

pub returns : goal.returns
returns c =
    let l = c.loop-b in
    ap Some (to_z_pos w64 l.n (omega (arith, below-most l.n l.b-index l.invariant.below (omega arith)))) ∙ sym (read_end _ _ c.loop-b-test.false l.n) ∙ l.invariant.rest
