-- The numbers up to i have been wrapped.
use Rattle.std.proofs.Common.{◌≡◌, length, take}
use Rattle.sheet.specs.Quantities.{fields_most}
use Rattle.due.specs.Taking.{plain_numbers}
use Rattle.due.proofs.numbers.Given as goal

abbrev pub invariant-loop-i : goal.invariant-loop-i
invariant-loop-i l = (length l.r ≡ fields_most) × (plain_numbers (take l.i l.r) ≡ take l.i l.v)
