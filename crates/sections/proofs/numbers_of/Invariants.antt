-- The numbers of the sections up to i stand in the array.
use Rattle.std.proofs.Common.{◌≡◌, length, take}
use Rattle.sheet.specs.Quantities.{sections_most}
use Rattle.sections.specs.Sections.{numbers}
use Rattle.sections.proofs.numbers_of.Given as goal

abbrev pub invariant-loop-i : goal.invariant-loop-i
invariant-loop-i l = (length l.r ≡ sections_most) × (take l.i l.r ≡ numbers (take l.i l.sections))
