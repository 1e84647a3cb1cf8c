-- The readings of the sections up to i stand in the array.
use Rattle.std.proofs.Common.{◌≡◌, length, take}
use Rattle.sheet.specs.Quantities.{sections_most}
use Rattle.walls.specs.Cells.{by_section}
use Rattle.walls.proofs.rows.by_section.Given as goal

abbrev pub invariant-loop-i : goal.invariant-loop-i
invariant-loop-i l = (length l.readings ≡ sections_most) × (take l.i l.readings ≡ by_section (take l.i l.cells))
