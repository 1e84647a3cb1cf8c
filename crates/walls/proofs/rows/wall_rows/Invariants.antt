-- The walls so far lie in their cells, whatever stands above the block, or the place is refused.
use Rattle.std.proofs.Common.{◌≡◌, ◌≤◌, List, length, map, take}
use Rattle.sheet.specs.declared.Section.{Section as Sectionˢ}
use Rattle.sheet.specs.Shown.{section}
use Rattle.sections.specs.Sections.{numbers}
use Rattle.due.specs.Place.{Ready}
use Rattle.walls.specs.Cells.{by_section}
use Rattle.walls.specs.Walls.{WallsAfter}
use Rattle.walls.proofs.rows.wall_rows.Given as goal

abbrev pub invariant-loop : goal.invariant-loop
invariant-loop l =
    (l.count ≤ length l.numbers) × Ready l.s l.place
    × ((sections : List Sectionˢ) → l.numbers ≡ numbers sections
    → WallsAfter l.s l.fn.start l.counter (map section (take l.count sections)) l.stages l.place (by_section l.cells))
