-- The sections up to i have been read, their numbers stand beside them, and no number stands twice among them.
use Rattle.std.proofs.Common.{◌≡◌, length, true, []}
use Rattle.text.specs.Bytes.{bytes}
use Rattle.sheet.specs.Quantities.{sections_most}
use Rattle.document.specs.Document01.{section_line}
use Rattle.document.specs.Reader.{Sheet, read_rows}
use Rattle.document.specs.Tests.{section-rule}
use Rattle.due.specs.Place.{Ready, After}
use Rattle.due.specs.Block.{lacks}
use Rattle.sections.specs.Sections.{numbers, SectionsShown}
use Rattle.sections.proofs.section_rows.Given as goal

abbrev pub invariant-loop-i : goal.invariant-loop-i
invariant-loop-i l =
    (length l.said ≡ sections_most) × Ready l.s l.place × (l.numbers ≡ numbers l.said)
    × ((seen : Sheet) → lacks (bytes "section") seen ≡ true
    → After l.s l.fn.start (read_rows l.i section_line section-rule seen []) l.place (SectionsShown l.i l.said))
