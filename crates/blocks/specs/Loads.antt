-- The setters and the parts: what the code's arrays show of their rows.
use Rattle.std.specs.Prelude.{ℕ, List, [], ◌∷◌}
use Rattle.sheet.specs.declared.Setters.{Setters}
use Rattle.sheet.specs.declared.Parts.{Parts}
use Rattle.sheet.specs.Shown.{setter, part}
use Rattle.document.specs.Schema.{Row}
use Rattle.document.specs.Reader.{Sheet, read_paragraph}
use Rattle.document.specs.Rows.{setter_of, part_of}
use Rattle.document.specs.Document01.{setter_line, part_line, setters, parts}
use Rattle.sheet.specs.Blank.{blank_setter, blank_part}
use Rattle.sheet.specs.Quantities.{setters_most, parts_most}
use Rattle.due.specs.declared.Place.{Place}
use Rattle.due.specs.Place.{After}
use Rattle.due.specs.Block.{Filled, With}
use Rattle.due.specs.declared.Heard.{Heard}
use Rattle.blocks.specs.declared.Loading.{Loading}
use Rattle.due.specs.Said.{Saying, says_all}

-- the setters and the parts, each by itself and as a group
abbrev pub SetterRows : Setters → List Row → Type 0
SetterRows x = Filled setter setter_of blank_setter setters_most x.count.0 x.lines

abbrev pub PartRows : Parts → List Row → Type 0
PartRows x = Filled part part_of blank_part parts_most x.count.0 x.lines

abbrev pub SettersRead : List ℕ → Place → Heard Setters → Type 0
SettersRead s p r = (seen : Sheet) → After s p (read_paragraph setters.paragraph seen) r.place (With setter_line seen (SetterRows r.said))

abbrev pub PartsRead : List ℕ → Place → Heard Parts → Type 0
PartsRead s p r = (seen : Sheet) → After s p (read_paragraph parts.paragraph seen) r.place (With part_line seen (PartRows r.said))

abbrev pub loading_says : Loading → List Saying
loading_says r = says_all setter_line (SetterRows r.setters) ∷ says_all part_line (PartRows r.parts) ∷ []
