-- Document 01's own sentence about its sheet: which lines it has, in which order. Assumes nothing.
use mathlib.Core.Path.{◌≡◌, refl}
use mathlib.Core.List.{[], ◌∷◌}
use lib.IntN.{pos}
use Rattle.text.specs.Bytes.{bytes}
use Rattle.sheet.specs.Quantities.{stages_least, stages_most, setters_most, parts_most, sections_least, sections_most, walls_most}
use Rattle.document.specs.Reader.{one, many}
use Rattle.document.specs.Tests.{free, gas-rule, material-rule, section-rule, wall-rule}
use Rattle.document.specs.Document01.{sheet_line, firing_line, product_line, ambient_line, fuel_line, gas_line, air_line, ware_line, water_line, clay_line, stage_line, setter_line, part_line, section_line, wall_line, end_line}
use Rattle.document.specs.Editions.{entries_by, entries_of}
use Rattle.document.proofs.Entries.{all_lines}

-- THE LINES OF EDITION 1, as in document 01's table
pub lines01 : all_lines (pos 1) ≡
    one sheet_line free
    ∷ one firing_line free
    ∷ one product_line free
    ∷ one ambient_line free
    ∷ one fuel_line free
    ∷ one gas_line gas-rule
    ∷ one air_line free
    ∷ one ware_line (material-rule 3)
    ∷ one water_line free
    ∷ one clay_line free
    ∷ many (bytes "stages") stages_least stages_most stage_line free
    ∷ many (bytes "setters") 0 setters_most setter_line (material-rule 2)
    ∷ many (bytes "parts") 0 parts_most part_line (material-rule 1)
    ∷ many (bytes "sections") sections_least sections_most section_line section-rule
    ∷ many (bytes "walls") 0 walls_most wall_line wall-rule
    ∷ one end_line free
    ∷ []
unfolding entries_by
lines01 = refl
