-- What stands where nothing was read fits the line that it would have: so every quantity of a sheet's struct lies within its limits, read or
-- not. Assumes nothing.
use mathlib.Core.Path.{◌≡◌, refl}
use mathlib.Core.Bool.{Bool, true, ◌&&◌}
use mathlib.Core.List.{[], ◌∷◌}
use lib.IntN.{ℤ, pos}
use Rattle.std.specs.Prelude.{Option, None, Some}
use Rattle.sheet.specs.declared.Reading.{Reading}
use Rattle.sheet.specs.Blank.{blank_head, blank_stage, blank_setter, blank_part, blank_section, blank_sheet}
use Rattle.sheet.specs.Shown.{fuel, gas, ware, water, stage, setter, part, section, unread}
use Rattle.sheet.specs.Quantities.{stages_least, stages_most, setters_most, parts_most, sections_least, sections_most, surface, near_air, to}
use Rattle.document.specs.Schema.{Row, plain, within, in_ranges, fits}
use Rattle.document.specs.Rows.{fuel_row, gas_row, ware_row, water_row, stage_row, setter_row, part_row, section_row}
use Rattle.document.specs.Document01.{sheet_line, firing_line, product_line, ambient_line, fuel_line, gas_line, air_line, ware_line, water_line, clay_line, stage_line, setter_line, part_line, section_line}

-- a number as the row of its line
abbrev single : ℤ → Row
single z = plain (z ∷ [])

-- the blanks by line, in document 01's order
pub lines_fit : fits sheet_line (single (pos blank_head.edition.0))
    && fits firing_line (single blank_head.firing.0)
    && fits product_line (single blank_head.product.0)
    && fits ambient_line (single blank_head.ambient.0)
    && fits fuel_line (fuel_row (fuel blank_head.fuel))
    && fits gas_line (gas_row (gas blank_head.gas))
    && fits air_line (single blank_head.moisture.0)
    && fits ware_line (ware_row (ware blank_head.ware))
    && fits water_line (water_row (water blank_head.water))
    && fits clay_line (single blank_head.clay.0)
    && fits stage_line (stage_row (stage blank_stage))
    && fits setter_line (setter_row (setter blank_setter))
    && fits part_line (part_row (part blank_part))
    && fits section_line (section_row (section blank_section))
    ≡ true
unfolding fits in_ranges
lines_fit = refl

-- the two temperatures of a cell, where they were read
abbrev cell_fits : Option Reading → Bool
cell_fits None = true
cell_fits (Some x) = within surface x.surface.0 && within near_air x.air.0

-- the counts of its blocks, and the two temperatures of a cell
pub counts-fit : within (to stages_least stages_most) (pos blank_sheet.stages.count.0)
    && within (to 0 setters_most) (pos blank_sheet.setters.count.0)
    && within (to 0 parts_most) (pos blank_sheet.parts.count.0)
    && within (to sections_least sections_most) (pos blank_sheet.sections.count.0)
    && cell_fits unread
    ≡ true
counts-fit = refl
