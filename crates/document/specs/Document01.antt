-- Document 01's sheet: its lines in their order, the ranges of their fields, and the groups in which they stand.
use Rattle.std.specs.Prelude.{List, [], ◌∷◌, map, replicate, pos}
use Rattle.document.specs.Schema.{Line, plain}
use Rattle.sheet.specs.Quantities.{edition, firing, product, ambient, heating, fuel_temperature, share, moisture, mass, temperature, material, capacity, flue, cubic_metres, excess, monoxide, minutes, section_number, place, area, stage_number, surface, near_air, closing, stages_most, setters_most, parts_most, sections_most, walls_most, gases, stages_least, sections_least}
use Rattle.document.specs.Rows.{fuel_row, gas_row, ware_row, water_row, stage_row, setter_row, part_row, section_row, wall_row}
use Rattle.document.specs.Tests.{free, material-rule, gas-rule, section-rule, wall-rule}
use Rattle.document.specs.Entries.{line, Entry, single, figure, block}

-- THE LINES, as in document 01's table
abbrev pub sheet_line : Line
sheet_line = line "sheet" (edition ∷ [])

abbrev pub firing_line : Line
firing_line = line "firing" (firing ∷ [])

abbrev pub product_line : Line
product_line = line "product" (product ∷ [])

abbrev pub ambient_line : Line
ambient_line = line "ambient" (ambient ∷ [])

abbrev pub fuel_line : Line
fuel_line = line "fuel" (heating ∷ fuel_temperature ∷ [])

abbrev pub gas_line : Line
gas_line = line "gas" (replicate gases share)

abbrev pub air_line : Line
air_line = line "air" (moisture ∷ [])

abbrev pub ware_line : Line
ware_line = line "ware" (mass ∷ temperature ∷ temperature ∷ material ∷ capacity ∷ [])

abbrev pub water_line : Line
water_line = line "water" (mass ∷ mass ∷ flue ∷ [])

abbrev pub clay_line : Line
clay_line = line "clay" (mass ∷ [])

abbrev pub stage_line : Line
stage_line = line "stage" (cubic_metres ∷ excess ∷ flue ∷ monoxide ∷ minutes ∷ [])

abbrev pub setter_line : Line
setter_line = line "setter" (mass ∷ temperature ∷ material ∷ capacity ∷ [])

abbrev pub part_line : Line
part_line = line "part" (mass ∷ material ∷ capacity ∷ temperature ∷ temperature ∷ [])

abbrev pub section_line : Line
section_line = line "section" (section_number ∷ place ∷ area ∷ [])

abbrev pub wall_line : Line
wall_line = line "wall" (section_number ∷ stage_number ∷ surface ∷ near_air ∷ [])

abbrev pub end_line : Line
end_line = line "end" (closing ∷ [])

-- THE BLOCKS: a count line, and so many lines
abbrev pub stages : Entry
stages = block "stages" stages_least stages_most stage_line free (λ f. map stage_row f.stages)

abbrev pub setters : Entry
setters = block "setters" 0 setters_most setter_line (material-rule 2) (λ f. map setter_row f.setters)

abbrev pub parts : Entry
parts = block "parts" 0 parts_most part_line (material-rule 1) (λ f. map part_row f.parts)

abbrev pub sections : Entry
sections = block "sections" sections_least sections_most section_line section-rule (λ f. map section_row f.sections)

abbrev pub walls : Entry
walls = block "walls" 0 walls_most wall_line wall-rule (λ f. map wall_row f.walls)

-- THE ENTRIES of document 01's table, in groups that another sheet can exchange
abbrev pub opening : Entry
opening = figure sheet_line (λ f. f.edition)

abbrev pub heading : List Entry
heading = figure firing_line (λ f. f.number) ∷ figure product_line (λ f. f.product) ∷ figure ambient_line (λ f. f.ambient) ∷ []

abbrev pub fuelling : List Entry
fuelling = single fuel_line free (λ f. fuel_row f.fuel) ∷ single gas_line gas-rule (λ f. gas_row f.gas) ∷ []

abbrev pub drying : List Entry
drying =
    figure air_line (λ f. f.moisture)
    ∷ single ware_line (material-rule 3) (λ f. ware_row f.ware)
    ∷ single water_line free (λ f. water_row f.water)
    ∷ figure clay_line (λ f. f.clay)
    ∷ []

abbrev pub staging : List Entry
staging = stages ∷ []

abbrev pub loading : List Entry
loading = setters ∷ parts ∷ []

abbrev pub surfaces : List Entry
surfaces = sections ∷ walls ∷ []

abbrev pub ending : List Entry
ending = single end_line free (λ f. plain (pos 1 ∷ [])) ∷ []
