-- Sheet 2, of T-03: document 01's sheet with another line `stage`, which has what an analyser says of the flue.
use Rattle.std.specs.Prelude.{Bool, cond, List, [], ◌∷◌, map}
use Rattle.sheet.specs.Quantities.{cubic_metres, excess, analysed_flue, monoxide, pair, oxygen, minutes, stages_least, stages_most}
use Rattle.document.specs.Schema.{Line}
use Rattle.document.specs.Reader.{Rule}
use Rattle.document.specs.Rows.{analysed_row}
use Rattle.document.specs.Tests.{free, analysis-rule}
use Rattle.document.specs.Entries.{line, Entry, block}
use Rattle.document.specs.Document01.{stage_line, staging}

abbrev pub analysed_line : Line
analysed_line = line "stage" (cubic_metres ∷ excess ∷ analysed_flue ∷ monoxide ∷ pair ∷ oxygen ∷ minutes ∷ [])

abbrev pub analysed_stages : Entry
analysed_stages = block "stages" stages_least stages_most analysed_line analysis-rule (λ f. map analysed_row f.stages)

abbrev pub analysed_staging : List Entry
analysed_staging = analysed_stages ∷ []

-- the stages of either sheet: whether their flue is analysed decides
abbrev pub stage_line_by : Bool → Line
stage_line_by flue = line "stage" (cond flue analysed_line.fields stage_line.fields)

abbrev pub stage_rule_by : Bool → Rule
stage_rule_by flue = cond flue analysis-rule free

abbrev pub staging_by : Bool → List Entry
staging_by flue = cond flue analysed_staging staging
