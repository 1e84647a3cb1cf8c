-- Where the code begins to read, the rules of the whole sheet, and what it answers.
use Rattle.std.specs.Prelude.{ℕ, ◌≡◌, Result, Ok, Err, cond, List, length, ltb, ℤ}
use Rattle.sheet.specs.declared.Sheet.{Sheet as Sheetˢ}
use Rattle.sheet.specs.declared.Refusal.{Refusal}
use Rattle.sheet.specs.declared.Refusal.TheVariants.{TooLong, Surplus, Missing, GasTotal}
use Rattle.sheet.specs.Refusals.{number, field}
use Rattle.sheet.specs.Shown.{Shows}
use Rattle.sheet.specs.Block.{stages_of, total_gas}
use Rattle.document.specs.Schema.{within}
use Rattle.sheet.specs.Quantities.{gas_total, sheet_most}
use Rattle.document.specs.Reader.{Sheet, Read, stopped, got, read_lines, Answer, Refused, Good}
use Rattle.document.specs.Editions.{document}
use Rattle.document.specs.Rows.{firing_of}
use Rattle.walls.specs.Cells.{all_read}
use Rattle.due.specs.declared.Place.{Place}
use Rattle.due.specs.declared.Heard.{Heard}
use Rattle.lines.specs.All.{Trimmed}
use Rattle.reader.specs.declared.whole.Rejection.{Rejection}
use Rattle.due.specs.Place.{good, refused_at}

-- before the first line
abbrev pub top : Place
top = record { number = 0; field = 0; line = 1; at = 0 }

-- behind the last line of a text that was read to its end
abbrev pub line_ended : Read Sheet → ℕ
line_ended (stopped x n) = n
line_ended (got sheet n rest) = n

unfoldable pub bottom : List ℕ → Place
bottom s = record { number = 0; field = 0; line = line_ended (read_lines document 1 s); at = length s }

-- where the reading of n bytes begins
abbrev pub opening_as : ℕ → Place
opening_as n = cond (ltb sheet_most n) (refused_at TooLong 0) top

-- the rules of the whole sheet, by the struct
abbrev pub gas_of : Sheetˢ → ℤ
gas_of x = total_gas (stages_of x.stages)

abbrev pub whole_as : Place → Sheetˢ → Place
whole_as p x =
    cond (within gas_total (gas_of x))
    (cond (all_read x.readings x.sections.count.0 x.stages.count.0) p (refused_at Missing 0))
    (refused_at GasTotal 0)

-- the place after them, of n bytes that were read up to p; a refused place passes through
abbrev pub verdict_as : ℕ → Place → Sheetˢ → Place
verdict_as n p x = cond (good p) (cond (ltb p.at n) (refused_at Surplus p.line) (whole_as p x)) p

-- THE CODE'S JUDGEMENT of a text: document 01's refusal with its line, as a place, or the place behind the last line and the struct of the
-- firing that the sheet gives, and nothing else. Beside a refusal the struct stays open.
abbrev pub Judged : List ℕ → Answer → Heard Sheetˢ → Type 0
Judged s (Refused x n) r = r.place ≡ refused_at x n
Judged s (Good sheet) r = (r.place ≡ bottom s) × Shows r.said (firing_of sheet) × Trimmed r.said

abbrev pub rejected_as : Refusal → ℕ → Rejection
rejected_as x n = record { number = number x; field = field x; line = n }

-- THE CODE'S ANSWER: document 01's refusal by its number and its field, with its line; or the struct of the firing that the sheet gives; and
-- nothing else
abbrev pub Answers : Answer → Result Sheetˢ Rejection → Type 0
Answers (Refused x n) r = r ≡ Err (rejected_as x n)
Answers (Good sheet) r = (x : Sheetˢ) × (r ≡ Ok x) × Shows x (firing_of sheet) × Trimmed x
