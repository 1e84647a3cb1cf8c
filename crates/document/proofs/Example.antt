-- Document 01's whole firing and its listed edges, with the fields of T-01, read by computation: one table of cases, and one proof.
-- Assumes nothing.
use Prim.Native.Nat.{ℕ, ◌+◌}
use Prim.Native.String.{String}
use mathlib.Core.Path.{◌≡◌, refl}
use mathlib.Core.List.{List, [], ◌∷◌, ◌++◌}
use mathlib.Core.Bool.{Bool, true, ◌&&◌}
use lib.ListN.{replicate}
use Rattle.text.specs.Bytes.{bytes}
use Rattle.text.specs.Number.{digits_read, unsigned, number_within}
use Rattle.text.specs.Scanning.{up_to, begins}
use Rattle.sheet.specs.Refusals as refusals
use Rattle.sheet.specs.Block.{sum}
use Rattle.sheet.specs.Quantities.{sheet_most}
use Rattle.document.specs.Schema.{pieces, numbers_of, formed_by, outside_of, judge}
use Rattle.document.specs.Reader.{read_line, read_rows, read_paragraphs, Answer, Refused, Good, read_of, same_key}
use Rattle.document.specs.Editions.{entries_by, entries_of, document}

-- the sheet of document 01, with other values in some places and with other lines from `section` on
abbrev sheet : String → String → String → String → List ℕ
sheet product gas stages rest =
    bytes "sheet=1\nfiring=7\nproduct=" ++ bytes product
    ++ bytes "\nambient=200\nfuel=35000,200\ngas=" ++ bytes gas
    ++ bytes "\nair=0\nware=11000,200,12200,0,10000\nwater=500,500,2200\nclay=5000\nstages=" ++ bytes stages
    ++ bytes ",1100,8200,0,600\nsetters=1\nsetter=5000,200,0,10000\nparts=1\npart=20000,1,0,200,6200\nsections=1\nsection=" ++ bytes rest

abbrev methane : String
methane = "0,0,0,0,0,0,10000,0,0,0,0,0,0"

abbrev whole : String
whole = "3,2,1000\nwalls=1\nwall=3,1,560,200\nend=1\n"

abbrev product : String → List ℕ
product p = sheet p methane "1\nstage=2000" whole

abbrev gas : String → List ℕ
gas g = sheet "10000" g "1\nstage=2000" whole

abbrev stages : String → List ℕ
stages v = sheet "10000" methane v whole

abbrev section : String → List ℕ
section rest = sheet "10000" methane "1\nstage=2000" rest

-- its lines above `ware`, with other lines behind them, and those above `stages`
abbrev fired : String → List ℕ
fired rest = bytes "sheet=1\nfiring=7\nproduct=10000\nambient=200\nfuel=35000,200\ngas=" ++ bytes methane ++ bytes "\nair=0\n" ++ bytes rest

abbrev dried : String → List ℕ
dried rest = fired "ware=11000,200,12200,0,10000\nwater=500,500,2200\nclay=5000\nstages=1\n" ++ bytes rest

-- a case: a text, and the number, the line and the field that the clerk hears, or 0 for all three
record Case : Type 0 where
  heard : List ℕ
  text : List ℕ

abbrev case : ℕ → ℕ → ℕ → List ℕ → Case
case number line field text = record { heard = number ∷ line ∷ field ∷ []; text = text }

abbrev cases : List Case
cases =
    case 0 0 0 (section whole)
    -- the edges of document 01
    ∷ case 0 0 0 (product "1000")
    ∷ case 3 3 1 (product "999")
    ∷ case 0 0 0 (stages "1\nstage=100")
    ∷ case 10 0 0 (stages "1\nstage=99")
    ∷ case 5 6 0 (gas "0,0,0,0,0,0,9999,0,0,0,0,0,0")
    ∷ case 8 0 0 (section "3,2,1000\nwalls=0\nend=1\n")
    ∷ case 8 0 0 (stages "2\nstage=2000,1100,8200,0,600\nstage=2000")
    ∷ case 7 21 0 (section "3,2,1000\nwalls=2\nwall=3,1,560,200\nwall=3,1,560,200\nend=1\n")
    ∷ case 6 20 0 (section "4,2,1000\nwalls=1\nwall=3,1,560,200\nend=1\n")
    ∷ case 9 20 0 (section "3,2,1000\nwalls=1\nwall=3,1,199,200\nend=1\n")
    ∷ case 0 0 0 (section "3,2,1000\nwalls=1\nwall=3,1,200,200\nend=1\n")
    -- where a sheet ends
    ∷ case 13 1 0 []
    ∷ case 13 2 0 (bytes "sheet=1\n")
    ∷ case 12 1 1 (bytes "sheet=1\r\n")
    ∷ case 13 21 0 (section "3,2,1000\nwalls=1\nwall=3,1,560,200\nend=1")
    ∷ case 13 22 0 (section "3,2,1000\nwalls=1\nwall=3,1,560,200\nend=1\n\n")
    ∷ case 2 21 0 (section "3,2,1000\nwalls=1\nwall=3,1,560,200\nwall=3,1,560,200\nend=1\n")
    ∷ case 2 20 0 (section "3,2,1000\nwalls=1\nend=1\n")
    -- 1 first; then 13 before 2, 2 before 12, 12 before 3, 3 before the others, these by rising number; then 10, 8
    ∷ case 1 0 0 (replicate (sheet_most + 1) 10)
    ∷ case 2 1 0 (replicate sheet_most 10)
    ∷ case 13 1 0 (bytes "sheet=9")
    ∷ case 3 1 1 (bytes "sheet=9\n")
    ∷ case 12 3 1 (product "1000000000")
    ∷ case 3 3 1 (product "-1000")
    ∷ case 12 3 1 (product "-0")
    ∷ case 3 6 7 (gas "0,0,0,0,0,0,10001,0,0,0,0,0,0")
    ∷ case 5 6 0 (gas "0,10000,0,0,0,0,0,0,0,0,0,0,0")
    ∷ case 3 20 1 (section "3,2,1000\nwalls=1\nwall=0,1,560,200\nend=1\n")
    ∷ case 6 20 0 (section "3,2,1000\nwalls=1\nwall=3,2,199,200\nend=1\n")
    ∷ case 7 21 0 (section "3,2,1000\nwalls=2\nwall=3,1,560,200\nwall=3,1,199,200\nend=1\n")
    ∷ case 3 21 1 (section "3,2,1000\nwalls=1\nwall=3,1,560,200\nend=2\n\n")
    ∷ case 13 21 0 (sheet "10000" methane "1\nstage=99" "3,2,1000\nwalls=0\nend=1\n\n")
    ∷ case 10 0 0 (sheet "10000" methane "1\nstage=99" "3,2,1000\nwalls=0\nend=1\n")
    -- the field, of several the leftmost; 12 before 3 even where that stands further left
    ∷ case 12 8 3 (fired "ware=-1,200,12.2,1O,0\n")
    ∷ case 3 8 1 (fired "ware=-1,200,12200,19,0\n")
    ∷ case 4 8 4 (fired "ware=11000,200,12200,0,0\n")
    ∷ case 12 10 1 (fired "ware=11000,200,12200,0,10000\nwater=500,500,2200\nclay=\n")
    ∷ case 2 10 0 (fired "ware=11000,200,12200,0,10000\nwater=500,500,2200\nclay=5,000\n")
    ∷ case 2 10 0 (fired "ware=11000,200,12200,0,10000\nwater=500,500,2200\nclay\n")
    ∷ case 13 10 0 (fired "ware=11000,200,12200,0,10000\nwater=500,500,2200\nclay")
    ∷ case 3 12 2 (dried "stage=2000,900,13000,0,600\n")
    ∷ case 12 12 4 (dried "stage=2000,900,8200,,600\n")
    ∷ case 4 14 3 (dried "stage=2000,1100,8200,0,600\nsetters=1\nsetter=5000,200,0,0\n")
    ∷ case 4 15 2 (dried "stage=2000,1100,8200,0,600\nsetters=0\nparts=1\npart=20000,1,1,200,6200\n")
    ∷ []

abbrev heard : Answer → List ℕ
heard (Refused r n) = refusals.number r ∷ n ∷ refusals.field r ∷ []
heard (Good s) = 0 ∷ 0 ∷ 0 ∷ []

abbrev right : List Case → Bool
right [] = true
right (c ∷ cs) = same_key (heard (read_of document c.text)) c.heard && right cs

-- the table holds
pub edges : right cases ≡ true
unfolding entries_by read_of read_paragraphs read_rows read_line judge formed_by up_to begins pieces numbers_of number_within unsigned digits_read outside_of sum
edges = refl
