-- Document 01's whole firing, from the bytes of its sheet to the bytes of its report, by computation; and with a byte too little room.
-- Assumes nothing.
use Prim.Native.Nat.{ℕ}
use mathlib.Core.Path.{◌≡◌, refl}
use mathlib.Core.List.{List}
use Rattle.arith.specs.Nearest.{nearest, nearest_ℕ, tie}
use Rattle.roots.specs.Root.{root, root_in}
use Rattle.sheet.specs.Block.{sum}
use Rattle.text.specs.Bytes.{bytes}
use Rattle.text.specs.Number.{digits_read, unsigned, number_within}
use Rattle.text.specs.Decimal.{digits_in, digits, decimal, line}
use Rattle.text.specs.Scanning.{up_to, begins}
use Rattle.document.specs.Schema.{pieces, numbers_of, formed_by, outside_of, judge}
use Rattle.document.specs.Reader.{read_line, read_rows, read_paragraphs, read_of}
use Rattle.document.specs.Editions.{entries_by}
use Rattle.formulas.specs.Formulas.{specific_heat, sensible, gas_heat, mixed_heat, theoretical_air, dry_of_gas, vapour_of_gas, of_gas, dry_flue, vapour_rate, vapour, dry_heat, vapour_heat, flue_capacity, flue_heat, monoxide_heat, numbered, convection, radiation, flux, wall_heat, q1, q2, q3, q5, q8, x1, x2, x3, x5, x7, x8, x9, x10, water_heat, useful, withset}
use Rattle.formulas.specs.Items.{total, x11, heats}
use Rattle.formulas.specs.Report.{lines, printed, lines_text, keys, figures, report}
use Rattle.answer.specs.Answer.{refused_as, answer_of, printed_of}

abbrev sheet : List ℕ
sheet = bytes "sheet=1\nfiring=7\nproduct=10000\nambient=200\nfuel=35000,200\ngas=0,0,0,0,0,0,10000,0,0,0,0,0,0\nair=0\nware=11000,200,12200,0,10000\nwater=500,500,2200\nclay=5000\nstages=1\nstage=2000,1100,8200,0,600\nsetters=1\nsetter=5000,200,0,10000\nparts=1\npart=20000,1,0,200,6200\nsections=1\nsection=3,2,1000\nwalls=1\nwall=3,1,560,200\nend=1\n"

text : printed_of sheet ≡ bytes "firing=7\nq1=7000000\nq2=0\nq3=0\nq5=0\nq8=0\nin=7000000\nx1=1200000\nx2=287600\nx3=544000\nx5=600000\nx7=2593943\nx8=0\nx9=152300\nx10=1201440\nx11=420717\nuseful=2049278\nwithset=2649278\neff1=2928\neff2=3785\n"
unfolding printed_of read_of entries_by read_paragraphs read_rows read_line judge formed_by up_to begins pieces numbers_of number_within unsigned digits_read outside_of report keys figures lines heats lines_text printed line decimal digits digits_in nearest nearest_ℕ tie root root_in sum specific_heat sensible gas_heat mixed_heat theoretical_air dry_of_gas vapour_of_gas of_gas dry_flue vapour_rate vapour dry_heat vapour_heat flue_capacity flue_heat monoxide_heat numbered convection radiation flux wall_heat q1 q2 q3 q5 q8 x1 x2 x3 x5 x7 x8 x9 x10 total x11 water_heat useful withset
text = refl

room : answer_of sheet 192 ≡ record { refusal = 0; line = 0; field = 0; length = 192 }
unfolding answer_of read_of entries_by read_paragraphs read_rows read_line judge formed_by up_to begins pieces numbers_of number_within unsigned digits_read outside_of report keys figures lines heats lines_text printed line decimal digits digits_in nearest nearest_ℕ tie root root_in sum specific_heat sensible gas_heat mixed_heat theoretical_air dry_of_gas vapour_of_gas of_gas dry_flue vapour_rate vapour dry_heat vapour_heat flue_capacity flue_heat monoxide_heat numbered convection radiation flux wall_heat q1 q2 q3 q5 q8 x1 x2 x3 x5 x7 x8 x9 x10 total x11 water_heat useful withset
room = refl

no_room : answer_of sheet 191 ≡ refused_as 11 0 0
unfolding answer_of read_of entries_by read_paragraphs read_rows read_line judge formed_by up_to begins pieces numbers_of number_within unsigned digits_read outside_of report keys figures lines heats lines_text printed line decimal digits digits_in nearest nearest_ℕ tie root root_in sum specific_heat sensible gas_heat mixed_heat theoretical_air dry_of_gas vapour_of_gas of_gas dry_flue vapour_rate vapour dry_heat vapour_heat flue_capacity flue_heat monoxide_heat numbered convection radiation flux wall_heat q1 q2 q3 q5 q8 x1 x2 x3 x5 x7 x8 x9 x10 total x11 water_heat useful withset
no_room = refl
