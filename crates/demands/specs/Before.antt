-- What was answered before T-01 of document 02: document 01's own numbers, and no field. For one law alone, that nothing else changed.
use Rattle.std.specs.Prelude.{ℕ, cond, ◌||◌, List, eqb, ltb, length}
use Rattle.sheet.specs.declared.Refusal.{Refusal}
use Rattle.sheet.specs.declared.Refusal.TheVariants.{TooLong, NoLineFeed, WrongKey, WrongCount, NotANumber, Surplus, Outside, Material, Shares, SectionTwice, NoSuchWall, ReadTwice, Missing, Colder, GasTotal, NoRoom, Analysis}
use Rattle.document.specs.Reader as lines
use Rattle.document.specs.Reader.{Refused, Good, read_of}
use Rattle.document.specs.Editions.{document}
use Rattle.document.specs.Rows.{firing_of}
use Rattle.formulas.specs.Report.{report}
use Rattle.answer.specs.declared.Answer.{Answer}

-- document 01's number of each refusal
abbrev pub number01 : Refusal → ℕ
number01 TooLong = 1
number01 NoLineFeed = 2
number01 WrongKey = 2
number01 WrongCount = 2
number01 (NotANumber i) = 2
number01 Surplus = 2
number01 (Outside i) = 3
number01 (Material i) = 4
number01 Shares = 5
number01 SectionTwice = 6
number01 NoSuchWall = 6
number01 ReadTwice = 7
number01 Missing = 8
number01 Colder = 9
number01 GasTotal = 10
number01 NoRoom = 11
number01 Analysis = 14  -- of sheet 2 alone, which document 01 has not

-- the answer had three numbers
pub record Answer01 : Type 0 where
  pub refusal : ℕ
  pub line : ℕ
  pub length : ℕ

abbrev pub answered01 : lines.Answer → ℕ → Answer01
answered01 (Refused x n) room = record { refusal = number01 x; line = n; length = 0 }
answered01 (Good sheet) room =
    let text = report (firing_of sheet) in
    cond (ltb room (length text)) (record { refusal = number01 NoRoom; line = 0; length = 0 }) (record { refusal = 0; line = 0; length = length text })

unfoldable pub answer01 : List ℕ → ℕ → Answer01
answer01 s room = answered01 (read_of document s) room

-- 12 and 13 were 2
abbrev pub renamed : ℕ → ℕ
renamed k = cond (eqb k 12 || eqb k 13) 2 k

-- the answer as it would have been
abbrev pub before : Answer → Answer01
before a = record { refusal = renamed a.refusal; line = a.line; length = a.length }
