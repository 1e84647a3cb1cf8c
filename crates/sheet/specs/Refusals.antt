-- What the clerk hears: the number of each refusal, by document 01 and T-01 of document 02, and the field it names.
use Rattle.std.specs.Prelude.{ℕ}
use Rattle.sheet.specs.declared.Refusal.{Refusal}
use Rattle.sheet.specs.declared.Refusal.TheVariants.{TooLong, NoLineFeed, WrongKey, WrongCount, NotANumber, Surplus, Outside, Material, Shares, SectionTwice, NoSuchWall, ReadTwice, Missing, Colder, GasTotal, NoRoom, Analysis}

abbrev pub number : Refusal → ℕ
number TooLong = 1
number NoLineFeed = 13
number WrongKey = 2
number WrongCount = 2
number (NotANumber i) = 12
number Surplus = 13
number (Outside i) = 3
number (Material i) = 4
number Shares = 5
number SectionTwice = 6
number NoSuchWall = 6
number ReadTwice = 7
number Missing = 8
number Colder = 9
number GasTotal = 10
number NoRoom = 11
number Analysis = 14

-- counted from 1; 0 where the whole line, or the whole sheet, is meant
abbrev pub field : Refusal → ℕ
field TooLong = 0
field NoLineFeed = 0
field WrongKey = 0
field WrongCount = 0
field (NotANumber i) = i
field Surplus = 0
field (Outside i) = i
field (Material i) = i
field Shares = 0
field SectionTwice = 0
field NoSuchWall = 0
field ReadTwice = 0
field Missing = 0
field Colder = 0
field GasTotal = 0
field NoRoom = 0
field Analysis = 0
