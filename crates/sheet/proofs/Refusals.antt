-- The refusals are numbered from 1 to 14, so that 0 is free for a sheet that is accepted. Assumes nothing.
use Prim.Native.Nat.{◌≤◌, ◌<◌}
use lib.Dec.{lit≤, lit<}
use Rattle.sheet.specs.declared.Refusal.{Refusal}
use Rattle.sheet.specs.declared.Refusal.TheVariants.{TooLong, NoLineFeed, WrongKey, WrongCount, NotANumber, Surplus, Outside, Material, Shares, SectionTwice, NoSuchWall, ReadTwice, Missing, Colder, GasTotal, NoRoom, Analysis}
use Rattle.sheet.specs.Refusals.{number}

pub record Numbered (r : Refusal) : Type 0 where
  pub some : 0 < number r
  pub most : number r ≤ 14

pub numbered : (r : Refusal) → Numbered r
numbered TooLong = record { some = lit< tt; most = lit≤ tt }
numbered NoLineFeed = record { some = lit< tt; most = lit≤ tt }
numbered WrongKey = record { some = lit< tt; most = lit≤ tt }
numbered WrongCount = record { some = lit< tt; most = lit≤ tt }
numbered (NotANumber i) = record { some = lit< tt; most = lit≤ tt }
numbered Surplus = record { some = lit< tt; most = lit≤ tt }
numbered (Outside i) = record { some = lit< tt; most = lit≤ tt }
numbered (Material i) = record { some = lit< tt; most = lit≤ tt }
numbered Shares = record { some = lit< tt; most = lit≤ tt }
numbered SectionTwice = record { some = lit< tt; most = lit≤ tt }
numbered NoSuchWall = record { some = lit< tt; most = lit≤ tt }
numbered ReadTwice = record { some = lit< tt; most = lit≤ tt }
numbered Missing = record { some = lit< tt; most = lit≤ tt }
numbered Colder = record { some = lit< tt; most = lit≤ tt }
numbered GasTotal = record { some = lit< tt; most = lit≤ tt }
numbered NoRoom = record { some = lit< tt; most = lit≤ tt }
numbered Analysis = record { some = lit< tt; most = lit≤ tt }
