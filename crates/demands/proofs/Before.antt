-- T-01 names what is wrong more closely and changes nothing else. Assumes nothing.
use Prim.Native.Nat.{ℕ}
use mathlib.Core.Path.{◌≡◌, refl, ap}
use mathlib.Core.Bool.{Bool, true, false, cond}
use mathlib.Core.List.{List}
use lib.Dec.{ltb}
use lib.ListN.{length}
use Rattle.sheet.specs.declared.Refusal.{Refusal}
use Rattle.sheet.specs.declared.Refusal.TheVariants.{TooLong, NoLineFeed, WrongKey, WrongCount, NotANumber, Surplus, Outside, Material, Shares, SectionTwice, NoSuchWall, ReadTwice, Missing, Colder, GasTotal, NoRoom, Analysis}
use Rattle.sheet.specs.Refusals.{number}
use Rattle.document.specs.Reader as lines
use Rattle.document.specs.Reader.{Refused, Good, read_of}
use Rattle.document.specs.Editions.{document}
use Rattle.document.specs.Rows.{firing_of}
use Rattle.formulas.specs.Report.{report}
use Rattle.answer.specs.Answer.{refused_as, answered, answer_of}
use Rattle.demands.specs.Demands.{accepted}
use Rattle.demands.specs.Before.{number01, Answer01, answered01, answer01, renamed, before}

number-before : (x : Refusal) → renamed (number x) ≡ number01 x
number-before TooLong = refl
number-before NoLineFeed = refl
number-before WrongKey = refl
number-before WrongCount = refl
number-before (NotANumber i) = refl
number-before Surplus = refl
number-before (Outside i) = refl
number-before (Material i) = refl
number-before Shares = refl
number-before SectionTwice = refl
number-before NoSuchWall = refl
number-before ReadTwice = refl
number-before Missing = refl
number-before Colder = refl
number-before GasTotal = refl
number-before NoRoom = refl
number-before Analysis = refl

answer-before : (a : lines.Answer) (room : ℕ) → before (answered a room) ≡ answered01 a room
answer-before (Refused x n) room = ap (λ (k : ℕ). record { refusal = k; line = n; length = 0 }) (number-before x)
answer-before (Good sheet) room = here (ltb room (length (report (firing_of sheet))))
  where
    here : (t : Bool) → before (cond t (refused_as 11 0 0) (accepted (length (report (firing_of sheet)))))
        ≡ cond t (record { refusal = 11; line = 0; length = 0 }) (record { refusal = 0; line = 0; length = length (report (firing_of sheet)) })
    here true = refl
    here false = refl

-- EVERY ANSWER IS AS BEFORE, with 12 and 13 renamed 2 and the field dropped
pub as_before : (s : List ℕ) (room : ℕ) → before (answer_of s room) ≡ answer01 s room
unfolding answer_of answer01
as_before s room = answer-before (read_of document s) room
