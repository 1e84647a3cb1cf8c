-- Document 01's demands 1 and 2: which texts are answered with a report, and what every other one hears. The answer is that of
-- `kiln::balance`, by its contract: `answer_of` the numbers that come back, `buffer_of` the room that was lent.
use Rattle.std.specs.Prelude.{ℕ, ◌+◌, ◌≤◌, ◌<◌, ◌≡◌, List, ◌++◌, ◌⊎◌, length, drop}
use Rattle.sheet.specs.Firing.{Firing}
use Rattle.sheet.specs.Quantities.{sheet_most, fields_most}
use Rattle.document.specs.Reader.{text_of}
use Rattle.document.specs.Editions.{document, sheet_of}
use Rattle.document.specs.Lawful.{Lawful}
use Rattle.document.specs.Order.{First, Hears, Exactly}
use Rattle.formulas.specs.Report.{report}
use Rattle.answer.specs.declared.Answer.{Answer}
use Rattle.answer.specs.Answer.{refused_as, answer_of, buffer_of}

-- THE TEXT OF A FIRING: its lines `key=value`, in the order of document 01's table
abbrev pub text : Firing → List ℕ
text f = text_of document (sheet_of f)

-- a text is that of a firing that keeps every rule
pub record Kept (s : List ℕ) : Type 0 where
  pub firing : Firing
  pub rules : Lawful firing
  pub its : s ≡ text firing

-- accepted, with a report of so many bytes
abbrev pub accepted : ℕ → Answer
accepted n = record { refusal = 0; line = 0; field = 0; length = n }

-- THE REPORT IS WRITTEN: at the front of the room, and behind it the room is as it was
pub record Reported (s room : List ℕ) (f : Firing) : Type 0 where
  pub fits : length (report f) ≤ length room
  pub answer : answer_of s (length room) ≡ accepted (length (report f))
  pub lent : buffer_of s room ≡ report f ++ drop (length (report f)) room

-- NOTHING IS WRITTEN: refusal k at line n and field i, and the room is as it came
pub record Declined (s room : List ℕ) (k n i : ℕ) : Type 0 where
  pub answer : answer_of s (length room) ≡ refused_as k n i
  pub lent : buffer_of s room ≡ room

-- A TEXT IS REFUSED: with the first refusal that applies, its line and its field, whatever the room is; 11 is not among these
pub record Refused (s : List ℕ) : Type 0 where
  pub number : ℕ
  pub line : ℕ
  pub field : ℕ
  pub least : 1 ≤ number
  pub most : number ≤ 14
  pub of_sheet : ¬ (number ≡ 11)
  pub within : line ≤ sheet_most + 1
  pub fields : field ≤ fields_most
  pub first : First s number line field
  pub told : (room : List ℕ) → Declined s room number line field

-- DEMAND 1: every text is that of a firing that keeps the rules, or refused; never both
pub record Demand1 : Type 0 where
  pub either : (s : List ℕ) → Kept s ⊎ Refused s
  pub apart : (s : List ℕ) → Kept s → ¬ Refused s
  -- every number, every line and every field that is ever answered
  pub numbers : (s : List ℕ) (room : ℕ) → (answer_of s room).refusal ≤ 14
  pub lines : (s : List ℕ) (room : ℕ) → (answer_of s room).line ≤ sheet_most + 1
  pub fields : (s : List ℕ) (room : ℕ) → (answer_of s room).field ≤ fields_most
  -- what the reader says is answered in every room
  pub heard : (s room : List ℕ) (k n i : ℕ) → Hears s k n i → Declined s room k n i
  -- and it says the first that applies, in document 01's order as T-01 amends it, and no other
  pub exactly : (s : List ℕ) (k n i : ℕ) → Exactly s k n i

-- DEMAND 2: the text of every firing that keeps the rules is answered with its report in every room that is large enough, and 11 in every
-- other one; whatever is answered 0 is such a text, and no two such firings have one text
pub record Demand2 : Type 0 where
  pub reported : (f : Firing) → Lawful f → (room : List ℕ) → length (report f) ≤ length room → Reported (text f) room f
  pub no_room : (f : Firing) → Lawful f → (room : List ℕ) → length room < length (report f) → Declined (text f) room 11 0 0
  pub only : (s room : List ℕ) → (answer_of s (length room)).refusal ≡ 0 → (k : Kept s) × Reported s room k.firing
  pub one : (f g : Firing) → Lawful f → Lawful g → text f ≡ text g → f ≡ g
