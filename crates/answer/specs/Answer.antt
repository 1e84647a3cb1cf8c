-- THE ANSWER to every sheet and every room lent: the numbers that come back, and what each lent byte then is.
use Rattle.std.specs.Prelude.{ℕ, cond, List, ◌++◌, ltb, length}
use Rattle.text.specs.Bytes.{bytes}
use Rattle.pen.specs.Writing.{over}
use Rattle.pen.specs.Refused.{behind_comma, refused_at}
use Rattle.sheet.specs.declared.Refusal.TheVariants.{NoRoom}
use Rattle.sheet.specs.Refusals.{number, field}
use Rattle.sheet.specs.Firing.{Firing}
use Rattle.document.specs.Reader as lines
use Rattle.document.specs.Reader.{Refused, Good, read_of}
use Rattle.document.specs.Editions.{document}
use Rattle.document.specs.Rows.{firing_of}
use Rattle.formulas.specs.Report.{report, joules_text}
use Rattle.answer.specs.declared.Answer.{Answer}

-- a refusal by its number, with its line and its field
abbrev pub refused_as : ℕ → ℕ → ℕ → Answer
refused_as refusal line field = record { refusal = refusal; line = line; field = field; length = 0 }

-- a text for which so much room is lent: its length, or refusal 11
abbrev pub fitted : List ℕ → ℕ → Answer
fitted text room = cond (ltb room (length text)) (refused_as (number NoRoom) 0 0) (record { refusal = 0; line = 0; field = 0; length = length text })

-- and the room: as it was, or with the text at its front
abbrev pub placed : List ℕ → List ℕ → List ℕ
placed text old = cond (ltb (length old) (length text)) old (over 0 text old)

abbrev pub answered : lines.Answer → ℕ → Answer
answered (Refused x n) room = refused_as (number x) n (field x)
answered (Good sheet) room = fitted (report (firing_of sheet)) room

abbrev pub left : lines.Answer → List ℕ → List ℕ
left (Refused x n) old = old
left (Good sheet) old = placed (report (firing_of sheet)) old

-- WHAT COMES BACK for a sheet and so many bytes of room
unfoldable pub answer_of : List ℕ → ℕ → Answer
answer_of s room = answered (read_of document s) room

-- WHAT THE ROOM THEN HOLDS
unfoldable pub buffer_of : List ℕ → List ℕ → List ℕ
buffer_of s old = left (read_of document s) old

-- WHAT A PROGRAM PRINTS: `refused=NUMBER,LINE,FIELD` and LF, or a text of the firing
abbrev pub refused_text : ℕ → ℕ → ℕ → List ℕ
refused_text refusal line field = refused_at refusal line ++ (behind_comma field ++ bytes "\n")

-- no refusal's is longer
abbrev pub refused_most : ℕ
refused_most = 44

abbrev pub told : (Firing → List ℕ) → lines.Answer → List ℕ
told text (Refused x n) = refused_text (number x) n (field x)
told text (Good sheet) = text (firing_of sheet)

-- `balance` prints the report
unfoldable pub printed_of : List ℕ → List ℕ
printed_of s = told report (read_of document s)

-- `joules` prints the heats in joules
unfoldable pub joules_of : List ℕ → List ℕ
joules_of s = told joules_text (read_of document s)
