-- What stops the reader at a line that is due: what is wrong with the line before its rules, or a rule. Assumes nothing.
use Prim.Native.Nat.{ℕ, suc}
use mathlib.Core.Path.{◌≡◌, refl, sym, ap, ◌∙◌}
use mathlib.Core.List.{List}
use mathlib.Core.Option.{Option, none, some}
use mathlib.Core.Bool.{true}
use lib.ListN.{length, drop}
use Rattle.sheet.specs.declared.Refusal.{Refusal}
use Rattle.sheet.specs.Refusals.{number, field}
use Rattle.document.specs.Schema.{on, Row, sound, Judged, refused, values, judge}
use Rattle.document.specs.Reader.{stopped, got, judged, read_line}
use Rattle.document.specs.Order.{DueLine}
use Rattle.document.specs.Faults.{SaysIn, LineFault}
use Rattle.document.proofs.Cases.{clash}
use Rattle.document.proofs.Pieces.{none-outside}
use Rattle.document.proofs.Fields.{in_ranges_lem}
use Rattle.document.proofs.KeyRules.{rule_for}
use Rattle.document.proofs.Said.{says-formed, judge-says}
use Rattle.document.proofs.Faults.{judge_fault}

-- THE RULE THAT IS DUE at a line: that of its key, given all that stands above it
abbrev pub due : DueLine → Row → Option Refusal
due d = rule_for d.line.key (length d.line.fields) d.above

-- A LINE THAT STOPS THE READER
abbrev pub Stops : Refusal → DueLine → Type 0
Stops r d = read_line d.line (due d) d.number d.rest ≡ stopped r d.number

-- before its rules
pub fault_stops : (d : DueLine) → (r : Refusal) → judge d.line d.rest ≡ refused r → Stops r d
unfolding read_line
fault_stops d r e = rw e refl

-- 4 to 9: a rule that is broken
pub rule-stops : (d : DueLine) → sound d.line ≡ true → (row : Row) → SaysIn d.line d.rest row → (r : Refusal) → due d row ≡ some r → Stops r d
unfolding read_line judge
rule-stops d s row h r e =
    let inside = none-outside 1 d.line.fields row.numbers (in_ranges_lem d.line.fields row.numbers h.within) in
    rw (says-formed d.line d.rest s row h.says, inside, e) refl

-- AND NOTHING ELSE DOES
pub data Fault (d : DueLine) (r : Refusal) : Type 0 where
  unfit : LineFault d.line d.rest (number r) (field r) → Fault d r
  ruled_out : (row : Row) → SaysIn d.line d.rest row → due d row ≡ some r → Fault d r

pub stops_fault : (d : DueLine) (r : Refusal) → sound d.line ≡ true → Stops r d → Fault d r
unfolding read_line
stops_fault d r s e = here (judge d.line d.rest) refl e
  where
    ruled : (row : Row) → SaysIn d.line d.rest row → (left : List ℕ) (o : Option Refusal) → due d row ≡ o
        → on o (got row (suc d.number) left) (λ x. stopped x d.number) ≡ stopped r d.number → Fault d r
    ruled row h left none q e = clash cc
    ruled row h left (some x) q e = let z : r ≡ x = cc in ruled_out row h (q ∙ ap some (sym z))

    here : (j : Judged) → judge d.line d.rest ≡ j → judged j (due d) d.number d.rest ≡ stopped r d.number → Fault d r
    here (refused x) q e = let z : x ≡ r = cc in unfit (judge_fault d.line d.rest s r (q ∙ ap refused z))
    here (values row size) q e = ruled row (judge-says d.line d.rest row size q) (drop size d.rest) (due d row) refl e
