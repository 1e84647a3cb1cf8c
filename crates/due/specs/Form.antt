-- Reading the form of a line alone: what `read_line` of crate document does before it looks at ranges and rules.
use Rattle.std.specs.Prelude.{ℕ, ◌≡◌, cond, List, ◌++◌, length, ℤ}
use Rattle.std.proofs.Math.Option.{none}
use Rattle.std.proofs.lemmas.List.Edits.{sets}
use Rattle.text.specs.Bytes.{bytes}
use Rattle.form.specs.Formed.{zeros, values_in, line_at}
use Rattle.document.specs.Schema.{Line, Row, formed_by}
use Rattle.document.specs.Reader.{Reader, judged}
use Rattle.due.specs.declared.Place.{Place}
use Rattle.limits.specs.declared.Number.{Number}
use Rattle.limits.specs.declared.Checked.{Checked}
use Rattle.due.specs.declared.Heard.{Heard}
use Rattle.due.specs.Place.{good, After, ranged}
use Rattle.due.specs.Taking.{plain_numbers, from}

-- the key is given with its `=`
abbrev pub read_form : List ℕ → ℕ → Reader Row
read_form key n line text = judged (formed_by key n text) (λ row. none) line text

abbrev pub form_of : Line → Reader Row
form_of l = read_form (l.key ++ bytes "=") (length l.fields)

-- thirteen numbers at a place: those of a line in form, and zeros behind them; zeros where the line is not in form or the place is refused
unfoldable pub values_at : List ℕ → Place → List ℕ → ℕ → List ℤ
values_at s p key n = cond (good p) (values_in (line_at s p.at key n)) zeros

-- the code has read a form: the array has the row's n numbers from its front on, and zeros behind them
pub record FormAfter (s : List ℕ) (p : Place) (key : List ℕ) (n : ℕ) (q : Place) (v : List ℤ) : Type 0 where
  pub after : After s p (read_form key n) q (λ row. (v ≡ sets zeros 0 row.numbers) × (length row.numbers ≡ n))
  pub whole : v ≡ values_at s p key n

-- the same, with the numbers taken out of the array
pub record DueAfter (s : List ℕ) (p : Place) (key : List ℕ) (n : ℕ) (r : Heard (List Number)) : Type 0 where
  pub after : After s p (read_form key n) r.place (λ row. from 0 n r.said ≡ row.numbers)
  pub whole : plain_numbers r.said ≡ values_at s p key n

-- the form was read, something was taken of its numbers, and the first field outside its range was asked for
pub record LineTaken {T : Type 0} (s : List ℕ) (p : Place) (key : List ℕ) (n : ℕ) (Of : List Number → Checked T → Type 0) (r : Heard T) : Type 0 where
  pub form : Heard (List Number)
  pub due : DueAfter s p key n form
  pub took : Checked T
  pub taken : Of form.said took
  pub place : r.place ≡ ranged p.line form.place took.fault
  pub said : r.said ≡ took.value
