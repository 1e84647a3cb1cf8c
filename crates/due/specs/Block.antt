-- A block: the line that counts its rows, the array that they fill, and the sheet with them.
use Rattle.std.specs.Prelude.{ℕ, suc, ◌≤◌, ◌-◌, ◌≡◌, List, ◌++◌, map, [], ◌∷◌, pos, length, take, drop, replicate, Bool, true, not, ◌&&◌}
use Rattle.std.proofs.Math.Option.{none}
use Rattle.document.specs.Schema.{Line, at, Row}
use Rattle.document.specs.Reader.{read_line, Sheet, filled, same_key}
use Rattle.due.specs.declared.Place.{Place}
use Rattle.due.specs.declared.Heard.{Heard}
use Rattle.due.specs.Place.{After}

-- the code has read a count line: its number, which is never above the greatest
pub record CountAfter (s : List ℕ) (p : Place) (l : Line) (q : Place) (count most : ℕ) : Type 0 where
  pub after : After s p (read_line l (λ row. none)) q (λ row. pos count ≡ at row 0)
  pub within : count ≤ most

pub record Filled {A B : Type 0} (view : A → B) (of : Row → B) (blank : A) (most k : ℕ) (lines : List A) (rows : List Row) : Type 0 where
  pub count : length rows ≡ k
  pub shown : map view (take k lines) ≡ map of rows
  pub rest : drop k lines ≡ replicate (most - k) blank
  pub size : length lines ≡ most

-- a sheet with one paragraph more, whose rows have P
abbrev pub With : Line → Sheet → (List Row → Type 0) → Sheet → Type 0
With l seen P sheet = (rows : List Row) × (sheet ≡ seen ++ filled l rows) × P rows

-- no line with this key has been read
abbrev pub lacks : List ℕ → Sheet → Bool
lacks k [] = true
lacks k (f ∷ fs) = not (same_key k f.key) && lacks k fs

-- so many lines were read, one behind the other, of each of which R says where it began, what was heard of it, and where it ended
pub data RowsHeard {T : Type 0} (R : Place → Heard T → Type 0) : ℕ → Place → Place → List T → Type 0 where
  none_heard : {p : Place} → RowsHeard R 0 p p []
  one_heard : {k : ℕ} {p q : Place} {xs : List T} {r : Heard T} → RowsHeard R k p q xs → R q r → RowsHeard R (suc k) p r.place (xs ++ (r.said ∷ []))
