-- How the code's small place stands for the definitions' state: they go by the text that is left, the code by a place in the whole.
use Rattle.std.specs.Prelude.{ℕ, suc, ◌+◌, ◌≤◌, ◌≡◌, Bool, true, false, cond, not, ◌&&◌, List, length, drop, eqb}
use Rattle.sheet.specs.declared.Refusal.{Refusal}
use Rattle.sheet.specs.declared.Refusal.TheVariants.{Outside}
use Rattle.sheet.specs.Refusals.{number, field}
use Rattle.sheet.specs.Quantities.{sheet_most}
use Rattle.document.specs.Reader.{Read, stopped, got, Reader}
use Rattle.due.specs.declared.Place.{Place}

-- nothing is refused: document 01 has no refusal 0
abbrev pub good : Place → Bool
good p = eqb p.number 0

abbrev pub refused_at : Refusal → ℕ → Place
refused_at r n = record { number = number r; field = field r; line = n; at = 0 }

-- the place before the line after this one
abbrev pub going_on : ℕ → ℕ → Place
going_on n at = record { number = 0; field = 0; line = n + 1; at = at }

-- a place that is not refused: every line above has at least a byte, so its number fits wherever a place does
pub record Fair (s : List ℕ) (p : Place) : Type 0 where
  pub field : p.field ≡ 0
  pub line : p.line ≤ suc p.at
  pub within : p.at ≤ length s

-- what is asked of a place from which something is read
pub record Ready (s : List ℕ) (p : Place) : Type 0 where
  pub short : length s ≤ sheet_most
  pub fair : good p ≡ true → Fair s p

-- a place stands before a rest of the text, in line n, and nothing was refused
pub record Stands (s : List ℕ) (q : Place) (n : ℕ) (rest : List ℕ) : Type 0 where
  pub sound : good q ≡ true
  pub line : q.line ≡ n
  pub left : drop q.at s ≡ rest

-- the place that a reading ends in, and what holds of what was read
abbrev pub Meets : {A : Type 0} → List ℕ → Read A → Place → (A → Type 0) → Type 0
Meets s (stopped r n) q P = q ≡ refused_at r n
Meets s (got a n rest) q P = Stands s q n rest × P a

-- FROM p THE CODE READS AS THE READER m, AND ENDS IN q; a refused place passes through
pub record After {A : Type 0} (s : List ℕ) (p : Place) (m : Reader A) (q : Place) (P : A → Type 0) : Type 0 where
  pub reads : good p ≡ true → Meets s (m p.line (drop p.at s)) q P
  pub passes : good p ≡ false → q ≡ p
  pub fair : good q ≡ true → Fair s q

-- a field outside its range refuses the line, unless its form did; a rule that is broken, unless one of these did
abbrev pub ranged : ℕ → Place → ℕ → Place
ranged n q fault = cond (good q && not (eqb fault 0)) (refused_at (Outside fault) n) q

abbrev pub ruled : ℕ → Place → Bool → Refusal → Place
ruled n q broken why = cond (good q && broken) (refused_at why n) q
