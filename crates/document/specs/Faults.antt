-- WHAT IS WRONG WITH A LINE before its rules, as document 02 has it (T-01): 13 first, then 2, then 12, then 3; of several fields the leftmost
-- is named, counted from 1.
use Rattle.std.specs.Prelude.{ℕ, zero, suc, ◌<◌, ◌≡◌, List, [], ◌∷◌, ◌++◌, length, ℤ, nat_abs}
use Rattle.text.specs.Bytes.{bytes}
use Rattle.text.specs.Decimal.{decimal}
use Rattle.text.specs.Scanning.{count}
use Rattle.sheet.specs.Quantities.{Field}
use Rattle.document.specs.Schema.{Line, Row, joined, line_text}
use Rattle.document.specs.Rules.{Every}
use Rattle.document.specs.Lawful.{In, InRanges}

-- A LINE THAT IS CLOSED by its LF: its bytes, with no LF among them, and what follows
pub record Closed (s : List ℕ) : Type 0 where
  pub body : List ℕ
  pub more : List ℕ
  pub clear : count body 10 ≡ 0
  pub whole : s ≡ body ++ (10 ∷ more)

-- ITS FIELDS: behind its key and `=`, as many pieces between commas as the line has fields
pub record Fielded (l : Line) (body : List ℕ) : Type 0 where
  pub pieces : List (List ℕ)
  pub many : length pieces ≡ length l.fields
  pub clear : Every (λ p. count p 44 ≡ 0) pieces
  pub whole : body ≡ (l.key ++ bytes "=") ++ joined pieces

-- A NUMBER OF THE SHEET: the text of a number of at most nine digits
pub record IsNumber (p : List ℕ) : Type 0 where
  pub number : ℤ
  pub small : nat_abs number < 1000000000
  pub its : p ≡ decimal number

-- ALL FOUR: what a line says
pub record Says (l : Line) (s : List ℕ) (row : Row) : Type 0 where
  pub nameless : row.name ≡ []
  pub many : length row.numbers ≡ length l.fields
  pub small : Every (λ z. nat_abs z < 1000000000) row.numbers
  pub more : List ℕ
  pub whole : s ≡ line_text l row ++ more

-- .. and in its ranges
pub record SaysIn (l : Line) (s : List ℕ) (row : Row) : Type 0 where
  pub says : Says l s row
  pub within : InRanges l.fields row.numbers

-- THE LEFTMOST that is not P is the i-th, counted from 1: all before it are
abbrev pub FirstNot : {A : Type 0} → (A → Type 0) → List A → ℕ → Type 0
FirstNot P [] before = ⊥
FirstNot P (x ∷ xs) zero = ¬ P x
FirstNot P (x ∷ xs) (suc before) = P x × FirstNot P xs before

pub record Leftmost {A : Type 0} (P : A → Type 0) (xs : List A) (i : ℕ) : Type 0 where
  pub before : ℕ
  pub counted : i ≡ suc before
  pub first : FirstNot P xs before

-- each number beside the range that its field asks for
pub record Asked : Type 0 where
  pub field : Field
  pub number : ℤ

abbrev pub asked : List Field → List ℤ → List Asked
asked [] zs = []
asked (f ∷ fs) [] = []
asked (f ∷ fs) (z ∷ zs) = record { field = f; number = z } ∷ asked fs zs

abbrev pub Inside : Asked → Type 0
Inside x = In x.field x.number

-- A LINE THAT IS REFUSED before its rules: number k, at field i
pub data LineFault (l : Line) (s : List ℕ) (k i : ℕ) : Type 0 where
  torn : k ≡ 13 → i ≡ 0 → ¬ Closed s → LineFault l s k i
  unkeyed : k ≡ 2 → i ≡ 0 → (c : Closed s) → ¬ Fielded l c.body → LineFault l s k i
  unnumbered : k ≡ 12 → (c : Closed s) (f : Fielded l c.body) → Leftmost IsNumber f.pieces i → LineFault l s k i
  outside : k ≡ 3 → (row : Row) → Says l s row → Leftmost Inside (asked l.fields row.numbers) i → LineFault l s k i
