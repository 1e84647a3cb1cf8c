-- What is left of a line while it is read, field by field, and the key before it.
use Rattle.std.specs.Prelude.{ℕ, suc, ◌+◌, ◌≡◌, true, cond, List, length, drop, ltb, eqb, ℤ, Result, Ok, Err}
use Rattle.std.proofs.lemmas.List.Edits.{sets}
use Rattle.text.specs.Scanning.{up_to, find, count, begins}
use Rattle.sheet.specs.declared.Refusal.{Refusal}
use Rattle.sheet.specs.declared.Refusal.TheVariants.{NoLineFeed, WrongCount, NotANumber}
use Rattle.document.specs.Schema.{pieces, on_numbers, numbers_of}
use Rattle.form.specs.declared.Formed.{Formed}

abbrev pub accepted : ℕ → List ℤ → Result Formed Refusal
accepted next vals = Ok (record { next = next; values = vals })

-- a line of n fields that ends before `next`: the first i are read and stand in vals, and the pieces are left
unfoldable pub fields_of : ℕ → ℕ → ℕ → List ℤ → List (List ℕ) → Result Formed Refusal
fields_of n next i vals ps =
    cond (eqb (i + length ps) n)
    (on_numbers (numbers_of (suc i) ps) (λ j. Err (NotANumber j)) (λ zs. accepted next (sets vals i zs)))
    (Err WrongCount)

-- the same of the text from a place on, of which the line's end is not known yet
unfoldable pub fields_at : List ℕ → ℕ → ℕ → ℕ → List ℤ → Result Formed Refusal
fields_at s p n i vals =
    cond (ltb (find s p 10) (length s))
    (fields_of n (find s p 10 + 1) i vals (pieces 44 (up_to 10 (drop p s))))
    (Err NoLineFeed)

-- at a place of s stands the key, in which there is no LF
pub record Keyed (s : List ℕ) (at : ℕ) (key : List ℕ) : Type 0 where
  pub stands : begins key (drop at s) ≡ true
  pub clear : count key 10 ≡ 0
