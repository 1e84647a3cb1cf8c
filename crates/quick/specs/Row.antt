-- What the quick reader has done where it was to read a row of n numbers into v, and says r.
use Rattle.std.specs.Prelude.{◌≡◌, ℕ, List, length, drop, ℤ, Option, Some}
use Rattle.form.specs.Fields.{accepted, fields_at}

-- where r is a place the array is what the definition says; and whatever r is, it keeps its length and all beyond the first n
pub record RowRead (s : List ℕ) (start n : ℕ) (v w : List ℤ) (r : Option ℕ) : Type 0 where
  pub read : (next : ℕ) → r ≡ Some next → accepted next w ≡ fields_at s start n 0 v
  pub long : length w ≡ length v
  pub beyond : drop n w ≡ drop n v
