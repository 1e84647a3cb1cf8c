-- What a checking constructor hands out: the contracts of the crate cite these definitions, and `Laws` has what follows.
use Rattle.std.specs.Prelude.{◌≡◌, Bool, cond, ◌&&◌, ℕ, eqb, ℤ, pos}
use Rattle.std.specs.Int.Signed.{le_z}

-- Whether v lies within its limits, both of them included.
unfoldable pub in_range : ℤ → ℤ → ℤ → Bool
in_range least greatest v = le_z least v && le_z v greatest

-- The fault that was found before, or this field where there was none.
unfoldable pub first_fault : ℕ → ℕ → ℕ
first_fault fault field = cond (eqb fault 0) field fault

-- A number within its limits is handed out as it stands, and no fault is added. For one outside them the least value is
-- handed out, so that a quantity is always within its limits, and the field is the fault unless there was one before.
pub record Measured (least greatest v : ℤ) (fault field : ℕ) (value : ℤ) (after : ℕ) : Type 0 where
  pub amount : value ≡ cond (in_range least greatest v) v least
  pub first : after ≡ cond (in_range least greatest v) fault (first_fault fault field)

-- The same for a number of things, an index or a code, which has no sign.
abbrev pub Counted : ℕ → ℕ → ℤ → ℕ → ℕ → ℕ → ℕ → Type 0
Counted least greatest v fault field value after = Measured (pos least) (pos greatest) v fault field (pos value) after
