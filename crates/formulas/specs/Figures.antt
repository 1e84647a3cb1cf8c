-- The code's figures are in coarser units than the definitions': what it means that one is the other, and how large it is.
use Rattle.std.specs.Prelude.{ℕ, ◌≤◌, ◌≡◌, ℤ, pos, nat_abs, ◌*ℤ◌}

-- x is n whole units
pub record Is (unit : ℕ) (n x : ℤ) : Type 0 where
  pub is : x ≡ n *ℤ pos unit

-- a size
pub record Within (most : ℕ) (n : ℤ) : Type 0 where
  pub size : nat_abs n ≤ most

-- so many units, and at most so many
pub record Figure (unit most : ℕ) (n x : ℤ) : Type 0 where
  pub is : Is unit n x
  pub size : Within most n

-- the definitions' own unit
pub record Exact (most : ℕ) (n x : ℤ) : Type 0 where
  pub is : n ≡ x
  pub size : Within most n
