-- What the quick reader has seen of a number where it says yes.
use Rattle.std.specs.Prelude.{◌≡◌, ℕ, ◌+◌, ◌<◌, List, length, drop, ℤ, Some}
use Rattle.text.specs.Number.{number_of}
use Rattle.text.specs.Scanning.{up_to, find}

-- at a place of s stand a number z and the byte c, and after them the place next
pub record Number (s : List ℕ) (at c : ℕ) (z : ℤ) (next : ℕ) : Type 0 where
  pub inside : find s at c < length s
  pub ends : next ≡ find s at c + 1
  pub says : number_of (up_to c (drop at s)) ≡ Some z
