-- Writing into a list. Assumes nothing.
use Rattle.std.specs.Prelude.{ℕ, ◌+◌, ◌≡◌, List, ◌++◌, length, take, drop}

-- old with text from `at` on: what stands before and behind is as it was
unfoldable pub over : ℕ → List ℕ → List ℕ → List ℕ
over at text old = take at old ++ (text ++ drop (length text) (drop at old))

-- `text` has been written over `old` from `at` on, which gave `new`, and ends at `end`
pub record Written (at : ℕ) (text old new : List ℕ) (end : ℕ) : Type 0 where
  pub ends : end ≡ at + length text
  pub holds : new ≡ over at text old
