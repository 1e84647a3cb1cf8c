-- Where a key stands in a text.
use Rattle.std.specs.Prelude.{ℕ, ◌+◌, Bool, ◌&&◌, List, length, drop, ◌==◌, nat_le}
use Rattle.text.specs.Scanning.{count, begins}

-- at a place within s stands the key, in which there is no LF
unfoldable pub standing : List ℕ → ℕ → List ℕ → Bool
standing s at key = nat_le (at + length key) (length s) && (begins key (drop at s) && count key 10 == 0)
