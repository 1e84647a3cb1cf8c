-- The number of the header for C. The header says by which rule it grows.
use Rattle.std.specs.Prelude.{ℕ}

abbrev pub version : ℕ
version = 1
