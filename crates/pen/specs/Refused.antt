-- HOW EVERY PROGRAM BEGINS A REFUSAL: `refused=`, its number, a comma and the place of the fault. Assumes nothing.
use Rattle.std.specs.Prelude.{ℕ, List, ◌++◌, pos}
use Rattle.text.specs.Bytes.{bytes}
use Rattle.text.specs.Decimal.{decimal}

-- a comma and a number
abbrev pub behind_comma : ℕ → List ℕ
behind_comma n = bytes "," ++ decimal (pos n)

abbrev pub refused_at : ℕ → ℕ → List ℕ
refused_at number place = bytes "refused=" ++ (decimal (pos number) ++ behind_comma place)

-- none is longer: `refused=`, and twice at most eleven digits with a comma between
abbrev pub refused_at_most : ℕ
refused_at_most = 31
