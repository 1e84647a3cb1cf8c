-- The text of a number, and of a line with one. Assumes nothing.
use Rattle.std.specs.Prelude.{ℕ, zero, suc, ◌+◌, ◌/◌, ◌%◌, cond, List, [], ◌∷◌, ◌++◌, ℤ, pos, negsuc, ltb}
use Rattle.text.specs.Bytes.{bytes}

-- the decimal digits of n, which has at most f + 1 of them; 48 is the byte of 0
unfoldable pub digits_in : ℕ → ℕ → List ℕ
digits_in zero n = (48 + n % 10) ∷ []
digits_in (suc f) n = let rest = digits_in f (n / 10) ++ ((48 + n % 10) ∷ []) in cond (ltb n 10) ((48 + n) ∷ []) rest

-- the decimal digits of n: no number n has more than n + 1
unfoldable pub digits : ℕ → List ℕ
digits n = digits_in n n

-- with as many digits as it needs, and `-` before it if negative
unfoldable pub decimal : ℤ → List ℕ
decimal (pos n) = digits n
decimal (negsuc n) = bytes "-" ++ digits (suc n)

-- `key=z` and LF
unfoldable pub line : List ℕ → ℤ → List ℕ
line key z = key ++ (bytes "=" ++ (decimal z ++ bytes "\n"))
