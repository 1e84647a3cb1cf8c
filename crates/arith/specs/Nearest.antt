-- Division to the nearest whole number, halves to the even one.
use Rattle.std.specs.Prelude.{ℕ, suc, ◌+◌, ◌-◌, ◌/◌, ◌%◌, cond, ltb, ℤ, pos, negsuc, neg_ℤ}

-- THE RULE FOR TIES, here and nowhere else: a size half-way between q and q + 1 goes to the even one of the two
unfoldable pub tie : ℕ → ℕ
tie q = q + q % 2

-- q, with `over` left over and `short` wanting to the next whole number
abbrev pub settled : ℕ → ℕ → ℕ → ℕ
settled q over short = cond (ltb over short) q (cond (ltb short over) (suc q) (tie q))

-- n / d for sizes
unfoldable pub nearest_ℕ : ℕ → ℕ → ℕ
nearest_ℕ n d = settled (n / d) (n % d) (d - n % d)

-- n / d: the size is brought to the nearest whole number, and the sign stays
unfoldable pub nearest : ℤ → ℕ → ℤ
nearest (pos n) d = pos (nearest_ℕ n d)
nearest (negsuc n) d = neg_ℤ (pos (nearest_ℕ (suc n) d))

-- a size with the sign of a number
abbrev pub with_sign : ℤ → ℕ → ℤ
with_sign (pos n) m = pos m
with_sign (negsuc n) m = neg_ℤ (pos m)
