-- A number is 1 to 9 digits, with `-` before it if negative; no leading zero but in `0`, no `-0`, no spaces. Assumes nothing.
use Rattle.std.specs.Prelude.{ℕ, ◌+◌, ◌-◌, ◌*◌, Bool, cond, not, ◌&&◌, ◌||◌, List, [], ◌∷◌, length, get_or, drop, leb, ltb, eqb, ℤ, pos, neg_ℤ, Option, Some, None}
use Rattle.std.specs.Int.Signed.{lt_z}
use Rattle.text.specs.Bytes.{bytes}
use Rattle.text.specs.Scanning.{begins}

-- decimal digits, the bytes 48 to 57, read from the left behind a number read already
unfoldable pub digits_read : ℕ → List ℕ → Option ℤ
digits_read n [] = Some (pos n)
digits_read n (b ∷ bs) = cond (ltb b 48 || ltb 57 b) None (digits_read (n * 10 + (b - 48)) bs)

-- more than one digit, of which the first is 0
abbrev pub leading_zero : List ℕ → Bool
leading_zero l = ltb 1 (length l) && eqb (get_or l 0 0) 48

-- 1 to `most` digits, no leading zero but in `0`
unfoldable pub unsigned : ℕ → List ℕ → Option ℤ
unsigned most l = cond (ltb 0 (length l) && (leb (length l) most && not (leading_zero l))) (digits_read 0 l) None

-- no `-0`
abbrev pub negated : Option ℤ → Option ℤ
negated (Some z) = cond (lt_z (pos 0) z) (Some (neg_ℤ z)) None
negated None = None

-- a number of at most so many digits, and one of the sheet
unfoldable pub number_within : ℕ → List ℕ → Option ℤ
number_within most l = cond (begins (bytes "-") l) (negated (unsigned most (drop 1 l))) (unsigned most l)

abbrev pub number_of : List ℕ → Option ℤ
number_of l = number_within 9 l
