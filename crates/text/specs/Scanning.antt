-- Finding a byte, counting it, and a text's beginning. Assumes nothing.
use Rattle.std.specs.Prelude.{ℕ, zero, suc, ◌+◌, Bool, true, false, cond, ◌&&◌, List, [], ◌∷◌, length, drop, eqb}

-- what stands before the first c, or all where there is no c
unfoldable pub up_to : ℕ → List ℕ → List ℕ
up_to c [] = []
up_to c (b ∷ bs) = cond (eqb b c) [] (b ∷ up_to c bs)

-- the place of the first c at or after a place, or the length; beyond the end, the place itself
abbrev pub find : List ℕ → ℕ → ℕ → ℕ
find s at c = at + length (up_to c (drop at s))

-- how often c stands in s
unfoldable pub count : List ℕ → ℕ → ℕ
count [] c = zero
count (b ∷ bs) c = cond (eqb b c) (suc (count bs c)) (count bs c)

-- s begins with key
unfoldable pub begins : List ℕ → List ℕ → Bool
begins [] s = true
begins (k ∷ ks) [] = false
begins (k ∷ ks) (b ∷ bs) = eqb b k && begins ks bs
