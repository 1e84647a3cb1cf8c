-- The report line by line: the lines of the first figures, and one line more; where figures end, and where keys go on behind them. Assumes nothing.
use Prim.Native.Nat.{ℕ, zero, suc, ◌+◌, ◌≤◌, ◌<◌}
use mathlib.Core.Path.{◌≡◌, refl, sym, ap, ◌∙◌}
use mathlib.Core.List.{List, [], ◌∷◌, ◌++◌, append_assoc, append-nil}
use native.Mathlib.Omega.{arith}
use native.Mathlib.Numerals.{add-one}
use lib.ListN.{length, get_or, take, drop, length-append}
use lib.IntN.{ℤ}
use Rattle.text.specs.Decimal.{line}
use Rattle.formulas.specs.Report.{lines_text}

-- no figure has no line
pub no_lines : (ks : List (List ℕ)) → lines_text ks [] ≡ []
unfolding lines_text
no_lines [] = refl
no_lines (k ∷ ks) = refl

more : (i : ℕ) (ks : List (List ℕ)) (zs : List ℤ) (z : ℤ) → i < length ks → i < length zs →
    lines_text ks (take (suc i) zs) ≡ lines_text ks (take i zs) ++ line (get_or ks i []) (get_or zs i z)
unfolding lines_text
more i [] zs z h g = absurd (omega arith)
more i (k ∷ ks) [] z h g = absurd (omega arith)
more zero (k ∷ ks) (y ∷ zs) z h g = rw (no_lines ks) (append-nil (line k y))
more (suc i) (k ∷ ks) (y ∷ zs) z h g = rw (more i ks zs z (omega arith) (omega arith), append_assoc)

split : (i : ℕ) (ks : List (List ℕ)) (zs : List ℤ) → lines_text ks zs ≡ lines_text ks (take i zs) ++ lines_text (drop i ks) (drop i zs)
unfolding lines_text
split zero ks zs = rw (no_lines ks) refl
split (suc i) [] zs = refl
split (suc i) (k ∷ ks) [] = sym (no_lines (drop i ks))
split (suc i) (k ∷ ks) (y ∷ zs) = rw (split i ks zs, append_assoc)

-- keys behind the last figure write nothing
pub keys-behind : (ks ls : List (List ℕ)) (zs : List ℤ) → length zs ≤ length ks → lines_text (ks ++ ls) zs ≡ lines_text ks zs
unfolding lines_text
keys-behind ks ls [] h = no_lines (ks ++ ls) ∙ sym (no_lines ks)
keys-behind [] ls (z ∷ zs) h = absurd (omega arith)
keys-behind (k ∷ ks) ls (z ∷ zs) h = ap (λ (t : List ℕ). line k z ++ t) (keys-behind ks ls zs (omega arith))

module _ (ks : List (List ℕ)) (zs : List ℤ) where
  pub one_more : (i : ℕ) (z : ℤ) → i < length ks → i < length zs →
      lines_text ks (take (i + 1) zs) ≡ lines_text ks (take i zs) ++ line (get_or ks i []) (get_or zs i z)
  one_more i z h g = rw add-one (more i ks zs z h g)

  pub longer : (i : ℕ) (z : ℤ) → i < length ks → i < length zs →
      length (lines_text ks (take (i + 1) zs)) ≡ length (lines_text ks (take i zs)) + length (line (get_or ks i []) (get_or zs i z))
  longer i z h g = ap length (one_more i z h g) ∙ length-append (lines_text ks (take i zs)) (line (get_or ks i []) (get_or zs i z))

  pub not-longer : (i : ℕ) → length (lines_text ks (take i zs)) ≤ length (lines_text ks zs)
  not-longer i = omega (arith, ap length (split i ks zs) ∙ length-append (lines_text ks (take i zs)) (lines_text (drop i ks) (drop i zs)))
