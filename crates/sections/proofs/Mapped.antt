-- An array that is filled from another, element by element. Assumes nothing.
use Prim.Native.Nat.{ℕ, zero, suc, ◌+◌, ◌<◌, ◌≤◌}
use native.Mathlib.Numerals.{add-one}
use mathlib.Core.Path.{◌≡◌, refl, sym, ap, ◌∙◌}
use mathlib.Core.List.{List, [], ◌∷◌, map, map-append}
use lib.ListN.{length, get_or, take, set}
use lib.Seq.{take-suc, take-suc-set, take_all}

module _ {A B : Type 0} (f : A → B) where
  -- What is stored in the one is stored in the other.
  pub set-map : (l : List A) (i : ℕ) (x : A) → set (map f l) i (f x) ≡ map f (set l i x)
  set-map [] i x = refl
  set-map (y ∷ l) zero x = refl
  set-map (y ∷ l) (suc i) x = ap (λ (r : List B). f y ∷ r) (set-map l i x)

  -- The first i of it are there.
  module _ (l : List A) (r : List B) (i : ℕ) (filled : take i r ≡ map f (take i l)) where
    pub one_more : (d : A) → i < length r → i < length l → take (i + 1) (set r i (f (get_or l i d))) ≡ map f (take (i + 1) l)
    one_more d h k = rw (add-one i, take-suc-set r i (f (get_or l i d)) h, take-suc l i d k, filled) (sym (map-append f (take i l) (get_or l i d ∷ [])))

    pub all-filled : length r ≤ i → length l ≤ i → r ≡ map f l
    all-filled h k = sym (take_all i r h) ∙ filled ∙ ap (map f) (take_all i l k)
