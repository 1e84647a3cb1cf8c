-- Some and every of a list: of what follows from it, of one more, and of the things a list was made from.
-- Assumes nothing.
use Prim.Native.Nat.{ℕ, zero, suc, ◌<◌}
use mathlib.Core.List.{List, [], ◌∷◌, ◌++◌, map}
use mathlib.Core.Logic.{◌⊎◌, inl, inr, ⊎_elim}
use native.Mathlib.Omega.{arith}
use lib.ListN.{length, get_or, set, replicate}
use Rattle.document.specs.Rules.{Some, Every}

module _ {A : Type 0} where
  pub every_imp : {P Q : A → Type 0} → ((x : A) → P x → Q x) → (xs : List A) → Every P xs → Every Q xs
  every_imp h [] k = tt
  every_imp h (x ∷ xs) k = (h x k.0, every_imp h xs k.1)

  pub every_with : {P Q R : A → Type 0} → ((x : A) → P x → Q x → R x) → (xs : List A) → Every P xs → Every Q xs → Every R xs
  every_with h [] k m = tt
  every_with h (x ∷ xs) k m = (h x k.0 m.0, every_with h xs k.1 m.1)

  pub every_one : {P : A → Type 0} → ((x : A) → P x) → (xs : List A) → Every P xs
  every_one h [] = tt
  every_one h (x ∷ xs) = (h x, every_one h xs)

  pub some_imp : {P Q : A → Type 0} → ((x : A) → P x → Q x) → (xs : List A) → Some P xs → Some Q xs
  some_imp h [] s = absurd s
  some_imp h (x ∷ xs) (inl p) = inl (h x p)
  some_imp h (x ∷ xs) (inr s) = inr (some_imp h xs s)

  -- every one of two lists, one behind the other
  pub every_join : (P : A → Type 0) (xs ys : List A) → Every P xs → Every P ys → Every P (xs ++ ys)
  every_join P [] ys k m = m
  every_join P (x ∷ xs) ys k m = (k.0, every_join P xs ys k.1 m)

  pub every-split : (P : A → Type 0) (xs ys : List A) → Every P (xs ++ ys) → Every P xs × Every P ys
  every-split P [] ys k = (tt, k)
  every-split P (x ∷ xs) ys k = let m = every-split P xs ys k.1 in ((k.0, m.0), m.1)

  -- one of a list with one more is one of the list or this one
  module _ (P : A → Type 0) (x : A) where
    pub some-before : (xs : List A) → Some P xs → Some P (xs ++ (x ∷ []))
    some-before [] s = absurd s
    some-before (y ∷ xs) s = ⊎_elim (λ p. inl p) (λ p. inr (some-before xs p)) s

    pub some-last : (xs : List A) → P x → Some P (xs ++ (x ∷ []))
    some-last [] p = inl p
    some-last (y ∷ xs) p = inr (some-last xs p)

    pub some-either : (xs : List A) → Some P (xs ++ (x ∷ [])) → Some P xs ⊎ P x
    some-either [] s = ⊎_elim (λ p. inr p) (λ p. absurd p) s
    some-either (y ∷ xs) s = ⊎_elim (λ p. inl (inl p)) (λ p. ⊎_elim (λ q. inl (inr q)) (λ q. inr q) (some-either xs p)) s

-- what holds of a list that was made from another one holds of the other, and back
module _ {A B : Type 0} (to : A → B) where
  pub every_made : (P : B → Type 0) (xs : List A) → Every P (map to xs) → Every (λ x. P (to x)) xs
  every_made P [] k = tt
  every_made P (x ∷ xs) k = (k.0, every_made P xs k.1)

  pub made_every : (P : B → Type 0) (xs : List A) → Every (λ x. P (to x)) xs → Every P (map to xs)
  made_every P [] k = tt
  made_every P (x ∷ xs) k = (k.0, made_every P xs k.1)

-- of a list's elements, by their places
module _ {A : Type 0} (P : A → Type 0) where
  pub every-replicate : (n : ℕ) (a : A) → P a → Every P (replicate n a)
  every-replicate zero a h = tt
  every-replicate (suc n) a h = (h, every-replicate n a h)

  pub every_set : (l : List A) (i : ℕ) (a : A) → Every P l → P a → Every P (set l i a)
  every_set [] i a h k = tt
  every_set (x ∷ l) zero a h k = (k, h.1)
  every_set (x ∷ l) (suc i) a h k = (h.0, every_set l i a h.1 k)

  pub every-at : (l : List A) (i : ℕ) (d : A) → Every P l → i < length l → P (get_or l i d)
  every-at [] i d h k = absurd (omega arith)
  every-at (x ∷ l) zero d h k = h.0
  every-at (x ∷ l) (suc i) d h k = every-at l i d h.1 (omega arith)
