-- One step of reading a line's fields: a piece that is a number is stored, and one that is none is named.
-- Assumes nothing.
use mathlib.Core.Path.{◌≡◌, refl}
use mathlib.Core.List.{List, [], ◌∷◌}
use Prim.Native.Nat.{ℕ, suc, ◌+◌}
use native.Mathlib.Numerals.{add-one}
use native.Mathlib.Omega.{arith}
use lib.ListN.{length, set}
use lib.Seq.{sets}
use lib.IntN.{ℤ}
use borrow.Author.Tests.{eq-eqb, ne_eqb}
use Rattle.std.specs.Prelude.{Some, None, Err}
use Rattle.text.specs.Number.{number_of}
use Rattle.sheet.specs.declared.Refusal.TheVariants.{WrongCount, NotANumber}
use Rattle.document.specs.Schema.{Numbers, none-at, all_are, on_numbers, numbers_of}
use Rattle.form.specs.Fields.{accepted, fields_of}

-- what the other pieces are as numbers, once the first is stored
stored : (next i : ℕ) (vals : List ℤ) (z : ℤ) (ns : Numbers) →
    on_numbers (on_numbers ns none-at (λ zs. all_are (z ∷ zs))) (λ j. Err (NotANumber j)) (λ zs. accepted next (sets vals i zs))
    ≡ on_numbers ns (λ j. Err (NotANumber j)) (λ zs. accepted next (sets (set vals i z) (suc i) zs))
stored next i vals z (none-at j) = refl
stored next i vals z (all_are zs) = refl

module _ (n next i : ℕ) (vals : List ℤ) where
  pub fields_wrong : (ps : List (List ℕ)) → (i + length ps ≡ n → ⊥) → fields_of n next i vals ps ≡ Err WrongCount
  unfolding fields_of
  fields_wrong ps h = rw (ne_eqb _ _ h)

  pub fields-done : (ps : List (List ℕ)) → length ps ≡ 0 → i ≡ n → fields_of n next i vals ps ≡ accepted next vals
  unfolding fields_of numbers_of
  fields-done [] z h = rw (eq-eqb (i + 0) n (omega arith))
  fields-done (p ∷ ps) z h = absurd (omega arith)

  module _ (p : List ℕ) (ps : List (List ℕ)) where
    pub fields-bad : i + length (p ∷ ps) ≡ n → number_of p ≡ None → fields_of n next i vals (p ∷ ps) ≡ Err (NotANumber (i + 1))
    unfolding fields_of numbers_of
    fields-bad h e = rw (eq-eqb _ _ h, e, add-one i)

    pub fields-more : (z : ℤ) → number_of p ≡ Some z → fields_of n next i vals (p ∷ ps) ≡ fields_of n next (i + 1) (set vals i z) ps
    unfolding fields_of numbers_of
    fields-more z e =
        let q : i + suc (length ps) ≡ i + 1 + length ps = omega arith in
        rw (q, e, add-one i, stored next i vals z (numbers_of (suc (suc i)) ps))
