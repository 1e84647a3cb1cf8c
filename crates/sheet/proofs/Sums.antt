-- Sums over the first lines of an array, one line more at a time. Assumes nothing.
use Prim.Native.Nat.{ℕ, zero, suc, ◌≤◌, ◌<◌, min}
use mathlib.Core.Path.{◌≡◌, sym, ap, ◌∙◌}
use mathlib.Core.List.{List, [], ◌∷◌, map}
use native.Mathlib.Nat.{le_of_suc-le-suc, not-suc-le-zero}
use native.Mathlib.Decide.{dec_le}
use native.Mathlib.Omega.{arith}
use lib.IntN.{ℤ, pos, ◌+ℤ◌}
use lib.ListN.{length, get_or, take, length-map}
use lib.Seq.{take_all, take-length}
use Rattle.arith.proofs.Ring.{v, #, ◌⊕◌, ring}
use Rattle.sheet.specs.declared.Stage.{Stage as Stageˢ}
use Rattle.sheet.specs.Blank.{no_analysis}
use Rattle.sheet.specs.Block.{sum}

module _ {A B : Type 0} (f : B → ℤ) (g : A → B) where
  -- the sum over the first i lines
  abbrev pub first : List A → ℕ → ℤ
  first l i = sum f (map g (take i l))

  pub next : (l : List A) (i : ℕ) (d : A) → i < length l → first l (suc i) ≡ first l i +ℤ f (g (get_or l i d))
  unfolding sum
  next [] i d h = absurd (not-suc-le-zero h)
  next (a ∷ l) zero d h = ring (f (g a) ∷ []) (v 0 ⊕ # 0) (# 0 ⊕ v 0) tt
  next (a ∷ l) (suc i) d h =
      ap (λ (z : ℤ). f (g a) +ℤ z) (next l i d (le_of_suc-le-suc h))
      ∙ ring (f (g a) ∷ first l i ∷ f (g (get_or l i d)) ∷ []) (v 0 ⊕ (v 1 ⊕ v 2)) (v 0 ⊕ v 1 ⊕ v 2) tt

-- an array in a struct has the length of what the struct keeps of it
pub unmapped : {A B : Type 0} (f : A → B) (l : List A) (n : ℕ) → length (map f l) ≡ n → length l ≡ n
unmapped f l n e = sym (length-map l f) ∙ e

-- a count above the array's length names no more lines than there are
pub held : {A : Type 0} (l : List A) (n : ℕ) {most : ℕ} → length l ≡ most → take (min n most) l ≡ take n l
held l n {most} e = go (dec_le n most)
  where
    go : Dec (n ≤ most) → take (min n most) l ≡ take n l
    go (yes p) = let k : min n most ≡ n = omega arith in rw k
    go (no f) = let k : min n most ≡ length l = omega arith in let h : length l ≤ n = omega arith in rw k (take-length l ∙ sym (take_all n l h))

-- what is said to stand beyond the end of an array of stages: 0 in every field
abbrev pub stage_beyond : Stageˢ
stage_beyond = record {
  gas = record { 0 = pos 0 };
  excess = record { 0 = pos 0 };
  flue = record { 0 = pos 0 };
  co = record { 0 = pos 0 };
  analysis = no_analysis;
  minutes = record { 0 = pos 0 };
}
