-- A row that is read number by number: reading on from each, with those before it stored, gives what reading from the first gives.
-- Assumes nothing.
use Rattle.std.proofs.Common.{◌≡◌, ℕ, ◌+◌, ◌<◌, List, length, drop, set, ℤ, sym, refl, ◌∙◌, length-set, drop-set-lt, Some, None}
use Rattle.form.specs.Fields.{fields_at}
use Rattle.quick.specs.Number.{Number}
use Rattle.quick.specs.Row.{RowRead}
use Rattle.quick.proofs.Numbers.{row_more, row_last}

-- the number i is due at a place, where the first was at the start
pub record Due (s : List ℕ) (start n : ℕ) (v₀ : List ℤ) (at i : ℕ) (v : List ℤ) : Type 0 where
  pub same : fields_at s at n i v ≡ fields_at s start n 0 v₀
  pub long : length v ≡ length v₀
  pub beyond : drop n v ≡ drop n v₀

pub begun : {s : List ℕ} {start n : ℕ} {v₀ : List ℤ} → Due s start n v₀ start 0 v₀
begun = record { same = refl; long = refl; beyond = refl }

module _ {s : List ℕ} {start n : ℕ} {v₀ : List ℤ} {at i : ℕ} {v : List ℤ} (d : Due s start n v₀ at i v) where
  pub declined : RowRead s start n v₀ v None
  declined = record { read = λ q e. absurd cc; long = d.long; beyond = d.beyond }

  module _ (h : i < n) (z : ℤ) {q : ℕ} where
    pub more : Number s at 44 z q → Due s start n v₀ q (i + 1) (set v i z)
    more w = record {
      same = sym (row_more _ _ _ _ _ _ _ w) ∙ d.same;
      long = simp length-set d.long;
      beyond = drop-set-lt _ v i _ h ∙ d.beyond;
    }

    pub last : i + 1 ≡ n → Number s at 10 z q → RowRead s start n v₀ (set v i z) (Some q)
    last e w = record {
      read = λ r o. let is : q ≡ r = cc in rw (← is) (sym (row_last _ _ _ _ _ _ _ w e) ∙ d.same);
      long = simp length-set d.long;
      beyond = drop-set-lt _ v i _ h ∙ d.beyond;
    }
