-- Sums over the numbers below n, and over the cells of a grid, row by row. Assumes nothing.
use Prim.Native.Nat.{ℕ, zero, suc, ◌+◌, ◌*◌, ◌≤◌, ◌<◌}
use mathlib.Core.Path.{◌≡◌, refl, sym, ap, ap₂, ◌∙◌, subst}
use mathlib.Core.List.{[], ◌∷◌}
use mathlib.Core.Logic.{◌≢◌}
use native.Mathlib.Nat.{le_trans, mul-le-mul_right, not-suc-le-zero}
use native.Mathlib.Numerals.{add-one}
use native.Mathlib.Decide.{dec_le}
use native.Mathlib.Omega.{arith}
use lib.IntN.{ℤ, pos, ◌+ℤ◌}
use Rattle.arith.proofs.Ring.{v, #, ◌⊕◌, ring}
use Rattle.sheet.specs.Quantities.{stages_most}
use Rattle.formulas.specs.Figures.{Figure}
use Rattle.formulas.proofs.Sums.{Running, none, more}

-- ---- a row
unfoldable pub sum_to : (ℕ → ℤ) → ℕ → ℤ
sum_to f zero = pos 0
sum_to f (suc n) = sum_to f n +ℤ f n

sum-next : (f : ℕ → ℤ) (n : ℕ) → sum_to f (n + 1) ≡ sum_to f n +ℤ f n
unfolding sum_to
sum-next f n = ap (sum_to f) (add-one n)

sum_same : (f g : ℕ → ℤ) (n : ℕ) → ((j : ℕ) → j < n → g j ≡ f j) → sum_to g n ≡ sum_to f n
unfolding sum_to
sum_same f g zero h = refl
sum_same f g (suc n) h = ap₂ ◌+ℤ◌ (sum_same f g n (λ j l. h j (omega arith))) (h n (omega arith))

pub sum-none : (f : ℕ → ℤ) (n : ℕ) → ((j : ℕ) → j < n → f j ≡ pos 0) → sum_to f n ≡ pos 0
unfolding sum_to
sum-none f zero h = refl
sum-none f (suc n) h = ap₂ ◌+ℤ◌ (sum-none f n (λ j l. h j (omega arith))) (h n (omega arith))

-- terms that are 0 add nothing
sum-beyond : (f : ℕ → ℤ) (n m : ℕ) → n ≤ m → ((j : ℕ) → n ≤ j → j < m → f j ≡ pos 0) → sum_to f m ≡ sum_to f n
unfolding sum_to
sum-beyond f n zero l h = let e : n ≡ 0 = omega arith in rw e
sum-beyond f n (suc m) l h = go (dec_le n m) (λ k. sum-beyond f n m k (λ j a b. h j a (omega arith)))
  where
    go : Dec (n ≤ m) → (n ≤ m → sum_to f m ≡ sum_to f n) → sum_to f m +ℤ f m ≡ sum_to f n
    go (yes k) rest = ap₂ ◌+ℤ◌ (rest k) (h m k (omega arith)) ∙ ring (sum_to f n ∷ []) (v 0 ⊕ # 0) (v 0) tt
    go (no k) rest = let e : n ≡ suc m = omega arith in ap (sum_to f) (sym e)

-- one term grows by d
sum_more : (f g : ℕ → ℤ) (d : ℤ) (n i : ℕ) → i < n → g i ≡ f i +ℤ d → ((j : ℕ) → j ≢ i → g j ≡ f j) → sum_to g n ≡ sum_to f n +ℤ d
unfolding sum_to
sum_more f g d zero i h z e = absurd (not-suc-le-zero h)
sum_more f g d (suc n) i h z e = go (dec_le n i) (λ l. sum_more f g d n i l z e)
  where
    go : Dec (n ≤ i) → (i < n → sum_to g n ≡ sum_to f n +ℤ d) → sum_to g n +ℤ g n ≡ sum_to f n +ℤ f n +ℤ d
    go (yes l) rest =
        let k : i ≡ n = omega arith in
        let below : sum_to g n ≡ sum_to f n = sum_same f g n (λ j l. e j (λ q. omega arith)) in
        let last : g n ≡ f n +ℤ d = subst (λ (j : ℕ). g j ≡ f j +ℤ d) k z in
        ap₂ ◌+ℤ◌ below last ∙ ring (sum_to f n ∷ f n ∷ d ∷ []) (v 0 ⊕ (v 1 ⊕ v 2)) (v 0 ⊕ v 1 ⊕ v 2) tt
    go (no l) rest =
        let other : g n ≡ f n = e n (λ q. omega arith) in
        ap₂ ◌+ℤ◌ (rest (omega arith)) other ∙ ring (sum_to f n ∷ f n ∷ d ∷ []) (v 0 ⊕ v 2 ⊕ v 1) (v 0 ⊕ v 1 ⊕ v 2) tt

-- ---- THE FIRST ROWS, of so many columns
abbrev pub grid : (ℕ → ℕ → ℤ) → ℕ → ℕ → ℤ
grid g rows columns = sum_to (λ i. sum_to (g i) columns) rows

pub grid-none : (f : ℕ → ℕ → ℤ) (rows columns : ℕ) → ((i j : ℕ) → f i j ≡ pos 0) → grid f rows columns ≡ pos 0
grid-none f rows columns h = sum-none (λ i. sum_to (f i) columns) rows (λ i l. sum-none (f i) columns (λ j k. h i j))

-- one cell, which was 0, is another
pub grid-one : (f g : ℕ → ℕ → ℤ) (rows columns i j : ℕ) → i < rows → j < columns → f i j ≡ pos 0
    → ((a b : ℕ) → (a ≡ i → b ≢ j) → g a b ≡ f a b) → grid g rows columns ≡ grid f rows columns +ℤ g i j
grid-one f g rows columns i j h k z e =
    let new : g i j ≡ f i j +ℤ g i j = ring (g i j ∷ []) (v 0) (# 0 ⊕ v 0) tt ∙ ap (λ (x : ℤ). x +ℤ g i j) (sym z) in
    let row = sum_more (f i) (g i) (g i j) columns j k new (λ b d. e i b (λ q. d)) in
    sum_more (λ a. sum_to (f a) columns) (λ a. sum_to (g a) columns) (g i j) rows i h row
    (λ a d. sum_same (f a) (g a) columns (λ b l. e a b (λ q. absurd (d q))))

-- the cells that are not 0 are enough
pub in_grid : (f g : ℕ → ℕ → ℤ) (rows columns mostRows mostColumns : ℕ) → rows ≤ mostRows → columns ≤ mostColumns
    → ((i j : ℕ) → i < rows → j < columns → g i j ≡ f i j)
    → ((i j : ℕ) → rows ≤ i → f i j ≡ pos 0)
    → ((i j : ℕ) → columns ≤ j → f i j ≡ pos 0)
    → grid g rows columns ≡ grid f mostRows mostColumns
in_grid f g rows columns mostRows mostColumns a b same below beside =
    let inner : (i : ℕ) → i < rows → sum_to (g i) columns ≡ sum_to (f i) mostColumns =
    λ i h. sum_same (f i) (g i) columns (λ j k. same i j h k) ∙ sym (sum-beyond (f i) columns mostColumns b (λ j k l. beside i j k))
    in
    sum_same (λ i. sum_to (f i) mostColumns) (λ i. sum_to (g i) columns) rows inner
    ∙ sym (sum-beyond (λ i. sum_to (f i) mostColumns) rows mostRows a (λ i h l. sum-none (f i) mostColumns (λ j k. below i j h)))

-- ---- THE TWO LOOPS: the sum so far, in row i up to column j; its size goes by rows of full length
module _ (k B : ℕ) (g : ℕ → ℕ → ℤ) (columns : ℕ) where
  abbrev pub Reached : ℕ → ℕ → ℤ → Type 0
  Reached i j n = Running k B (i * stages_most + j) n (grid g i columns +ℤ sum_to (g i) j)

  pub begun : Running k B 0 (pos 0) (grid g 0 columns)
  unfolding sum_to
  begun = none

  pub row-begun : (i : ℕ) {n : ℤ} → Running k B (i * stages_most) n (grid g i columns) → Reached i 0 n
  unfolding sum_to
  row-begun i {n} p =
      let e : i * stages_most ≡ i * stages_most + 0 = omega arith in
      let x = ring (grid g i columns ∷ []) (v 0) (v 0 ⊕ # 0) tt in
      subst (λ (m : ℕ). Running k B m n (grid g i columns +ℤ pos 0)) e (subst (λ (z : ℤ). Running k B (i * stages_most) n z) x p)

  pub cell-more : (i j : ℕ) {n m : ℤ} → Reached i j n → Figure k B m (g i j) → Reached i (j + 1) (n +ℤ m)
  cell-more i j {n} {m} p q =
      let e : i * stages_most + j + 1 ≡ i * stages_most + (j + 1) = omega arith in
      let so_far = grid g i columns in
      let x = ring (so_far ∷ sum_to (g i) j ∷ g i j ∷ []) (v 0 ⊕ v 1 ⊕ v 2) (v 0 ⊕ (v 1 ⊕ v 2)) tt ∙ ap (λ (z : ℤ). so_far +ℤ z) (sym (sum-next (g i) j)) in
      let after = subst (λ (z : ℤ). Running k B (i * stages_most + j + 1) (n +ℤ m) z) x (more p q) in
      subst (λ (c : ℕ). Running k B c (n +ℤ m) (so_far +ℤ sum_to (g i) (j + 1))) e after

  pub row-ended : (i j : ℕ) {n : ℤ} → j ≤ stages_most → j ≡ columns → Reached i j n → Running k B ((i + 1) * stages_most) n (grid g (i + 1) columns)
  row-ended i j {n} h e p =
      let most : i * stages_most + j ≤ (i + 1) * stages_most = omega arith in
      let wider : Running k B ((i + 1) * stages_most) n (grid g i columns +ℤ sum_to (g i) j) =
      record { is = p.is; size = le_trans p.size (mul-le-mul_right B most) } in
      let x : grid g i columns +ℤ sum_to (g i) j ≡ grid g (i + 1) columns =
      ap (λ (c : ℕ). grid g i columns +ℤ sum_to (g i) c) e ∙ sym (sum-next (λ a. sum_to (g a) columns) i)
      in
      subst (λ (z : ℤ). Running k B ((i + 1) * stages_most) n z) x wider
