-- A row that fits its line has each field in its range: of the one row of a line, and of all rows of a block. Assumes nothing.
use Prim.Native.Nat.{ℕ, zero, suc, ◌≤◌}
use mathlib.Core.Path.{◌≡◌, refl, subst}
use mathlib.Core.List.{List, [], ◌∷◌, map}
use mathlib.Core.Bool.{Bool, true, false}
use native.Mathlib.Omega.{arith}
use lib.ListN.{length, length-map, get_or, replicate}
use lib.IntN.{ℤ, pos}
use lib.Signed.{le_z, lt_z, ◌≤ℤ◌, ◌<ℤ◌, lt_z_no}
use Rattle.sheet.specs.Quantities.{Field}
use Rattle.document.specs.Schema.{Line, Row, at, within, in_ranges, fits}
use Rattle.document.specs.Rules.{Every}
use Rattle.document.specs.Rows.{first}
use Rattle.document.specs.Lawful.{In, InRanges}
use Rattle.document.proofs.Cases.{clash, both}
use Rattle.document.proofs.Judged.{is-fit}
use Rattle.document.proofs.Rules.{tests_le, tests_lt}
use Rattle.document.proofs.Lists.{every_imp, every_with, made_every}
use Rattle.document.proofs.Forms.{OneRow, ManyRows}

-- A FIELD IS IN ITS RANGE: the i-th, counted from 0
abbrev pub FieldIn : ℕ → List Field → ℤ → Type 0
FieldIn i [] z = Unit {0}
FieldIn zero (f ∷ fs) z = In f z
FieldIn (suc i) (f ∷ fs) z = FieldIn i fs z

pub is_within : (f : Field) (z : ℤ) → within f z ≡ true → In f z
is_within f z e =
    let b = both (le_z f.least z) (le_z z f.greatest) e in
    record { low = (tests_le f.least z).yes b.0; high = (tests_le z f.greatest).yes b.1 }

pub within-is : (f : Field) (z : ℤ) → In f z → within f z ≡ true
within-is f z h = rw ((tests_le f.least z).back h.low, (tests_le z f.greatest).back h.high)

ranged : (fs : List Field) (zs : List ℤ) → in_ranges fs zs ≡ true → (i : ℕ) → FieldIn i fs (get_or zs i (pos 0))
unfolding in_ranges
ranged [] zs e i = tt
ranged (f ∷ fs) [] e i = clash cc
ranged (f ∷ fs) (z ∷ zs) e zero = is_within f z (both (within f z) (in_ranges fs zs) e).0
ranged (f ∷ fs) (z ∷ zs) e (suc i) = ranged fs zs (both (within f z) (in_ranges fs zs) e).1 i

pub ranges_in : (fs : List Field) (zs : List ℤ) → in_ranges fs zs ≡ true → InRanges fs zs
unfolding in_ranges
ranges_in [] [] e = tt
ranges_in [] (z ∷ zs) e = clash cc
ranges_in (f ∷ fs) [] e = clash cc
ranges_in (f ∷ fs) (z ∷ zs) e = let b = both (within f z) (in_ranges fs zs) e in (is_within f z b.0, ranges_in fs zs b.1)

-- and back
pub in_ranges_lem : (fs : List Field) (zs : List ℤ) → InRanges fs zs → in_ranges fs zs ≡ true
unfolding in_ranges
in_ranges_lem [] [] h = refl
in_ranges_lem [] (z ∷ zs) h = absurd h
in_ranges_lem (f ∷ fs) [] h = absurd h
in_ranges_lem (f ∷ fs) (z ∷ zs) h = rw (within-is f z h.0) (in_ranges_lem fs zs h.1)

pub field_in : (l : Line) (row : Row) → fits l row ≡ true → (i : ℕ) → FieldIn i l.fields (at row i)
field_in l row h = ranged l.fields row.numbers (is-fit l row h).inside

-- fields that are all alike
pub all_in : (n : ℕ) (f : Field) (zs : List ℤ) → in_ranges (replicate n f) zs ≡ true → Every (In f) zs
unfolding in_ranges
all_in zero f [] e = tt
all_in zero f (z ∷ zs) e = clash cc
all_in (suc n) f [] e = clash cc
all_in (suc n) f (z ∷ zs) e = let b = both (within f z) (in_ranges (replicate n f) zs) e in (is_within f z b.0, all_in n f zs b.1)

-- of the one row of a line, and of all rows of a block
pub one_in : {l : Line} {rows : List Row} → OneRow l rows → (i : ℕ) → FieldIn i l.fields (at (first rows) i)
one_in {l = l} o i = rw o.is (field_in l o.row o.fit i)

pub many_in : {A : Type 0} {l : Line} {least most : ℕ} {rows : List Row} (P : A → Type 0) (of : Row → A) → ManyRows l least most rows
    → ((r : Row) → ((i : ℕ) → FieldIn i l.fields (at r i)) → P (of r)) → Every P (map of rows)
many_in {l = l} {rows = rows} P of k h = made_every of P rows (every_imp (λ r e. h r (field_in l r e)) rows k.fit)

-- .. that keep a rule as well
pub one-ruled : {l : Line} {rows : List Row} (Q : Row → Type 0) → OneRow l rows → Every Q rows → Q (first rows)
one-ruled Q o k = rw o.is (subst (λ (l : List Row). Every Q l) o.is k).0

pub many-ruled : {A : Type 0} {l : Line} {least most : ℕ} {rows : List Row} (P : A → Type 0) (Q : Row → Type 0) (of : Row → A)
    → ManyRows l least most rows → Every Q rows → ((r : Row) → ((i : ℕ) → FieldIn i l.fields (at r i)) → Q r → P (of r)) → Every P (map of rows)
many-ruled {l = l} {rows = rows} P Q of k m h = made_every of P rows (every_with (λ r e q. h r (field_in l r e) q) rows k.fit m)

-- as many as the count may be
pub enough : {A : Type 0} {l : Line} {least most : ℕ} {rows : List Row} (of : Row → A) → ManyRows l least most rows → least ≤ length (map of rows)
enough {rows = rows} of k = omega (arith, k.enough, length-map rows of)

pub few : {A : Type 0} {l : Line} {least most : ℕ} {rows : List Row} (of : Row → A) → ManyRows l least most rows → length (map of rows) ≤ most
few {rows = rows} of k = omega (arith, k.few, length-map rows of)

-- what is not below is at least as much
pub not-below : (a b : ℤ) → ¬ (a <ℤ b) → b ≤ℤ a
not-below a b n = here (lt_z a b) refl
  where
    here : (t : Bool) → lt_z a b ≡ t → b ≤ℤ a
    here true q = absurd (n ((tests_lt a b).yes q))
    here false q = lt_z_no (rw q tt)
