-- The pieces of a text: taking apart is the inverse of putting together. Assumes nothing.
use Prim.Native.Nat.{ℕ, suc, ◌+◌, ◌/◌, ◌%◌, ◌<◌}
use mathlib.Core.Path.{◌≡◌, refl, sym, ap, ◌∙◌}
use mathlib.Core.List.{List, [], ◌∷◌, ◌++◌, map}
use mathlib.Core.Option.{none, some}
use mathlib.Core.Bool.{Bool, true, false, cond, ◌&&◌}
use native.Mathlib.Omega.{arith}
use lib.ListN.{length}
use lib.Dec.{eqb}
use lib.IntN.{ℤ, pos, negsuc, nat_abs}
use lib.Signed.{le_z}
use borrow.Author.Tests.{eq-eqb, ne_eqb, eqb-true, leb-true}
use Rattle.std.specs.Prelude as std
use Rattle.text.specs.Decimal.{digits, decimal}
use Rattle.text.specs.Number.{number_of}
use Rattle.text.specs.Scanning.{count}
use Rattle.text.proofs.Scanning.{count-append}
use Rattle.text.proofs.Decimal.{digits-one, digits_more, by_digits}
use Rattle.text.proofs.Reading.{read_back, only-text, only-small}
use Rattle.sheet.specs.Quantities.{Field}
use Rattle.document.specs.Schema.{joined, within, in_ranges, nine, nines, push, pieces, on_number, on_numbers, Numbers, none-at, all_are, numbers_of, outside_of}
use Rattle.document.specs.Rules.{Every}
use Rattle.document.proofs.Cases.{clash, both}

-- PIECES BETWEEN BYTES
pub pieces-last : (c : ℕ) (p : List ℕ) → count p c ≡ 0 → pieces c p ≡ p ∷ []
unfolding pieces count
pieces-last c [] e = refl
pieces-last c (b ∷ p) e = here (eqb b c) (pieces-last c p) e
  where
    here : (t : Bool) → (count p c ≡ 0 → pieces c p ≡ p ∷ []) → cond t (suc (count p c)) (count p c) ≡ 0
        → cond t ([] ∷ pieces c p) (push b (pieces c p)) ≡ (b ∷ p) ∷ []
    here true q z = absurd (omega arith)
    here false q z = rw (q z)

pub pieces_more : (c : ℕ) (p rest : List ℕ) → count p c ≡ 0 → pieces c (p ++ (c ∷ rest)) ≡ p ∷ pieces c rest
unfolding pieces count
pieces_more c [] rest e = rw (eq-eqb c c refl)
pieces_more c (b ∷ p) rest e = here (eqb b c) (pieces_more c p rest) e
  where
    here : (t : Bool) → (count p c ≡ 0 → pieces c (p ++ (c ∷ rest)) ≡ p ∷ pieces c rest) → cond t (suc (count p c)) (count p c) ≡ 0 →
        cond t ([] ∷ pieces c (p ++ (c ∷ rest))) (push b (pieces c (p ++ (c ∷ rest)))) ≡ (b ∷ p) ∷ pieces c rest
    here true q z = absurd (omega arith)
    here false q z = rw (q z)

-- joined pieces without a comma are taken apart again
pub pieces-joined : (p : List ℕ) (ps : List (List ℕ)) → Every (λ x. count x 44 ≡ 0) (p ∷ ps) → pieces 44 (joined (p ∷ ps)) ≡ p ∷ ps
unfolding joined
pieces-joined p [] e = pieces-last 44 p e.0
pieces-joined p (q ∷ ps) e = rw (pieces_more 44 p (joined (q ∷ ps)) e.0, pieces-joined q ps e.1)

-- there is always a piece, and of n bytes c there are n + 1
pub pieces-some : (c : ℕ) (v : List ℕ) → (p : List ℕ) × (ps : List (List ℕ)) × (pieces c v ≡ p ∷ ps)
unfolding pieces
pieces-some c [] = ([], [], refl)
pieces-some c (b ∷ v) = first (eqb b c) (pieces c v)
  where
    first : (t : Bool) (r : List (List ℕ)) → (p : List ℕ) × (ps : List (List ℕ)) × (cond t ([] ∷ r) (push b r) ≡ p ∷ ps)
    first true r = ([], r, refl)
    first false [] = (b ∷ [], [], refl)
    first false (p ∷ ps) = (b ∷ p, ps, refl)

pub pieces-count : (c : ℕ) (v : List ℕ) → length (pieces c v) ≡ count v c + 1
unfolding pieces count
pieces-count c [] = refl
pieces-count c (b ∷ v) = let s = pieces-some c v in here (eqb b c) (pieces c v) s.0 s.1 s.2 (pieces-count c v)
  where
    here : (t : Bool) (r : List (List ℕ)) (p : List ℕ) (ps : List (List ℕ)) → r ≡ p ∷ ps → length r ≡ count v c + 1
        → length (cond t ([] ∷ r) (push b r)) ≡ cond t (suc (count v c)) (count v c) + 1
    here true r p ps q e = omega arith
    here false r p ps q e = rw q (rw q at e)

-- the pieces of a text, joined, are the text
joined-push : (b : ℕ) (ps : List (List ℕ)) → joined (push b ps) ≡ b ∷ joined ps
unfolding joined
joined-push b [] = refl
joined-push b (p ∷ []) = refl
joined-push b (p ∷ q ∷ ps) = refl

joined_empty : (v : List ℕ) → joined ([] ∷ pieces 44 v) ≡ 44 ∷ joined (pieces 44 v)
unfolding joined
joined_empty v = let s = pieces-some 44 v in rw s.2

pub joined-pieces : (v : List ℕ) → joined (pieces 44 v) ≡ v
unfolding pieces joined
joined-pieces [] = refl
joined-pieces (b ∷ v) = step (eqb b 44) refl (joined-pieces v)
  where
    step : (t : Bool) → eqb b 44 ≡ t → joined (pieces 44 v) ≡ v → joined (cond t ([] ∷ pieces 44 v) (push b (pieces 44 v))) ≡ b ∷ v
    step true q h = joined_empty v ∙ ap (λ (x : List ℕ). 44 ∷ x) h ∙ ap (λ (x : ℕ). x ∷ v) (sym (eqb-true b 44 q))
    step false q h = joined-push b (pieces 44 v) ∙ ap (λ (x : List ℕ). b ∷ x) h

pub clear-append : (c : ℕ) (a b : List ℕ) → count a c ≡ 0 → count b c ≡ 0 → count (a ++ b) c ≡ 0
clear-append c a b p q = omega (arith, count-append a b c)

-- NUMBERS: their text has neither LF nor comma, nor any byte below `-`
module _ (c : ℕ) (h : c < 45) where
  digit_clear : (d : ℕ) → count ((48 + d) ∷ []) c ≡ 0
  unfolding count
  digit_clear d = rw (ne_eqb (48 + d) c (λ e. omega arith))

  digits-clear : (n : ℕ) → count (digits n) c ≡ 0
  digits-clear = by_digits (λ n. count (digits n) c ≡ 0) (λ n l. rw (digits-one n l) (digit_clear n))
      (λ n l q. rw (digits_more n l) (clear-append c (digits (n / 10)) ((48 + n % 10) ∷ []) q (digit_clear (n % 10))))

  pub decimal-clear : (z : ℤ) → count (decimal z) c ≡ 0
  unfolding decimal count
  decimal-clear (pos n) = digits-clear n
  decimal-clear (negsuc n) = rw (ne_eqb 45 c (λ e. omega arith)) (digits-clear (suc n))

  pub decimals_clear : (zs : List ℤ) → Every (λ p. count p c ≡ 0) (map decimal zs)
  decimals_clear [] = tt
  decimals_clear (z ∷ zs) = (decimal-clear z, decimals_clear zs)

pub joined-clear : (zs : List ℤ) → count (joined (map decimal zs)) 10 ≡ 0
unfolding joined count
joined-clear [] = refl
joined-clear (z ∷ []) = decimal-clear 10 (omega arith) z
joined-clear (z ∷ y ∷ zs) = clear-append 10 (decimal z) (44 ∷ joined (map decimal (y ∷ zs))) (decimal-clear 10 (omega arith) z) (joined-clear (y ∷ zs))

-- a number in range has at most nine digits
nine-small : (lo hi z : ℤ) → le_z (negsuc 999999998) lo ≡ true → le_z hi (pos 999999999) ≡ true → le_z lo z ≡ true → le_z z hi ≡ true → nat_abs z < 1000000000
nine-small lo (pos h) (pos n) a b p q = omega (arith, leb-true n h q, leb-true h 999999999 b)
nine-small lo (negsuc h) (pos n) a b p q = clash cc
nine-small (pos m) hi (negsuc n) a b p q = clash cc
nine-small (negsuc m) hi (negsuc n) a b p q = omega (arith, leb-true n m p, leb-true m 999999998 a)

pub within-small : (f : Field) (z : ℤ) → nine f ≡ true → within f z ≡ true → nat_abs z < 1000000000
within-small f z e h =
    let a = both (le_z (negsuc 999999998) f.least) (le_z f.greatest (pos 999999999)) e in
    let b = both (le_z f.least z) (le_z z f.greatest) h in
    nine-small f.least f.greatest z a.0 a.1 b.0 b.1

pub numbers_decimals : (i : ℕ) (fs : List Field) (zs : List ℤ) → nines fs ≡ true → in_ranges fs zs ≡ true → numbers_of i (map decimal zs) ≡ all_are zs
unfolding numbers_of in_ranges
numbers_decimals i [] [] n h = refl
numbers_decimals i [] (z ∷ zs) n h = clash cc
numbers_decimals i (f ∷ fs) [] n h = refl
numbers_decimals i (f ∷ fs) (z ∷ zs) n h =
    let a = both (nine f) (nines fs) n in
    let b = both (within f z) (in_ranges fs zs) h in
    rw (read_back 9 z (omega arith) (within-small f z a.0 b.0), numbers_decimals (suc i) fs zs a.1 b.1)

pub numbers_are : (i : ℕ) (ps : List (List ℕ)) (zs : List ℤ) → numbers_of i ps ≡ all_are zs → ps ≡ map decimal zs
unfolding numbers_of
numbers_are i [] zs e = let w : zs ≡ [] = cc in rw w
numbers_are i (p ∷ ps) zs e = here (number_of p) refl (numbers_of (suc i) ps) (numbers_are (suc i) ps) e
  where
    here : (n : std.Option ℤ) → number_of p ≡ n → (ns : Numbers) → ((r : List ℤ) → ns ≡ all_are r → ps ≡ map decimal r) →
        on_number n (none-at i) (λ z. on_numbers ns none-at (λ r. all_are (z ∷ r))) ≡ all_are zs → p ∷ ps ≡ map decimal zs
    here std.None q ns ih e = clash cc
    here (std.Some z) q (none-at j) ih e = clash cc
    here (std.Some z) q (all_are r) ih e =
        let w : zs ≡ z ∷ r = cc in
        let u = ih r refl in
        let d = only-text 9 p z q in
        rw (w, ← u, ← d)

-- each has at most nine digits
pub numbers-small : (i : ℕ) (ps : List (List ℕ)) (zs : List ℤ) → numbers_of i ps ≡ all_are zs → Every (λ z. nat_abs z < 1000000000) zs
unfolding numbers_of
numbers-small i [] zs e = let w : zs ≡ [] = cc in rw w tt
numbers-small i (p ∷ ps) zs e = here (number_of p) refl (numbers_of (suc i) ps) (numbers-small (suc i) ps) e
  where
    here : (n : std.Option ℤ) → number_of p ≡ n → (ns : Numbers) → ((r : List ℤ) → ns ≡ all_are r → Every (λ z. nat_abs z < 1000000000) r) →
        on_number n (none-at i) (λ z. on_numbers ns none-at (λ r. all_are (z ∷ r))) ≡ all_are zs → Every (λ z. nat_abs z < 1000000000) zs
    here std.None q ns ih e = clash cc
    here (std.Some z) q (none-at j) ih e = clash cc
    here (std.Some z) q (all_are r) ih e = let w : zs ≡ z ∷ r = cc in rw w (only-small 9 p z q, ih r refl)

-- RANGES
pub ranges-length : (fs : List Field) (zs : List ℤ) → in_ranges fs zs ≡ true → length zs ≡ length fs
unfolding in_ranges
ranges-length [] [] h = refl
ranges-length [] (z ∷ zs) h = clash cc
ranges-length (f ∷ fs) [] h = clash cc
ranges-length (f ∷ fs) (z ∷ zs) h = ap suc (ranges-length fs zs (both (within f z) (in_ranges fs zs) h).1)

pub none-outside : (i : ℕ) (fs : List Field) (zs : List ℤ) → in_ranges fs zs ≡ true → outside_of i fs zs ≡ none
unfolding in_ranges outside_of
none-outside i [] zs h = refl
none-outside i (f ∷ fs) [] h = refl
none-outside i (f ∷ fs) (z ∷ zs) h =
    let b = both (within f z) (in_ranges fs zs) h in
    rw b.0 (none-outside (suc i) fs zs b.1)

pub all-inside : (i : ℕ) (fs : List Field) (zs : List ℤ) → length zs ≡ length fs → outside_of i fs zs ≡ none → in_ranges fs zs ≡ true
unfolding in_ranges outside_of
all-inside i [] [] l e = refl
all-inside i [] (z ∷ zs) l e = absurd (omega arith)
all-inside i (f ∷ fs) [] l e = absurd (omega arith)
all-inside i (f ∷ fs) (z ∷ zs) l e = here (within f z) (all-inside (suc i) fs zs (omega arith)) e
  where
    here : (t : Bool) → (outside_of (suc i) fs zs ≡ none → in_ranges fs zs ≡ true) → cond t (outside_of (suc i) fs zs) (some i) ≡ none
        → (t && in_ranges fs zs) ≡ true
    here true q e = q e
    here false q e = clash cc
