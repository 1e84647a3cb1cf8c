-- Where a section stands: `before` is the index of the first section with a number, and the count of all where there is none. `place_of` says
-- the same of the numbers. Assumes nothing.
use Prim.Native.Nat.{ℕ, zero, suc, ◌+◌, ◌≤◌, ◌<◌}
use native.Mathlib.Omega.{arith}
use mathlib.Core.Path.{◌≡◌, refl, sym, ap, ◌∙◌}
use mathlib.Core.Bool.{Bool, true, false, cond, ◌||◌}
use mathlib.Core.List.{List, [], ◌∷◌, ◌++◌, map}
use lib.Dec.{ltb, eqb, leb-suc-suc}
use lib.ListN.{length, get_or, take, drop, set, length-append, length-map, length-take, get_or-append}
use lib.IntN.{ℤ, pos, nat_abs}
use lib.Seq.{drop-cons, take-append-le, get_or_at, take_at}
use borrow.Author.Tests.{lt-ltb, eq-eqb, ne_eqb, eqb-true, eqb-false}
use Rattle.sheet.specs.declared.Section.{Section as Sectionˢ}
use Rattle.sheet.specs.Firing.{Section}
use Rattle.sheet.specs.Shown.{section, same, before}
use Rattle.document.specs.Tests.{is_listed}
use Rattle.document.proofs.Rules.{same_self, same-is}
use Rattle.sections.specs.Sections.{numbers, place_of, Distinct}
use Rattle.sections.proofs.Mapped.{set-map}
use Rattle.sections.proofs.Same.{same_false, same-swap, neither}

pub before-most : (z : ℤ) (S : List Section) → before z S ≤ length S
unfolding before
before-most z [] = omega arith
before-most z (x ∷ S) = by (same z x.number) (before-most z S)
  where
    by : (t : Bool) → before z S ≤ length S → cond t 0 (suc (before z S)) ≤ suc (length S)
    by true h = omega arith
    by false h = omega arith

-- A number is listed exactly where fewer sections than there are stand before it.
pub before-is : (z : ℤ) (S : List Section) → is_listed S z ≡ ltb (before z S) (length S)
unfolding before
before-is z [] = refl
before-is z (x ∷ S) = rw (same-swap x.number z) (by (same z x.number) (before-is z S))
  where
    by : (t : Bool) → is_listed S z ≡ ltb (before z S) (length S) → t || is_listed S z ≡ ltb (cond t 0 (suc (before z S))) (suc (length S))
    by true h = sym (lt-ltb 0 (suc (length S)) (omega arith))
    by false h = h ∙ sym (leb-suc-suc (suc (before z S)) (length S))

-- Two numbers that stand in one place are one.
pub before-one : (a b : ℤ) (S : List Section) → before a S < length S → before a S ≡ before b S → a ≡ b
unfolding before
before-one a b [] h e = absurd (omega arith)
before-one a b (x ∷ S) h e = by (same a x.number) (same b x.number) refl refl h e (before-one a b S)
  where
    by :
        (s t : Bool) → same a x.number ≡ s → same b x.number ≡ t →
        cond s 0 (suc (before a S)) < suc (length S) → cond s 0 (suc (before a S)) ≡ cond t 0 (suc (before b S)) →
        (before a S < length S → before a S ≡ before b S → a ≡ b) → a ≡ b
    by true true p q h e rest = same-is a x.number p ∙ sym (same-is b x.number q)
    by true false p q h e rest = absurd (omega arith)
    by false true p q h e rest = absurd (omega arith)
    by false false p q h e rest = rest (omega arith) (omega arith)

-- no number twice
pub distinct_none : Distinct []
distinct_none = record { apart = λ i d h. absurd (omega arith) }

pub distinct_more : (S : List Section) (x : Section) → Distinct S → is_listed S x.number ≡ false → Distinct (S ++ (x ∷ []))
distinct_more S x D new = record { apart = λ i d h. by i d (eqb i (length S)) refl (rw length-append at h) }
  where
    by :
        (i : ℕ) (d : Section) (t : Bool) → eqb i (length S) ≡ t → i < length S + 1 →
        is_listed (take i (S ++ (x ∷ []))) (get_or (S ++ (x ∷ [])) i d).number ≡ false
    by i d true e h =
        let last = sym (eqb-true i (length S) e) in
        rw (get_or_at S x [] d i last, take_at S (x ∷ []) i last) new
    by i d false e h =
        let other = eqb-false i (length S) e in
        let less : i < length S = omega arith in
        rw (get_or-append S (x ∷ []) d i less, take-append-le i S (x ∷ []) (omega arith)) (D.apart i d less)

first : (S : List Section) (d : Section) (i : ℕ) → i < length S → is_listed (take i S) (get_or S i d).number ≡ false → before (get_or S i d).number S ≡ i
unfolding before
first [] d i h e = absurd (omega arith)
first (x ∷ S) d zero h e = rw (same_self x.number)
first (x ∷ S) d (suc i) h e =
    let z = (get_or S i d).number in
    let parts = neither (same x.number z) (is_listed (take i S) z) e in
    rw (same-swap z x.number, parts.0) (ap suc (first S d i (omega arith) parts.1))

-- Where no number stands twice, a section stands at its own index.
pub before_at : (S : List Section) (d : Section) (i : ℕ) → Distinct S → i < length S → before (get_or S i d).number S ≡ i
before_at S d i D h = first S d i h (D.apart i d h)

-- BY THE NUMBERS ALONE: the code looks a section up among the numbers, which it keeps beside the sections.
eqb_same : (a n : ℕ) → eqb a n ≡ same (pos n) (pos a)
eqb_same a n = by (eqb a n) refl
  where
    by : (t : Bool) → eqb a n ≡ t → t ≡ same (pos n) (pos a)
    by true e = rw (eqb-true a n e) (sym (same_self (pos n)))
    by false e = let other = eqb-false a n e in sym (same_false (pos n) (pos a) (λ q. other (sym (ap nat_abs q))))

place_is : (n : ℕ) (l : List Sectionˢ) → place_of n (numbers l) ≡ before (pos n) (map section l)
unfolding place_of before
place_is n [] = refl
place_is n (x ∷ l) = rw (eqb_same x.number.0 n, place_is n l)

take-numbers : (k : ℕ) (l : List Sectionˢ) → take k (numbers l) ≡ numbers (take k l)
take-numbers zero l = refl
take-numbers (suc k) [] = refl
take-numbers (suc k) (x ∷ l) = ap (λ ns. x.number.0 ∷ ns) (take-numbers k l)

module _ {ns : List ℕ} (l : List Sectionˢ) (e : ns ≡ numbers l) where
  pub numbers-length : length ns ≡ length l
  numbers-length = ap length e ∙ length-map l (λ x. x.number.0)

  -- Among the first sections a number stands where it stands among their numbers.
  pub place-among : (n k : ℕ) → place_of n (take k ns) ≡ before (pos n) (map section (take k l))
  place-among n k = ap (λ m. place_of n (take k m)) e ∙ ap (place_of n) (take-numbers k l) ∙ place_is n (take k l)

  -- A section that is stored has its number stored.
  pub numbers-set : (i : ℕ) (x : Sectionˢ) → set ns i x.number.0 ≡ numbers (set l i x)
  numbers-set i x = ap (λ m. set m i x.number.0) e ∙ set-map (λ y. y.number.0) l i x

-- as many sections are shown as are taken
pub shown-length : (k : ℕ) (l : List Sectionˢ) → k ≤ length l → length (map section (take k l)) ≡ k
shown-length k l h = length-map (take k l) section ∙ length-take k l ∙ omega arith

-- Among the first k numbers a place is at most k.
pub place-most : (n k : ℕ) (l : List ℕ) → place_of n (take k l) ≤ k
unfolding place_of
place-most n zero l = omega arith
place-most n (suc k) [] = omega arith
place-most n (suc k) (x ∷ l) = by (eqb x n) (place-most n k l)
  where
    by : (t : Bool) → place_of n (take k l) ≤ k → cond t 0 (suc (place_of n (take k l))) ≤ suc k
    by true h = omega arith
    by false h = omega arith

-- What is left of `place_of` from an index on.
module _ (n : ℕ) (l : List ℕ) (i : ℕ) (h : i < length l) where
  pub place_here : get_or l i 0 ≡ n → place_of n (drop i l) ≡ 0
  unfolding place_of
  place_here e = rw (drop-cons l i 0 h, eq-eqb _ _ e)

  pub place_further : ¬ (get_or l i 0 ≡ n) → place_of n (drop i l) ≡ suc (place_of n (drop (suc i) l))
  unfolding place_of
  place_further e = rw (drop-cons l i 0 h, ne_eqb _ _ e)
