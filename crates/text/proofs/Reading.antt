-- Reading a number is the inverse of printing it: the digits that are read make up the number digit by digit, as `digits`
-- takes it apart. Assumes nothing.
use mathlib.Core.Path.{◌≡◌, refl, sym, ap, ◌∙◌}
use mathlib.Core.Bool.{Bool, true, false, cond, not, ◌&&◌, ◌||◌, and-false, or-true}
use mathlib.Core.List.{List, [], ◌∷◌, ◌++◌, append_assoc, append-nil}
use Prim.Native.Nat.{ℕ, zero, suc, ◌+◌, ◌-◌, ◌*◌, ◌/◌, ◌%◌, ◌^◌, ◌≤◌, ◌<◌}
use native.Mathlib.Nat.{pow-suc, pow-le-pow_right}
use native.Mathlib.Numerals.{add-one}
use native.Mathlib.Omega.{arith}
use lib.ListN.{length, get_or, take, drop, drop_of_length-le}
use lib.Seq.{drop-cons}
use lib.IntN.{ℤ, pos, negsuc, nat_abs}
use lib.Dec.{eqb, leb, ltb, lit<}
use borrow.Author.Tests.{eq-eqb, ne_eqb, lt-ltb, le-ltb, le-leb, lt-leb, ltb-true, ltb-false, leb-true, eqb-false}
use Rattle.std.specs.Prelude.{Option, Some, None}
use Rattle.std.specs.Cmp.Lexicographic.{pointwise}
use Rattle.std.proofs.lemmas.Bool.Decides.{nat_tests}
use Rattle.text.specs.Bytes.{bytes}
use Rattle.text.specs.Decimal.{digits, decimal}
use Rattle.text.specs.Scanning.{begins}
use Rattle.text.specs.Number.{digits_read, leading_zero, unsigned, negated, number_within}
use Rattle.text.proofs.Decimal.{digits-one, digits_more, by_digits, length_digits, digits-below, leads}
use Rattle.text.proofs.Scanning.{begins-key, begins_by_prefix}

-- One step of reading, at a place.
module _ (f : List ℕ) (i : ℕ) (h : i < length f) (n : ℕ) where
  pub read_low : get_or f i 0 < 48 → digits_read n (drop i f) ≡ None
  unfolding digits_read
  read_low l = rw (drop-cons f i 0, lt-ltb (get_or f i 0) 48 l)

  pub read-high : 57 < get_or f i 0 → digits_read n (drop i f) ≡ None
  unfolding digits_read
  read-high l = rw (drop-cons f i 0, lt-ltb 57 (get_or f i 0) l, or-true)

  pub read-digit : 48 ≤ get_or f i 0 → get_or f i 0 ≤ 57 → digits_read n (drop i f) ≡ digits_read (n * 10 + (get_or f i 0 - 48)) (drop (i + 1) f)
  unfolding digits_read
  read-digit g l = rw (add-one, drop-cons f i 0, le-ltb (get_or f i 0) 48 g, le-ltb 57 (get_or f i 0) l)

pub read_end : (f : List ℕ) (i : ℕ) → length f ≤ i → (n : ℕ) → digits_read n (drop i f) ≡ Some (pos n)
unfolding digits_read
read_end f i h n = rw (drop_of_length-le f h)

-- one digit more behind a number of i digits, and a number of at most 18 digits
pub below_more : (n d i : ℕ) → n < 10 ^ i → d ≤ 9 → n * 10 + d < 10 ^ (i + 1)
below_more n d i h l = rw (add-one, pow-suc) (omega arith)

pub below-most : (n i : ℕ) → n < 10 ^ i → i ≤ 18 → n < 1000000000000000000
below-most n i h l =
    let p : 10 ^ i ≤ 10 ^ 18 = pow-le-pow_right {n = 10} (lit< tt) l in
    omega arith

-- FROM THE NUMBER TO ITS TEXT AND BACK
never : (z : ℤ) → None ≡ Some z → ⊥
never z e = let q : ◌≡◌ {A = ℕ} 0 1 = cc in omega arith

read_cons : (n b : ℕ) (l : List ℕ) (z : ℤ) → digits_read n (b ∷ l) ≡ Some z → (48 ≤ b) × (b ≤ 57) × (digits_read (n * 10 + (b - 48)) l ≡ Some z)
unfolding digits_read
read_cons n b l z e = here (ltb b 48) (ltb 57 b) refl refl e
  where
    here : (t u : Bool) → ltb b 48 ≡ t → ltb 57 b ≡ u → cond (t || u) None (digits_read (n * 10 + (b - 48)) l) ≡ Some z →
        (48 ≤ b) × (b ≤ 57) × (digits_read (n * 10 + (b - 48)) l ≡ Some z)
    here true u p q e = absurd (never z e)
    here false true p q e = absurd (never z e)
    here false false p q e = (ltb-false b 48 p, ltb-false 57 b q, e)

read-append : (xs ys : List ℕ) (n m : ℕ) → digits_read n xs ≡ Some (pos m) → digits_read n (xs ++ ys) ≡ digits_read m ys
unfolding digits_read
read-append [] ys n m e = let q : n ≡ m = cc in rw q
read-append (b ∷ xs) ys n m e =
    let s = read_cons n b xs (pos m) e in
    rw (le-ltb b 48 s.0, le-ltb 57 b s.1) (read-append xs ys (n * 10 + (b - 48)) m s.2)

read-single : (d n : ℕ) → d < 10 → digits_read n ((48 + d) ∷ []) ≡ Some (pos (n * 10 + d))
unfolding digits_read
read-single d n h =
    let q : 48 + d - 48 ≡ d = omega arith in
    rw (le-ltb (48 + d) 48 (omega arith), le-ltb 57 (48 + d) (omega arith), q)

read-digits : (n : ℕ) → digits_read 0 (digits n) ≡ Some (pos n)
read-digits = by_digits (λ n. digits_read 0 (digits n) ≡ Some (pos n)) one more
  where
    one : (n : ℕ) → n < 10 → digits_read 0 (digits n) ≡ Some (pos n)
    one n h = let q : 0 * 10 + n ≡ n = omega arith in rw (digits-one n h, read-single n 0 h, q)

    more : (n : ℕ) → 10 ≤ n → digits_read 0 (digits (n / 10)) ≡ Some (pos (n / 10)) → digits_read 0 (digits n) ≡ Some (pos n)
    more n h e =
        let q : n / 10 * 10 + n % 10 ≡ n = omega arith in
        rw (digits_more n h, read-append (digits (n / 10)) ((48 + n % 10) ∷ []) 0 (n / 10) e, read-single (n % 10) (n / 10) (omega arith), q)

no_leading_zero : (n : ℕ) → leading_zero (digits n) ≡ false
no_leading_zero = by_digits (λ n. leading_zero (digits n) ≡ false) (λ n h. rw (digits-one n h))
    (λ n h q. rw (ne_eqb (get_or (digits n) 0 0) 48 (λ e. omega (arith, (leads n).nonzero (omega arith))), and-false))

unsigned-digits : (w n : ℕ) → 0 < w → n < 10 ^ w → unsigned w (digits n) ≡ Some (pos n)
unfolding unsigned
unsigned-digits zero n p h = absurd (omega arith)
unsigned-digits (suc w) n p h =
    rw (lt-ltb 0 (length (digits n)) (leads n).some, le-leb (length (digits n)) (suc w) (length_digits w n h), no_leading_zero n) (read-digits n)

no_sign : (l : List ℕ) → 48 ≤ get_or l 0 0 → begins (bytes "-") l ≡ false
unfolding begins
no_sign [] h = refl
no_sign (b ∷ l) h = rw (ne_eqb b 45 (λ e. omega arith))

-- THE LAW: a number's text is read as that number, where it has few enough digits
pub read_back : (w : ℕ) (z : ℤ) → 0 < w → nat_abs z < 10 ^ w → number_within w (decimal z) ≡ Some z
unfolding number_within decimal begins
read_back w (pos n) p h = rw (no_sign (digits n) (leads n).digit) (unsigned-digits w n p h)
read_back w (negsuc n) p h = rw (unsigned-digits w (suc n) p h, lt-ltb 0 (suc n) (omega arith))

-- FROM THE TEXT TO ITS NUMBER AND BACK
read_tail : (l : List ℕ) (m : ℕ) (z : ℤ) → 0 < m → digits_read m l ≡ Some z → (n : ℕ) × (z ≡ pos n) × (digits m ++ l ≡ digits n)
unfolding digits_read
read_tail [] m z p e = (m, cc, append-nil (digits m))
read_tail (b ∷ l) m z p e =
    let s = read_cons m b l z e in
    let n = m * 10 + (b - 48) in
    let r = read_tail l n z (omega arith) s.2 in
    let d : n / 10 ≡ m = omega arith in
    let u : 48 + n % 10 ≡ b = omega arith in
    let q : digits n ≡ digits m ++ (b ∷ []) = rw (digits_more n (omega arith), d, u) in
    (r.0, r.1, sym (append_assoc (digits m) (b ∷ []) l) ∙ rw (← q) r.2)

formed : (a b d : Bool) (m : Option ℤ) (z : ℤ) → cond (a && (b && not d)) m None ≡ Some z → (a ≡ true) × (b ≡ true) × (d ≡ false) × (m ≡ Some z)
formed false b d m z e = absurd (never z e)
formed true false d m z e = absurd (never z e)
formed true true true m z e = absurd (never z e)
formed true true false m z e = (refl, refl, refl, e)

-- what was read without a sign is the digits of a number
digits-read : (l : List ℕ) (z : ℤ) → 0 < length l → leading_zero l ≡ false → digits_read 0 l ≡ Some z → (n : ℕ) × (z ≡ pos n) × (l ≡ digits n)
unfolding digits_read
digits-read [] z p q e = absurd (omega arith)
digits-read (b ∷ []) z p q e =
    let s = read_cons 0 b [] z e in
    let n = 0 * 10 + (b - 48) in
    let u : 48 + n ≡ b = omega arith in
    (n, (let v : Some (pos n) ≡ Some z = s.2 in cc), sym (rw (digits-one n (omega arith), u)))
digits-read (b ∷ c ∷ l) z p q e =
    let s = read_cons 0 b (c ∷ l) z e in
    let n = 0 * 10 + (b - 48) in
    let u : 48 + n ≡ b = omega arith in
    let d : digits n ≡ b ∷ [] = rw (digits-one n (omega arith), u) in
    let other = eqb-false b 48 (rw (lt-ltb 1 (length (b ∷ c ∷ l)) (omega arith)) at q) in
    let r = read_tail (c ∷ l) n z (omega (arith, other)) s.2 in
    (r.0, r.1, sym (ap (λ (x : List ℕ). x ++ (c ∷ l)) d) ∙ r.2)

pub unsigned-text : (w : ℕ) (l : List ℕ) (z : ℤ) → unsigned w l ≡ Some z → (n : ℕ) × (z ≡ pos n) × (l ≡ digits n) × (n < 10 ^ w)
unfolding unsigned
unsigned-text w l z e =
    let s = formed (ltb 0 (length l)) (leb (length l) w) (leading_zero l) (digits_read 0 l) z e in
    let r = digits-read l z (ltb-true 0 (length l) s.0) s.2 s.3 in
    let short : length (digits r.0) ≤ w = omega (arith, ap length r.2, leb-true (length l) w s.1) in
    let k : 10 ^ length (digits r.0) ≤ 10 ^ w = pow-le-pow_right {n = 10} (lit< tt) short in
    (r.0, r.1, r.2, omega (arith, digits-below r.0))

negated-is : (m : Option ℤ) (z : ℤ) → negated m ≡ Some z → (n : ℕ) × (m ≡ Some (pos (suc n))) × (z ≡ negsuc n)
negated-is None z e = absurd (never z e)
negated-is (Some (pos zero)) z e = absurd (never z e)
negated-is (Some (negsuc n)) z e = absurd (never z e)
negated-is (Some (pos (suc n))) z e = let q : Some (negsuc n) ≡ Some z = rw (lt-ltb 0 (suc n) (omega arith)) at e in (n, refl, cc)

number-text : (w : ℕ) (l : List ℕ) (z : ℤ) → number_within w l ≡ Some z → (l ≡ decimal z) × (nat_abs z < 10 ^ w)
unfolding number_within decimal
number-text w l z e = here (begins (bytes "-") l) refl e
  where
    here : (t : Bool) → begins (bytes "-") l ≡ t → cond t (negated (unsigned w (drop 1 l))) (unsigned w l) ≡ Some z → (l ≡ decimal z) × (nat_abs z < 10 ^ w)
    here false q e = let r = unsigned-text w l z e in rw r.1 (r.2, r.3)
    here true q e =
        let m = negated-is (unsigned w (drop 1 l)) z e in
        let r = unsigned-text w (drop 1 l) (pos (suc m.0)) m.1 in
        let n : suc m.0 ≡ r.0 = let v : pos (suc m.0) ≡ pos r.0 = r.1 in cc in
        rw (m.2, n) (begins-key (bytes "-") l q ∙ ap (λ (x : List ℕ). 45 ∷ x) r.2, r.3)

-- THE LAWS: what is read as a number is that number's text, and has few enough digits
pub only-text : (w : ℕ) (l : List ℕ) (z : ℤ) → number_within w l ≡ Some z → l ≡ decimal z
only-text w l z e = (number-text w l z e).0

pub only-small : (w : ℕ) (l : List ℕ) (z : ℤ) → number_within w l ≡ Some z → nat_abs z < 10 ^ w
only-small w l z e = (number-text w l z e).1

no_zero : (l : List ℕ) → (1 < length l → get_or l 0 0 ≡ 48 → ⊥) → leading_zero l ≡ false
no_zero l n = grind (arith, nat_tests)

-- `unsigned` by the code's tests
module _ (most : ℕ) (l : List ℕ) where
  pub unsigned_empty : length l ≡ 0 → unsigned most l ≡ None
  unfolding unsigned
  unsigned_empty e = rw (le-ltb 0 (length l) (omega arith))

  pub unsigned_long : most < length l → unsigned most l ≡ None
  unfolding unsigned
  unsigned_long h = rw (lt-leb (length l) most h, and-false)

  pub unsigned_zero : 1 < length l → get_or l 0 0 ≡ 48 → unsigned most l ≡ None
  unfolding unsigned
  unsigned_zero h e = rw (lt-ltb 1 (length l) h, eq-eqb (get_or l 0 0) 48 e, and-false, and-false)

  pub unsigned_reads : 0 < length l → length l ≤ most → (1 < length l → get_or l 0 0 ≡ 48 → ⊥) → digits_read 0 l ≡ unsigned most l
  unfolding unsigned
  unsigned_reads p q n = rw (lt-ltb 0 (length l) p, le-leb (length l) most q, no_zero l n)

-- `number_within` by the library's test for the sign
module _ (most : ℕ) (l : List ℕ) where
  pub within_signed : pointwise eqb (take 1 l) (bytes "-") ≡ true → number_within most l ≡ negated (unsigned most (drop 1 l))
  unfolding number_within
  within_signed e = rw (begins_by_prefix (bytes "-") l, e)

  pub within_plain : pointwise eqb (take 1 l) (bytes "-") ≡ false → number_within most l ≡ unsigned most l
  unfolding number_within
  within_plain e = rw (begins_by_prefix (bytes "-") l, e)

pub ruleset by_tests = (unsigned_empty, unsigned_long, unsigned_zero, unsigned_reads, within_signed, within_plain, read_low, read-high, read-digit, read_end, below_more, below-most)
