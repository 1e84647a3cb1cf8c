-- The number at a place: its digits are read up to the byte that closes it, and no comma and no LF stands in it.
-- Assumes nothing.
use Rattle.std.proofs.Common.{◌≡◌, ℕ, zero, suc, ◌+◌, ◌-◌, ◌*◌, ◌^◌, ◌<◌, ◌≤◌, Bool, true, false, ◌&&◌, eqb, List, [], ◌∷◌, ◌++◌, length, get_or, drop, set, ℤ, pos, negsuc, neg_ℤ, nat_abs, w64, SFits, sym, refl, ap, ◌∙◌, add-zero, add-one, arith, lit<, length-append, get_or-drop, drop-cons, get_or-take, le-ltb, lt-ltb, eq-eqb, ne_eqb, eqb-true}
use native.Mathlib.Nat.{pow-le-pow_right}
use lib.Signed.{lt_z}
use Rattle.std.specs.Prelude.{Some, None, IfSome}
use Rattle.std.specs.Bool.{then_some}
use Rattle.text.specs.Bytes.{bytes}
use Rattle.text.specs.Decimal.{decimal}
use Rattle.text.specs.Number.{digits_read, number_within, number_of}
use Rattle.text.specs.Scanning.{up_to, find, count, begins}
use Rattle.text.proofs.Reading.{read_back, only-text, only-small, unsigned_reads}
use Rattle.text.proofs.Scanning.{up_to_front, found, find_hit, find_miss}
use Rattle.document.specs.Schema.{pieces}
use Rattle.document.proofs.Pieces.{pieces-last, pieces_more, decimal-clear}
use Rattle.form.specs.Fields.{accepted, fields_at}
use Rattle.form.proofs.Pieces.{up_to_past}
use Rattle.form.proofs.Steps.{fields-done, fields-more}
use Rattle.quick.specs.Number.{Number}

-- a number has no byte below its sign
number-clear : (c : ℕ) → c < 45 → (l : List ℕ) (z : ℤ) → number_of l ≡ Some z → count l c ≡ 0
number-clear c h l z e = rw (only-text 9 l z e) (decimal-clear c h z)

-- how a number without a sign begins
no_sign : (l : List ℕ) (z : ℤ) → digits_read 0 l ≡ Some z → begins (bytes "-") l ≡ false
unfolding digits_read begins
no_sign [] z e = refl
no_sign (b ∷ l) z e = here (eqb b 45) refl
  where
    here : (t : Bool) → eqb b 45 ≡ t → t && true ≡ false
    here true q =
        let r : None ≡ Some z = rw (eqb-true b 45 q) at e in
        let w : ◌≡◌ {A = ℕ} 0 1 = cc in
        absurd (omega arith)
    here false q = refl

-- one step of reading digits up to the byte c, which is no digit
module _ (s : List ℕ) (c i : ℕ) (h : i < length s) (m : ℕ) where
  pub digit-more : (d : ℕ) → get_or s i 0 ≡ d + 48 → d ≤ 9 → c < 48
      → (find s (i + 1) c ≡ find s i c) × (digits_read (m * 10 + d) (up_to c (drop (i + 1) s)) ≡ digits_read m (up_to c (drop i s)))
  unfolding digits_read up_to
  digit-more d e n l =
      let b = get_or s i 0 in
      let other : b ≡ c → ⊥ = λ q. omega arith in
      let is : b - 48 ≡ d = omega arith in (
        sym (find_miss c s i h other),
        sym (rw (add-one, drop-cons s i 0, ne_eqb b c other, le-ltb b 48 (omega arith), le-ltb 57 b (omega arith), is)),
      )

  digit_end : get_or s i 0 ≡ c → digits_read m (up_to c (drop i s)) ≡ Some (pos m)
  unfolding digits_read up_to
  digit_end e = rw (drop-cons s i 0, eq-eqb (get_or s i 0) c e)

-- what is answered only where a test holds
pub where_true : {A : Type 0} (P : A → Type 0) (t : Bool) (x : A) → (t ≡ true → P x) → IfSome (then_some t x) P
where_true P true x f = f refl
where_true P false x f = tt

-- nine digits are a number below 10⁹
pub few : (e m : ℕ) → m < 10 ^ e → e ≤ 9 → m < 1000000000
few e m h l = let p : 10 ^ e ≤ 10 ^ 9 = pow-le-pow_right {n = 10} (lit< tt) l in omega arith

-- THE LAW: the digits that the loop has seen are a number
pub digits_seen : (s : List ℕ) (at c k m : ℕ) → at < k → k < length s → get_or s k 0 ≡ c → k ≤ at + 9 → (at + 1 < k → get_or s at 0 ≡ 48 → ⊥)
    → find s k c ≡ find s at c → digits_read m (up_to c (drop k s)) ≡ digits_read 0 (up_to c (drop at s)) → Number s at c (pos m) (k + 1)
unfolding number_within
digits_seen s at c k m p h e q z f d =
    let l = up_to c (drop at s) in
    let g = find_hit c s k h e in
    let r : digits_read 0 l ≡ Some (pos m) = sym d ∙ digit_end s c k h m e in
    let b : get_or l 0 0 ≡ get_or s at 0 =
    ap (λ (x : List ℕ). get_or x 0 0) (sym (up_to_front c (drop at s))) ∙ get_or-take (length l) (drop at s) 0 0 (omega arith)
    ∙ get_or-drop at s 0 0 ∙ rw (add-zero at) in
    record {
      inside = omega arith;
      ends = omega arith;
      says = rw (no_sign l (pos m) r) (sym (unsigned_reads 9 l (omega arith) (omega arith) (λ o w. z (omega arith) (sym b ∙ w))) ∙ r);
    }

-- a number above zero, with a sign before it, is as much below zero
below : (l : List ℕ) (z : ℤ) → lt_z (pos 0) z ≡ true → number_of l ≡ Some z → number_of (45 ∷ l) ≡ Some (neg_ℤ z)
unfolding decimal
below l (pos zero) h e = absurd cc
below l (negsuc n) h e = absurd cc
below l (pos (suc n)) h e = rw (only-text 9 l (pos (suc n)) e) (read_back 9 (negsuc n) (lit< tt) (only-small 9 l (pos (suc n)) e))

-- a number of the sheet fits, and so does its opposite
pub number_fits : (l : List ℕ) (z : ℤ) → number_of l ≡ Some z → SFits w64 z × SFits w64 (neg_ℤ z)
number_fits l z e = here z (only-small 9 l z e)
  where
    here : (z : ℤ) → nat_abs z < 10 ^ 9 → SFits w64 z × SFits w64 (neg_ℤ z)
    here (pos zero) h = (record { sfits = omega arith }, record { sfits = omega arith })
    here (pos (suc n)) h = (record { sfits = omega arith }, record { sfits = omega arith })
    here (negsuc n) h = (record { sfits = omega arith }, record { sfits = omega arith })

-- THE LAW: a sign and a number above zero behind it are a number
pub behind-sign : (s : List ℕ) (at c : ℕ) (z : ℤ) (next : ℕ) → at < length s → get_or s at 0 ≡ 45 → c < 45 → lt_z (pos 0) z ≡ true
    → Number s (at + 1) c z next → Number s at c (neg_ℤ z) next
unfolding up_to
behind-sign s at c z next h e l p w =
    let other : get_or s at 0 ≡ c → ⊥ = λ q. omega arith in
    let f = find_miss c s at h other in
    let d : up_to c (drop at s) ≡ 45 ∷ up_to c (drop (at + 1) s) = rw (add-one, drop-cons s at 0, ne_eqb (get_or s at 0) c other, e) in
    record { inside = omega (arith, f, w.inside); ends = omega (arith, f, w.ends); says = rw d (below (up_to c (drop (at + 1) s)) z p w.says) }

-- a number is the next field of a row
module _ (s : List ℕ) (p n i : ℕ) (vals : List ℤ) (z : ℤ) (q : ℕ) where
  pub row_more : Number s p 44 z q → fields_at s p n i vals ≡ fields_at s q n (i + 1) (set vals i z)
  unfolding fields_at up_to
  row_more w =
      let d = up_to 44 (drop p s) in
      let b = up_to 10 (drop q s) in
      let past = up_to_past 10 d (44 ∷ drop (find s p 44 + 1) s) (number-clear 10 (lit< tt) d z w.says) in
      let e : up_to 10 (drop p s) ≡ d ++ (44 ∷ b) = rw w.ends (ap (up_to 10) (found s p 44 w.inside) ∙ past) in
      let f : find s p 10 ≡ find s q 10 = omega (arith, ap length e, length-append d (44 ∷ b), w.ends) in
      rw (f, e, pieces_more 44 d b (number-clear 44 (lit< tt) d z w.says), fields-more n (find s q 10 + 1) i vals d (pieces 44 b) z w.says)

  pub row_last : Number s p 10 z q → i + 1 ≡ n → fields_at s p n i vals ≡ accepted q (set vals i z)
  unfolding fields_at
  row_last w h =
      let d = up_to 10 (drop p s) in
      rw (lt-ltb (find s p 10) (length s) w.inside, pieces-last 44 d (number-clear 44 (lit< tt) d z w.says), ← w.ends)
      (fields-more n q i vals d [] z w.says ∙ fields-done n q (i + 1) (set vals i z) [] refl h)
