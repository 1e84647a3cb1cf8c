-- What finding, counting and a beginning say of lists: first one step of finding and of counting, then what a caller needs.
-- Assumes nothing.
use mathlib.Core.Path.{◌≡◌, refl, sym, ap, ◌∙◌}
use mathlib.Core.Bool.{Bool, true, false, cond, not, ◌&&◌}
use mathlib.Core.List.{List, [], ◌∷◌, ◌++◌}
use Prim.Native.Nat.{ℕ, suc, ◌+◌, ◌-◌, ◌≤◌, ◌<◌}
use native.Mathlib.Nat.{add-zero}
use native.Mathlib.Numerals.{add-one}
use native.Mathlib.Omega.{arith}
use lib.ListN.{length, get_or, take, drop, drop_of_length-le, length-take, length-drop}
use lib.Seq.{drop-cons, drop-drop, take_all}
use lib.Dec.{eqb, ltb, leb}
use borrow.Author.Tests.{eq-eqb, ne_eqb, eqb-true, ltb-false, leb-true, leb-false}
use Rattle.std.specs.Prelude.{Option, Some, None, min, unwrap_or}
use Rattle.std.specs.List.{position, position_or_len, count_by}
use Rattle.std.proofs.lemmas.List.Sums.{prefix_len-le-length}
use Rattle.std.proofs.lemmas.Bool.Decides.{nat_tests}
use Rattle.std.proofs.lemmas.List.Recursion.{is_count_by}
use Rattle.std.specs.Cmp.Lexicographic.{pointwise}
use Rattle.text.specs.Scanning.{up_to, find, count, begins}

module _ (c : ℕ) (s : List ℕ) (i : ℕ) (h : i < length s) where
  pub find_hit : get_or s i 0 ≡ c → find s i c ≡ i
  unfolding up_to
  find_hit e = rw (drop-cons s i 0, eq-eqb (get_or s i 0) c e) (add-zero i)

  pub find_miss : (get_or s i 0 ≡ c → ⊥) → find s i c ≡ find s (i + 1) c
  unfolding up_to
  find_miss n = rw (add-one, drop-cons s i 0, ne_eqb (get_or s i 0) c n) (omega arith)

  pub count_hit : get_or s i 0 ≡ c → count (drop i s) c ≡ count (drop (i + 1) s) c + 1
  unfolding count
  count_hit e = simp (add-one, drop-cons s i 0 h, eq-eqb (get_or s i 0) c e)

  pub count_miss : (get_or s i 0 ≡ c → ⊥) → count (drop i s) c ≡ count (drop (i + 1) s) c
  unfolding count
  count_miss n = rw (add-one, drop-cons s i 0, ne_eqb (get_or s i 0) c n)

module _ (c : ℕ) (s : List ℕ) (i : ℕ) (h : length s ≤ i) where
  pub count_end : count (drop i s) c ≡ 0
  unfolding count
  count_end = rw (drop_of_length-le s h)

-- The piece before the first c: it is the list's front, has no c, and c follows it unless it is the whole list.
pub up_to_front : (c : ℕ) (l : List ℕ) → take (length (up_to c l)) l ≡ up_to c l
unfolding up_to
up_to_front c [] = refl
up_to_front c (b ∷ l) = here (eqb b c) (up_to_front c l)
  where
    here : (t : Bool) → take (length (up_to c l)) l ≡ up_to c l → take (length (cond t [] (b ∷ up_to c l))) (b ∷ l) ≡ cond t [] (b ∷ up_to c l)
    here true q = refl
    here false q = rw q

pub up_to-clear : (c : ℕ) (l : List ℕ) → count (up_to c l) c ≡ 0
unfolding up_to count
up_to-clear c [] = refl
up_to-clear c (b ∷ l) = here (eqb b c) refl (up_to-clear c l)
  where
    here : (t : Bool) → eqb b c ≡ t → count (up_to c l) c ≡ 0 → count (cond t [] (b ∷ up_to c l)) c ≡ 0
    here true e q = refl
    here false e q = rw (e, q)

pub up_to-next : (c : ℕ) (l : List ℕ) → length (up_to c l) < length l → l ≡ up_to c l ++ (c ∷ drop (suc (length (up_to c l))) l)
unfolding up_to
up_to-next c [] h = absurd (omega arith)
up_to-next c (b ∷ l) h = here (eqb b c) refl (up_to-next c l) h
  where
    here : (t : Bool) → eqb b c ≡ t → (length (up_to c l) < length l → l ≡ up_to c l ++ (c ∷ drop (suc (length (up_to c l))) l)) →
        length (cond t [] (b ∷ up_to c l)) < suc (length l) → b ∷ l ≡ cond t [] (b ∷ up_to c l) ++ (c ∷ drop (length (cond t [] (b ∷ up_to c l))) l)
    here true e q h = rw (eqb-true b c e)
    here false e q h = ap (λ (x : List ℕ). b ∷ x) (q (omega arith))

-- A piece without c is found whole, with c behind it or nothing.
pub up_to_until : (c : ℕ) (p rest : List ℕ) → count p c ≡ 0 → up_to c (p ++ (c ∷ rest)) ≡ p
unfolding up_to count
up_to_until c [] rest z = rw (eq-eqb c c refl)
up_to_until c (b ∷ p) rest z = here (eqb b c) (up_to_until c p rest) z
  where
    here : (t : Bool) → (count p c ≡ 0 → up_to c (p ++ (c ∷ rest)) ≡ p) → cond t (suc (count p c)) (count p c) ≡ 0
        → cond t [] (b ∷ up_to c (p ++ (c ∷ rest))) ≡ b ∷ p
    here true q z = absurd (omega arith)
    here false q z = rw (q z)

pub up_to-whole : (c : ℕ) (p : List ℕ) → count p c ≡ 0 → up_to c p ≡ p
unfolding up_to count
up_to-whole c [] z = refl
up_to-whole c (b ∷ p) z = here (eqb b c) (up_to-whole c p) z
  where
    here : (t : Bool) → (count p c ≡ 0 → up_to c p ≡ p) → cond t (suc (count p c)) (count p c) ≡ 0 → cond t [] (b ∷ up_to c p) ≡ b ∷ p
    here true q z = absurd (omega arith)
    here false q z = rw (q z)

pub count-append : (a b : List ℕ) (c : ℕ) → count (a ++ b) c ≡ count a c + count b c
unfolding count
count-append [] b c = omega arith
count-append (x ∷ a) b c = here (eqb x c) (count-append a b c)
  where
    here : (t : Bool) → count (a ++ b) c ≡ count a c + count b c
        → cond t (suc (count (a ++ b) c)) (count (a ++ b) c) ≡ cond t (suc (count a c)) (count a c) + count b c
    here true q = omega arith
    here false q = omega arith

-- Where a byte is found, at or after a place of a list.
module _ (s : List ℕ) (at c : ℕ) where
  pub piece : take (find s at c - at) (drop at s) ≡ up_to c (drop at s)
  piece =
      let e : find s at c - at ≡ length (up_to c (drop at s)) = omega arith in
      rw e (up_to_front c (drop at s))

  pub find-most : at ≤ length s → find s at c ≤ length s
  find-most h = omega (arith, simp length-take at (ap length (up_to_front c (drop at s))), length-drop at s)

  pub found : find s at c < length s → drop at s ≡ up_to c (drop at s) ++ (c ∷ drop (find s at c + 1) s)
  found h =
      let e : find s at c + 1 ≡ at + suc (length (up_to c (drop at s))) = omega arith in
      rw (e, ← drop-drop) (up_to-next c (drop at s) (omega (arith, length-drop at s)))

  pub not_found : length s ≤ find s at c → up_to c (drop at s) ≡ drop at s
  not_found h = sym (up_to_front c (drop at s)) ∙ take_all (length (up_to c (drop at s))) (drop at s) (omega (arith, length-drop at s))

-- A text begins with a key where it is the key and what is behind it.
pub begins-key : (key s : List ℕ) → begins key s ≡ true → s ≡ key ++ drop (length key) s
unfolding begins
begins-key [] s e = refl
begins-key (k ∷ key) [] e = let z : ◌≡◌ {A = ℕ} 0 1 = cc in absurd (omega arith)
begins-key (k ∷ key) (b ∷ s) e = here (eqb b k) refl (begins-key key s) e
  where
    here : (t : Bool) → eqb b k ≡ t → (begins key s ≡ true → s ≡ key ++ drop (length key) s) → t && begins key s ≡ true
        → b ∷ s ≡ k ∷ (key ++ drop (length key) s)
    here true q r e = rw (eqb-true b k q) (ap (λ (x : List ℕ). k ∷ x) (r e))
    here false q r e = let z : ◌≡◌ {A = ℕ} 0 1 = cc in absurd (omega arith)

pub key-begins : (key rest : List ℕ) → begins key (key ++ rest) ≡ true
unfolding begins
key-begins [] rest = refl
key-begins (k ∷ key) rest = rw (eq-eqb k k refl) (key-begins key rest)

-- The three in the library's words.
pub up_to_length : (c : ℕ) (l : List ℕ) → length (up_to c l) ≡ position_or_len (λ x. eqb x c) l
unfolding up_to
up_to_length c [] = refl
up_to_length c (b ∷ l) = here (eqb b c) (up_to_length c l)
  where
    here : (t : Bool) → length (up_to c l) ≡ position_or_len (λ x. eqb x c) l
        → length (cond t [] (b ∷ up_to c l)) ≡ cond (not t) (1 + position_or_len (λ x. eqb x c) l) 0
    here true q = refl
    here false q = omega arith

module _ (s : List ℕ) (at c m : ℕ) (h : m ≡ min at (length s)) where
  -- the part that is searched
  abbrev rest : List ℕ
  rest = take (length s - m) (drop m s)

  rest_is : rest ≡ drop at s
  rest_is = take_all (length s - m) (drop m s) (omega (arith, length-drop m s)) ∙ here (leb at (length s)) refl
    where
      here : (t : Bool) → leb at (length s) ≡ t → drop m s ≡ drop at s
      here true e = let q : m ≡ at = omega (arith, leb-true at (length s) e) in rw q
      here false e =
          let q = leb-false at (length s) e in
          rw (drop_of_length-le s {i = m} (omega (arith, q)), drop_of_length-le s {i = at} (omega (arith, q)))

  pub find_by_position : (r : Option ℕ) → r ≡ position (λ x. eqb x c) rest → at + unwrap_or r (length rest) ≡ find s at c
  find_by_position r e = rw (e, rest_is) (here (ltb p (length (drop at s))) refl)
    where
      p : ℕ
      p = position_or_len (λ x. eqb x c) (drop at s)

      here : (t : Bool) → ltb p (length (drop at s)) ≡ t → at + unwrap_or (cond t (Some p) None) (length (drop at s)) ≡ find s at c
      here true q = omega (arith, up_to_length c (drop at s))
      here false q = omega (arith, up_to_length c (drop at s), ltb-false p (length (drop at s)) q, prefix_len-le-length (λ x. not (eqb x c)) (drop at s))

pub count_by_test : (s : List ℕ) (c : ℕ) → count s c ≡ count_by (λ x. eqb x c) s
unfolding count
count_by_test s c = is_count_by (λ l. count l c) (λ x. eqb x c) refl (λ x xs. ap (λ n. cond (eqb x c) n (count xs c)) (omega arith)) s

same_test : (a b : ℕ) → eqb a b ≡ eqb b a
same_test a b = grind (arith, nat_tests)

pub begins_by_parts : (key s : List ℕ) → begins key s ≡ pointwise eqb key (take (length key) s)
unfolding begins
begins_by_parts [] s = refl
begins_by_parts (k ∷ key) [] = refl
begins_by_parts (k ∷ key) (b ∷ s) = rw (same_test b k, begins_by_parts key s)

-- the same, as the library asks it where the key is taken off
pub begins_by_prefix : (key s : List ℕ) → begins key s ≡ pointwise eqb (take (length key) s) key
unfolding begins
begins_by_prefix [] s = refl
begins_by_prefix (k ∷ key) [] = refl
begins_by_prefix (k ∷ key) (b ∷ s) = rw (begins_by_prefix key s)
