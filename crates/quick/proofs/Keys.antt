-- What decides whether a key stands at a place, and what a caller learns where it does. Assumes nothing.
use Rattle.std.proofs.Common.{◌≡◌, ℕ, suc, ◌+◌, ◌-◌, ◌≤◌, Bool, true, false, cond, not, ◌&&◌, ◌||◌, eqb, leb, List, [], ◌∷◌, length, take, drop, refl, ap, arith, eq-eqb, ne_eqb, eqb-true, le-leb, leb-true, length-append, length-drop}
use mathlib.Core.Bool.{and-false}
use lib.Seq.{take_all}
use Rattle.std.specs.List.{list_any}
use Rattle.std.specs.Cmp.Lexicographic.{pointwise}
use Rattle.text.proofs.Scanning.{begins-key, begins_by_parts}
use Rattle.text.specs.Scanning.{count, begins}
use Rattle.document.proofs.Cases.{both}
use Rattle.form.specs.Fields.{Keyed}
use Rattle.quick.specs.Key.{standing}

twice : (u : Bool) → u ≡ not (not u)
twice true = refl
twice false = refl

-- no LF, in the library's words
feeds : (key : List ℕ) → list_any (λ y. eqb y 10) key ≡ not (eqb (count key 10) 0)
unfolding count
feeds [] = refl
feeds (b ∷ key) = here (eqb b 10) (feeds key)
  where
    here : (t : Bool) → list_any (λ y. eqb y 10) key ≡ not (eqb (count key 10) 0)
        → t || list_any (λ y. eqb y 10) key ≡ not (eqb (cond t (suc (count key 10)) (count key 10)) 0)
    here true q = rw (ne_eqb (suc (count key 10)) 0 (λ e. omega arith))
    here false q = q

module _ (s : List ℕ) (at : ℕ) (key : List ℕ) where
  -- by the library's two tests: the key begins what is behind the place, and holds no LF
  pub standing_by_tests : at ≤ length s → (a b : Bool) → a ≡ pointwise eqb key (take (length key) (take (length s - at) (drop at s)))
      → b ≡ list_any (λ y. eqb y 10) key → standing s at key ≡ a && not b
  unfolding standing
  standing_by_tests h a b e f =
      let all : take (length s - at) (drop at s) ≡ drop at s = take_all (length s - at) (drop at s) (omega (arith, length-drop at s)) in
      rw (e, f, all, ← begins_by_parts key (drop at s), feeds key) (here (begins key (drop at s)) refl (eqb (count key 10) 0))
    where
      here : (t : Bool) → begins key (drop at s) ≡ t → (u : Bool) → leb (at + length key) (length s) && (t && u) ≡ t && not (not u)
      here true q u =
          let r = ap length (begins-key key (drop at s) q) in
          rw (le-leb (at + length key) (length s) (omega (arith, r, length-append key (drop (length key) (drop at s)), length-drop at s))) (twice u)
      here false q u = and-false (leb (at + length key) (length s))

  pub key-stands : at + length key ≤ length s → begins key (drop at s) ≡ true → count key 10 ≡ 0 → standing s at key ≡ true
  unfolding standing
  key-stands h e f = rw (le-leb (at + length key) (length s) h, e, eq-eqb (count key 10) 0 f)

  pub inside : standing s at key ≡ true → at + length key ≤ length s
  unfolding standing
  inside e = leb-true (at + length key) (length s) (both _ _ e).0

  pub keyed : standing s at key ≡ true → Keyed s at key
  unfolding standing
  keyed e =
      let k = both (begins key (drop at s)) (eqb (count key 10) 0) (both (leb (at + length key) (length s)) _ e).1 in
      record { stands = k.0; clear = eqb-true (count key 10) 0 k.1 }
