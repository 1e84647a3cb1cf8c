-- What stands where after writing, and one text written behind another. Assumes nothing.
use mathlib.Core.Path.{◌≡◌, refl, sym, ap, ◌∙◌}
use mathlib.Core.List.{List, [], ◌∷◌, ◌++◌, append_assoc, append-nil}
use Prim.Native.Nat.{ℕ, zero, suc, ◌+◌, ◌-◌, ◌≤◌, ◌<◌}
use native.Mathlib.Nat.{add-zero, zero-add, suc-add}
use native.Mathlib.Numerals.{add-one}
use native.Mathlib.Omega.{arith}
use lib.ListN.{length, take, drop, set, length-append, length-take, length-drop, take-append-drop, drop_of_length-le}
use lib.Seq.{take_all, take_at, drop_at, set_split, drop-drop, drop-nil, drop-append_seam, take-append_seam, length-take-le}
use Rattle.std.proofs.lemmas.List.{take-set-le}
use Rattle.pen.specs.Writing.{over, Written}

pub length_over : (at : ℕ) (text old : List ℕ) → at + length text ≤ length old → length (over at text old) ≡ length old
unfolding over
length_over at text old h = simp (length-append, length-take, length-drop) (omega arith)

module _ (at : ℕ) (text old : List ℕ) (h : at ≤ length old) where
  pub take-over : take at (over at text old) ≡ take at old
  unfolding over
  take-over = take_at (take at old) _ at (length-take-le at old h)

  pub drop-over : drop at (over at text old) ≡ text ++ drop (length text) (drop at old)
  unfolding over
  drop-over = drop_at (take at old) _ at (length-take-le at old h)

  pub text-over : take (length text) (drop at (over at text old)) ≡ text
  text-over = rw drop-over (take-append_seam text _)

  pub behind-over : drop (at + length text) (over at text old) ≡ drop (at + length text) old
  behind-over = rw (← drop-drop, drop-over) (drop-append_seam text _ ∙ drop-drop (length text) at old)

-- one text behind the other
pub over-over : (at : ℕ) (a b old : List ℕ) → over (at + length a) b (over at a old) ≡ over at (a ++ b) old
unfolding over
over-over zero a b old =
    rw (zero-add, take-append_seam, drop-append_seam, drop-drop, length-append, append_assoc)
over-over (suc at) a b [] =
    rw (drop-nil, append-nil) (rw (take_all (suc at + length a) a (omega arith), drop_of_length-le a {i = suc at + length a} (omega arith))
    (simp (drop-nil, append-nil)))
over-over (suc at) a b (x ∷ old) = rw suc-add (ap (λ (l : List ℕ). x ∷ l) (over-over at a b old))

-- a text written at the front of the part that begins at `at`, once that part is put back
pub in_part : {at k : ℕ} {text old part : List ℕ} → Written 0 text (take (length old - at) (drop at old)) part k →
    Written at text old (take at old ++ (part ++ drop (length old - at) (drop at old))) (at + k)
unfolding over
in_part {at} {old = old} w =
    let l = length-drop at old in
    record {
      ends = omega (arith, w.ends);
      holds = rw (
        w.holds,
        take_all (length old - at) (drop at old) (omega arith),
        drop_of_length-le (drop at old) {i = length old - at} (omega arith),
        append-nil,
      );
    }

-- A chain of calls that write: nothing is written yet, and one call more.
pub begun : (at : ℕ) (old : List ℕ) → Written at [] old old at
unfolding over
begun at old = record { ends = sym (add-zero at); holds = sym (take-append-drop at old) }

pub next : {at end end' : ℕ} {a b old buf buf' : List ℕ} → Written at a old buf end → Written end b buf buf' end' → Written at (a ++ b) old buf' end'
next {at} {end} {a = a} {b} {old} w v = record {
  ends = omega (arith, w.ends, v.ends, length-append a b);
  holds = v.holds ∙ rw (w.ends, w.holds) (over-over at a b old);
}

-- one byte written by an assignment
pub one_byte : (at b : ℕ) (old : List ℕ) → at < length old → Written at (b ∷ []) old (set old at b) (at + 1)
unfolding over
one_byte at b old h = record { ends = refl; holds = set_split old at b h ∙ rw (drop-drop, add-one) }

-- the last byte of a text may be written before the others
pub last-first : (at i b : ℕ) (a old : List ℕ) → at + length a ≡ i → i < length old → over at a (set old i b) ≡ over at (a ++ (b ∷ [])) old
unfolding over
last-first at i b a old e h =
    let d : drop (length a) (drop at (set old i b)) ≡ b ∷ drop (suc i) old =
    rw (drop-drop, e, set_split old i b h) (drop_at (take i old) (b ∷ drop (suc i) old) i (length-take-le i old (omega arith))) in
    let f : at + (length a + 1) ≡ suc i = omega arith in
    rw (take-set-le at old i b (omega arith), d, length-append, append_assoc, drop-drop, f)

-- no byte is left to write
pub over_none : (at : ℕ) (old : List ℕ) → over at [] old ≡ old
unfolding over
over_none at old = take-append-drop at old
