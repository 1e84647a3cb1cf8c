-- A line by its places: what the definition says of it where it has no end, another key, or the key that is due.
-- Assumes nothing.
use mathlib.Core.Path.{◌≡◌, refl, ap, ◌∙◌}
use mathlib.Core.Bool.{Bool, true, false, cond}
use mathlib.Core.List.{List, ◌∷◌, ◌++◌, append_assoc}
use Prim.Native.Nat.{ℕ, suc, ◌+◌, ◌≤◌, ◌<◌}
use native.Mathlib.Nat.{zero-add}
use native.Mathlib.Omega.{arith}
use lib.ListN.{length, drop, length-append, length-drop}
use lib.Seq.{sets, drop-drop, drop-append_seam}
use lib.Dec.{ltb, eqb}
use borrow.Author.Tests.{lt-ltb, le-ltb, ltb-true, ltb-false}
use Rattle.std.specs.Prelude.{Err}
use Rattle.text.specs.Scanning.{up_to, find, count, begins}
use Rattle.text.proofs.Scanning.{up_to-clear, count-append, found, begins-key, key-begins}
use Rattle.sheet.specs.declared.Refusal.TheVariants.{NoLineFeed, WrongKey, WrongCount, NotANumber}
use Rattle.document.specs.Schema.{refused, values, plain, unless, pieces, Numbers, none-at, all_are, on_numbers, numbers_of, formed_by}
use Rattle.form.specs.Formed.{zeros, handed, line_at}
use Rattle.form.specs.Fields.{accepted, fields_of, fields_at, Keyed}
use Rattle.form.proofs.Pieces.{up_to_past}

-- the judgement on a line's fields, as the code hands it out
handed-fields : (at size n : ℕ) (ps : List (List ℕ))
    → handed at (unless (eqb (length ps) n) WrongCount (on_numbers (numbers_of 1 ps) (λ i. refused (NotANumber i)) (λ zs. values (plain zs) size)))
    ≡ fields_of n (at + size) 0 zeros ps
unfolding fields_of
handed-fields at size n ps = rw (zero-add (length ps)) (here (eqb (length ps) n) (numbers_of 1 ps))
  where
    here : (t : Bool) (ns : Numbers) → handed at (unless t WrongCount (on_numbers ns (λ i. refused (NotANumber i)) (λ zs. values (plain zs) size)))
        ≡ cond t (on_numbers ns (λ j. Err (NotANumber j)) (λ zs. accepted (at + size) (sets zeros 0 zs))) (Err WrongCount)
    here true (none-at i) = refl
    here true (all_are zs) = refl
    here false ns = refl

-- the key at the beginning of a line has no LF
pub line-keyed : (s : List ℕ) (at : ℕ) (key : List ℕ) → find s at 10 < length s → begins key (up_to 10 (drop at s)) ≡ true → Keyed s at key
line-keyed s at key h e =
    let b = up_to 10 (drop at s) in
    let w = drop (length key) b in
    let rest : List ℕ = 10 ∷ drop (find s at 10 + 1) s in
    let q = begins-key key b e in
    record {
      stands = rw (found s at 10 h ∙ ap (λ (l : List ℕ). l ++ rest) q ∙ append_assoc key w rest) (key-begins key (w ++ rest));
      clear = omega (arith, up_to-clear 10 (drop at s), ap (λ (l : List ℕ). count l 10) q, count-append key w 10);
    }

-- THE LINE by the code's tests
module _ (s : List ℕ) (at : ℕ) (key : List ℕ) (n : ℕ) where
  pub endless : length s ≤ find s at 10 → line_at s at key n ≡ Err NoLineFeed
  unfolding line_at formed_by
  endless h = rw (le-ltb (length (up_to 10 (drop at s))) (length (drop at s)) (omega (arith, length-drop at s)))

  pub unkeyed : find s at 10 < length s → begins key (up_to 10 (drop at s)) ≡ false → line_at s at key n ≡ Err WrongKey
  unfolding line_at formed_by
  unkeyed h e = rw (lt-ltb (length (up_to 10 (drop at s))) (length (drop at s)) (omega (arith, length-drop at s)), e)

  module _ (k : Keyed s at key) where
    -- the line's text is the key, and what stands behind it up to the same LF
    behind : up_to 10 (drop at s) ≡ key ++ up_to 10 (drop (at + length key) s)
    behind = ap (up_to 10) (begins-key key (drop at s) k.stands) ∙ up_to_past 10 key (drop (length key) (drop at s)) k.clear ∙ rw drop-drop

    same_end : find s at 10 ≡ find s (at + length key) 10
    same_end = omega (arith, ap length behind, length-append key (up_to 10 (drop (at + length key) s)))

    pub keyed-line : line_at s at key n ≡ fields_at s (at + length key) n 0 zeros
    unfolding line_at formed_by fields_at
    keyed-line = here (ltb (find s at 10) (length s)) refl
      where
        here : (t : Bool) → ltb (find s at 10) (length s) ≡ t → line_at s at key n ≡ fields_at s (at + length key) n 0 zeros
        here true e =
            let b = up_to 10 (drop (at + length key) s) in
            let h = ltb-true (find s at 10) (length s) e in
            let q : at + suc (length (key ++ b)) ≡ find s (at + length key) 10 + 1 = omega (arith, length-append key b) in
            let ended = lt-ltb (length (up_to 10 (drop at s))) (length (drop at s)) (omega (arith, length-drop at s)) in
            rw (ended, lt-ltb (find s (at + length key) 10) (length s) (omega (arith, same_end)), behind, key-begins key b, drop-append_seam key b)
            (handed-fields at (suc (length (key ++ b))) n (pieces 44 b) ∙ rw q)
        here false e =
            let h = ltb-false (find s at 10) (length s) e in
            endless h ∙ rw (le-ltb (find s (at + length key) 10) (length s) (omega (arith, same_end)))

  -- its fields, where the end is known
  pub line-fields : Keyed s at key → find s at 10 < length s
      → line_at s at key n ≡ fields_of n (find s at 10 + 1) 0 zeros (pieces 44 (drop (length key) (up_to 10 (drop at s))))
  unfolding fields_at
  line-fields k h =
      let e = same_end k in
      keyed-line k ∙ rw (e, lt-ltb (find s (at + length key) 10) (length s) (omega arith), behind k, drop-append_seam key (up_to 10 (drop (at + length key) s)))
