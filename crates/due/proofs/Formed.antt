-- What the reading of a line's form leaves: the next place, the numbers, or the refusal. Assumes nothing.
use Prim.Native.Nat.{ℕ, zero, suc, ◌+◌, ◌≤◌, ◌<◌}
use mathlib.Core.Path.{◌≡◌, refl, sym, ◌∙◌}
use mathlib.Core.Bool.{true, false}
use mathlib.Core.List.{List, [], ◌∷◌, ◌++◌}
use mathlib.Core.Option.{none}
use native.Mathlib.Numerals.{add-one}
use native.Mathlib.Omega.{arith}
use lib.ListN.{length, get_or, drop, length-append, length-drop, get_or-map}
use lib.Seq.{sets, sets-eq, append_snoc, get_or_at, drop-drop}
use lib.IntN.{ℤ, pos}
use borrow.Author.Tests.{ne_eqb, ltb-true}
use Rattle.limits.specs.declared.Number.{Number}
use Rattle.text.specs.Scanning.{up_to}
use Rattle.std.specs.Prelude.{Option, Some, Result, Ok, Err}
use Rattle.sheet.specs.declared.Refusal.{Refusal}
use Rattle.sheet.specs.Refusals.{number}
use Rattle.sheet.proofs.Refusals.{numbered}
use Rattle.sheet.specs.Quantities.{fields_most}
use Rattle.document.specs.Schema.{Row, Judged, refused, values, formed_by}
use Rattle.document.specs.Reader.{judged}
use Rattle.form.specs.declared.Formed.{Formed}
use Rattle.form.specs.Formed.{zeros, handed, values_in, line_at}
use Rattle.form.proofs.Lines.{keyed-line}
use Rattle.quick.specs.Key.{standing}
use Rattle.quick.specs.Row.{RowRead}
use Rattle.quick.proofs.Keys.{keyed}
use Rattle.due.specs.declared.Place.{Place}
use Rattle.due.specs.Place.{good, going_on, refused_at, Fair, Ready, Meets, After}
use Rattle.due.specs.Taking.{plain_numbers, from}
use Rattle.due.specs.Form.{read_form, values_at, FormAfter}
use Rattle.due.proofs.Places.{not-both, after_weaker}
use Rattle.due.proofs.Lines.{in_form}

-- ---- the numbers of a row, taken out of the array that it fills from the front
abbrev from_ℤ : ℕ → ℕ → List ℤ → List ℤ
from_ℤ i zero v = []
from_ℤ i (suc k) v = get_or v i (pos 0) ∷ from_ℤ (suc i) k v

from-plain : (v : List Number) (i k : ℕ) → from i k v ≡ from_ℤ i k (plain_numbers v)
from-plain v i zero = refl
from-plain v i (suc k) = rw (← get_or-map (λ (x : Number). x.0) v i (record { 0 = pos 0 }), from-plain v (suc i) k)

from_at : (xs zs ys : List ℤ) → from_ℤ (length xs) (length zs) (xs ++ (zs ++ ys)) ≡ zs
from_at xs [] ys = refl
from_at xs (z ∷ zs) ys =
    let h : get_or (xs ++ (z ∷ (zs ++ ys))) (length xs) (pos 0) ≡ z = get_or_at xs z (zs ++ ys) (pos 0) (length xs) refl in
    let t = from_at (xs ++ (z ∷ [])) zs ys in
    let n : length (xs ++ (z ∷ [])) ≡ suc (length xs) = length-append xs (z ∷ []) ∙ omega arith in
    let r : from_ℤ (suc (length xs)) (length zs) (xs ++ (z ∷ (zs ++ ys))) ≡ zs = rw (n, append_snoc) at t in
    rw (h, r)

from_row : (v : List Number) (zs : List ℤ) (n : ℕ) → n ≤ fields_most → length zs ≡ n → plain_numbers v ≡ sets zeros 0 zs → from 0 n v ≡ zs
from_row v zs n h e q =
    let k : 0 + length zs ≤ length zeros = omega arith in
    rw (← e, from-plain v 0 (length zs), q, sets-eq zs zeros 0 k) (from_at [] zs (drop (0 + length zs) zeros))

-- ---- the place after a line
module _ (s : List ℕ) (p : Place) (key : List ℕ) (n : ℕ) (r : Ready s p) (yes : good p ≡ true) where
  abbrev text : List ℕ
  text = drop p.at s

  -- the numbers of the line, whether it is in form or not
  pub line-values : (l : Result Formed Refusal) → l ≡ line_at s p.at key n → values_in l ≡ values_at s p key n
  unfolding values_at
  line-values l e = rw (yes, e)

  refused-cases : (P : Row → Type 0) (j : Judged) (x : Refusal) → handed p.at j ≡ Err x → Meets s (judged j (λ row. none) p.line text) (refused_at x p.line) P
  refused-cases P (refused y) x e = let q : y ≡ x = cc in rw q refl
  refused-cases P (values row size) x e = cc

  -- one that is handed out as refused, whatever would hold of a row
  pub refused_after : (x : Refusal) (P : Row → Type 0) → Err x ≡ line_at s p.at key n → After s p (read_form key n) (refused_at x p.line) P
  unfolding line_at
  refused_after x P e = record {
    reads = λ h. refused-cases P (formed_by key n text) x (sym e);
    passes = λ h. not-both (good p) yes h;
    fair = λ h. not-both (good (refused_at x p.line)) h (ne_eqb (number x) 0 (λ z. omega (arith, (numbered x).some)));
  }

  -- and its numbers are zeros
  pub form_refused : (x : Refusal) → Err x ≡ line_at s p.at key n → FormAfter s p key n (refused_at x p.line) zeros
  form_refused x e = record { after = refused_after x _ e; whole = line-values (Err x) e }

  -- one that is handed out with numbers is read, and they are its row's
  read-cases : (j : Judged) → formed_by key n text ≡ j → (l : Formed) → handed p.at j ≡ Ok l
      → Meets s (judged j (λ row. none) p.line text) (going_on p.line l.next) (λ row. (l.values ≡ sets zeros 0 row.numbers) × (length row.numbers ≡ n))
      × Fair s (going_on p.line l.next)
  read-cases (refused x) q l e = absurd cc
  read-cases (values row size) q l e =
      let f = in_form key n text row size q in
      let g = r.fair yes in
      let b : length (up_to 10 text) < length text = ltb-true (length (up_to 10 text)) (length text) f.within in
      let is : l ≡ record { next = p.at + size; values = sets zeros 0 row.numbers } = cc in
      rw is (
        (record { sound = refl; line = add-one p.line; left = sym (drop-drop size p.at s) }, (refl, f.count)),
        record { field = refl; line = omega (arith, f.some, g.line); within = omega (arith, f.long, b, g.within, length-drop p.at s) },
      )

  pub form_read : (l : Formed) → Ok l ≡ line_at s p.at key n → FormAfter s p key n (going_on p.line l.next) l.values
  unfolding line_at
  form_read l e =
      let c = read-cases (formed_by key n text) refl l (sym e) in
      record { after = record { reads = λ x. c.0; passes = λ x. not-both (good p) yes x; fair = λ x. c.1 }; whole = line-values (Ok l) e }

  -- the key stands there, and behind it the quick reader has read the row
  pub row_read : (v w : List ℤ) (o : Option ℕ) (next : ℕ) → standing s p.at key ≡ true → v ≡ zeros → RowRead s (p.at + length key) n v w o
      → o ≡ Some next → FormAfter s p key n (going_on p.line next) w
  row_read v w o next k z a is = form_read (record { next = next; values = w }) (a.read next is ∙ rw z (sym (keyed-line _ _ _ _ (keyed s p.at key k))))

-- the numbers taken out of the array
pub due_form : (s : List ℕ) (p : Place) (key : List ℕ) (n : ℕ) (q : Place) (v : List ℤ) (w : List Number) → n ≤ fields_most → plain_numbers w ≡ v
    → FormAfter s p key n q v
    → After s p (read_form key n) q (λ row. from 0 n w ≡ row.numbers)
due_form s p key n q v w h e a =
    after_weaker s p q (read_form key n) (λ row. (v ≡ sets zeros 0 row.numbers) × (length row.numbers ≡ n)) (λ row. from 0 n w ≡ row.numbers)
    (λ row g. from_row w row.numbers n h g.1 (e ∙ g.0)) a.after

pub form_passed : (s : List ℕ) (p : Place) (key : List ℕ) (n : ℕ) (v : List ℤ) → good p ≡ false → v ≡ zeros → FormAfter s p key n p v
unfolding values_at
form_passed s p key n v e z = record {
  after = record { reads = λ h. not-both (good p) h e; passes = λ h. refl; fair = λ h. not-both (good p) h e };
  whole = rw e z;
}
