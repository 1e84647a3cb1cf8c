-- No second place fits: a reader says where it stops, or which line follows and what text is left, and of a text only one place leaves that. Assumes nothing.
use Prim.Native.Nat.{ℕ, ◌≤◌, ◌-◌}
use mathlib.Core.Path.{◌≡◌, refl, sym, ap, ◌∙◌}
use mathlib.Core.Bool.{Bool, true, false}
use mathlib.Core.List.{List}
use native.Mathlib.Omega.{arith}
use borrow.Author.Tests.{eqb-true}
use lib.ListN.{length, drop, length-drop}
use Rattle.document.specs.Reader.{Read, stopped, got, Reader}
use Rattle.due.specs.declared.Place.{Place}
use Rattle.due.specs.Place.{good, Fair, Meets, After}

same_at : (s : List ℕ) (a b : ℕ) → a ≤ length s → b ≤ length s → drop a s ≡ drop b s → a ≡ b
same_at s a b h k e =
    let sizes : length s - a ≡ length s - b = sym (length-drop a s) ∙ ap length e ∙ length-drop b s in
    omega arith

module _ {A : Type 0} (s : List ℕ) (q r : Place) (P Q : A → Type 0) where
  same_end : (x : Read A) → Meets s x q P → Meets s x r Q → (good q ≡ true → Fair s q) → (good r ≡ true → Fair s r) → q ≡ r
  same_end (stopped why n) h k f g = h ∙ sym k
  same_end (got a n rest) h k f g =
      let x = h.0 in
      let y = k.0 in
      let u = f x.sound in
      let v = g y.sound in
      λ i. record {
        number = (eqb-true q.number 0 x.sound ∙ sym (eqb-true r.number 0 y.sound)) i;
        field = (u.field ∙ sym v.field) i;
        line = (x.line ∙ sym y.line) i;
        at = same_at s q.at r.at u.within v.within (x.left ∙ sym y.left) i;
      }

  -- whatever is known of what was read
  pub one_place : (p : Place) (m : Reader A) → After s p m q P → After s p m r Q → q ≡ r
  one_place p m h k = cases (good p) refl where
    cases : (t : Bool) → good p ≡ t → q ≡ r
    cases true e = same_end (m p.line (drop p.at s)) (h.reads e) (k.reads e) h.fair k.fair
    cases false e = h.passes e ∙ sym (k.passes e)
