-- One reading after another, and a reading whose range or rule is tested after it. Assumes nothing.
use Prim.Native.Nat.{ℕ}
use mathlib.Core.Path.{◌≡◌, refl, ap, ◌∙◌, subst}
use mathlib.Core.Bool.{Bool, true, false}
use mathlib.Core.List.{List}
use native.Mathlib.Omega.{arith}
use lib.ListN.{drop}
use borrow.Author.Tests.{eq-eqb, ne_eqb}
use Rattle.sheet.specs.declared.Refusal.{Refusal}
use Rattle.sheet.specs.Refusals.{number}
use Rattle.sheet.proofs.Refusals.{numbered}
use Rattle.document.specs.Reader.{Read, stopped, got, Reader, and_then, return}
use Rattle.due.specs.declared.Place.{Place}
use Rattle.due.specs.Place.{good, refused_at, Fair, Ready, Meets, After}

pub not-both : {X : Type 0} (t : Bool) → t ≡ true → t ≡ false → X
not-both t p q = let z : ◌≡◌ {A = ℕ} 0 1 = cc in absurd (omega arith)

-- as the code asks for it
pub is-good : (p : Place) → p.number ≡ 0 → good p ≡ true
is-good p e = eq-eqb p.number 0 e

pub is-bad : (p : Place) → (p.number ≡ 0 → ⊥) → good p ≡ false
is-bad p f = ne_eqb p.number 0 f

-- a refused place is not good
pub refused-bad : (r : Refusal) (n : ℕ) → good (refused_at r n) ≡ false
refused-bad r n = ne_eqb (number r) 0 (λ e. omega (arith, (numbered r).some))

-- what passes a refused place on ends refused
pub refused-on : (r : Refusal) (n : ℕ) {q q' : Place} → q ≡ refused_at r n → (good q ≡ false → q' ≡ q) → q' ≡ refused_at r n
refused-on r n e f = f (ap good e ∙ refused-bad r n) ∙ e

module _ {A B : Type 0} (s : List ℕ) (p q q' : Place) (m : Reader A) (f : A → Reader B) (P : A → Type 0) (Q : B → Type 0) where
  bind_cases : (r : Read A) → Meets s r q P → ((a : A) → P a → After s q (f a) q' Q) → (good q ≡ false → q' ≡ q) → Meets s (and_then r f) q' Q
  bind_cases (stopped x n) h k g = refused-on x n h g
  bind_cases (got a n rest) h k g =
      let w = (k a h.1).reads h.0.sound in
      let v : Meets s (f a n (drop q.at s)) q' Q = subst (λ (x : ℕ). Meets s (f a x (drop q.at s)) q' Q) h.0.line w in
      subst (λ (x : List ℕ). Meets s (f a n x) q' Q) h.0.left v

  -- m from p to q, then f from q to q', is m and then f from p to q'
  pub after_bind : After s p m q P → ((a : A) → P a → After s q (f a) q' Q) → (good q ≡ false → q' ≡ q) → (good q' ≡ true → Fair s q')
      → After s p (λ n t. and_then (m n t) f) q' Q
  after_bind a k g fair = record {
    reads = λ h. bind_cases (m p.line (drop p.at s)) (a.reads h) k g;
    passes = λ h. let e = a.passes h in g (ap (λ (y : Place). good y) e ∙ h) ∙ e;
    fair = fair;
  }

pub after-return : {A : Type 0} (s : List ℕ) (q : Place) (a : A) (Q : A → Type 0) → Q a → (good q ≡ true → Fair s q) → After s q (return a) q Q
after-return s q a Q h f = record {
  reads = λ e. (record { sound = e; line = refl; left = refl }, h);
  passes = λ e. refl;
  fair = f;
}

-- what is known of what was read may be said otherwise
meets_weaker : {A : Type 0} (s : List ℕ) (r : Read A) (q : Place) (P Q : A → Type 0) → ((a : A) → P a → Q a) → Meets s r q P → Meets s r q Q
meets_weaker s (stopped x n) q P Q h m = m
meets_weaker s (got a n rest) q P Q h m = (m.0, h a m.1)

pub after_weaker : {A : Type 0} (s : List ℕ) (p q : Place) (m : Reader A) (P Q : A → Type 0) → ((a : A) → P a → Q a) → After s p m q P → After s p m q Q
after_weaker s p q m P Q h a = record {
  reads = λ e. meets_weaker s (m p.line (drop p.at s)) q P Q h (a.reads e);
  passes = a.passes;
  fair = a.fair;
}

-- a place that is ready after one that was
pub ready_after : {A : Type 0} {s : List ℕ} {p q : Place} {m : Reader A} {P : A → Type 0} → Ready s p → After s p m q P → Ready s q
ready_after r a = record { short = r.short; fair = a.fair }

pub after-left : {A : Type 0} {s : List ℕ} {p q : Place} {m : Reader A} {P Q : A → Type 0} → After s p m q (λ a. P a × Q a) → After s p m q P
after-left {s = s} {p} {q} {m} {P} {Q} a = after_weaker s p q m (λ a. P a × Q a) P (λ a h. h.0) a

-- where a reading ended refused, nothing was read, so anything may be said of it
refused-cases : {A : Type 0} (s : List ℕ) (r : Read A) (q : Place) (P Q : A → Type 0) → good q ≡ false → Meets s r q P → Meets s r q Q
refused-cases s (stopped x n) q P Q e m = m
refused-cases s (got a n rest) q P Q e m = not-both (good q) m.0.sound e

pub after-refused : {A : Type 0} (s : List ℕ) (p q : Place) (m : Reader A) (P Q : A → Type 0) → good q ≡ false → After s p m q P → After s p m q Q
after-refused s p q m P Q e a = record {
  reads = λ h. refused-cases s (m p.line (drop p.at s)) q P Q e (a.reads h);
  passes = a.passes;
  fair = a.fair;
}
