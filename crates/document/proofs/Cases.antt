-- Small laws of tests and of cases: what a true test says of its parts, and what led to an answer that is no refusal.
-- Assumes nothing.
use Prim.Native.Nat.{ℕ}
use mathlib.Core.Path.{◌≡◌, refl}
use mathlib.Core.List.{List}
use mathlib.Core.Option.{Option, none, some}
use mathlib.Core.Bool.{Bool, true, false, ◌&&◌}
use native.Mathlib.Omega.{arith}
use Rattle.sheet.specs.declared.Refusal.{Refusal}
use Rattle.document.specs.Schema.{on, Row, Judged, values, unless}
use Rattle.document.specs.Reader.{Read, stopped, got, Reader, and_then}

-- whatever is asked where two unlike things are equal: `clash cc`
pub clash : {A : Type 0} → ◌≡◌ {A = ℕ} 0 1 → A
clash e = let z : ⊥ = omega arith in absurd z

pub both : (a b : Bool) → (a && b) ≡ true → (a ≡ true) × (b ≡ true)
both true b e = (refl, e)
both false b e = clash cc

-- what is no refusal was not refused on the way
pub unless-values : (t : Bool) (r : Refusal) (j : Judged) (row : Row) (n : ℕ) → unless t r j ≡ values row n → (t ≡ true) × (j ≡ values row n)
unless-values true r j row n e = (refl, e)
unless-values false r j row n e = clash cc

pub on_none : {A B : Type 0} (o : Option A) (b c : B) (f : A → B) → ((a : A) → f a ≡ c → ⊥) → on o b f ≡ c → (o ≡ none) × (b ≡ c)
on_none none b c f n e = (refl, e)
on_none (some a) b c f n e = absurd (n a e)

pub record Before {A B : Type 0} (r : Read A) (f : A → Reader B) (answer : Read B) : Type 0 where
  pub was : A
  pub line : ℕ
  pub left : List ℕ
  pub first : r ≡ got was line left
  pub then : f was line left ≡ answer

pub and_then-got : {A B : Type 0} (r : Read A) (f : A → Reader B) (b : B) (m : ℕ) (rest : List ℕ) → and_then r f ≡ got b m rest → Before r f (got b m rest)
and_then-got (stopped x j) f b m rest e = clash cc
and_then-got (got a n text) f b m rest e = record { was = a; line = n; left = text; first = refl; then = e }
