-- What is taken from the numbers of a line: its quantities, and the first field that is outside its range; and rule 4.
use Rattle.std.specs.Prelude.{ℕ, zero, suc, ◌≡◌, Bool, cond, List, [], ◌∷◌, map, get_or, ℤ, pos}
use Rattle.limits.specs.declared.Number.{Number}
use Rattle.sheet.specs.Firing.{Stuff}
use Rattle.sheet.specs.Shown.{same}
use Rattle.sheet.specs.Quantities.{Field}
use Rattle.document.specs.Schema.{within}
use Rattle.document.specs.Tests.{alike}

abbrev pub plain_numbers : List Number → List ℤ
plain_numbers v = map (λ x. x.0) v

-- k numbers of an array, from i on
abbrev pub from : ℕ → ℕ → List Number → List ℤ
from i zero v = []
from i (suc k) v = (get_or v i (record { 0 = pos 0 })).0 ∷ from (suc i) k v

-- one field with its limits
abbrev pub one : ℤ → ℤ → List Field
one least greatest = record { least = least; greatest = greatest } ∷ []

-- the first field outside its range, counted from i; 0 where there is none
unfoldable pub fault_of : ℕ → List Field → List ℤ → ℕ
fault_of i [] zs = 0
fault_of i (f ∷ fs) [] = 0
fault_of i (f ∷ fs) (z ∷ zs) = cond (within f z) (fault_of (suc i) fs zs) i

-- the numbers of a line as its quantities hold them: outside its range the least
unfoldable pub held_to : List Field → List ℤ → List ℤ
held_to [] zs = zs
held_to (f ∷ fs) [] = []
held_to (f ∷ fs) (z ∷ zs) = cond (within f z) z f.least ∷ held_to fs zs

-- the fault is the first field outside its range, and the record shows the numbers, each held to its range
pub record Taken (fields : List Field) (zs : List ℤ) (fault : ℕ) (Shown : List ℤ → Type 0) : Type 0 where
  pub first : fault ≡ fault_of 1 fields zs
  pub shown : Shown (held_to fields zs)

-- rule 4 by the thing itself: material 0 without a c, or a listed material with one
abbrev pub unsuited : Stuff → Bool
unsuited x = alike (same (pos 0) x.material) (same (pos 0) x.c)
