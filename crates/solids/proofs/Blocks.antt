-- The records of a block, as the code keeps them and as the firing shows them. Assumes nothing.
use Rattle.std.proofs.Common.{◌≡◌, refl, ap, List, [], ◌∷◌, map, ◌+ℤ◌, ℤ}
use Rattle.sheet.specs.Block.{sum}
use Rattle.document.specs.Rules.{Every}

pub every_kept : {A B : Type 0} (P : B → Type 0) (R : A → Type 0) (g : A → B) → ((x : A) → P (g x) → R x) → (l : List A) → Every P (map g l) → Every R l
every_kept P R g f [] p = tt
every_kept P R g f (x ∷ l) p = (f x p.0, every_kept P R g f l p.1)

pub sum_shown : {A B : Type 0} (f : B → ℤ) (g : A → B) (l : List A) → sum (λ x. f (g x)) l ≡ sum f (map g l)
unfolding sum
sum_shown f g [] = refl
sum_shown f g (x ∷ l) = ap (λ (z : ℤ). f (g x) +ℤ z) (sum_shown f g l)
