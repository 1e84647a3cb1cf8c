-- The lines that a block holds, and what is summed over them.
use Rattle.std.specs.Prelude.{List, [], ◌∷◌, map, ℤ, pos, ◌+ℤ◌, take}
use Rattle.sheet.specs.declared.Stages.{Stages as Stagesˢ}
use Rattle.sheet.specs.Firing.{Stage}
use Rattle.sheet.specs.Shown.{stage}

abbrev pub stages_of : Stagesˢ → List Stage
stages_of x = map stage (take x.count.0 x.lines)

unfoldable pub sum : {A : Type 0} → (A → ℤ) → List A → ℤ
sum f [] = pos 0
sum f (a ∷ l) = f a +ℤ sum f l

abbrev pub total_gas : List Stage → ℤ
total_gas l = sum (λ s. s.gas) l
