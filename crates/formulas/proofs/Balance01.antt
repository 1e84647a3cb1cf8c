-- Document 01's own sentences about its balance: what is on each side, and the lines of its report. Assumes nothing.
use mathlib.Core.Path.{◌≡◌, refl}
use mathlib.Core.List.{[], ◌∷◌}
use lib.IntN.{◌+ℤ◌, ◌-ℤ◌}
use Rattle.arith.proofs.Ring.{v, #, ◌⊕◌, ring}
use Rattle.sheet.specs.Firing.{Firing}
use Rattle.sheet.specs.Block.{sum}
use Rattle.formulas.specs.Rounding.{Rounding}
use Rattle.formulas.specs.Formulas.{q1, q2, q3, q5, q8, x1, x2, x3, x5, x7, x8, x9, x10, useful, withset}
use Rattle.formulas.specs.Items.{shuttle, total, x11, heats}
use Rattle.formulas.specs.Report.{number, heat, share, line, lines}

module _ (f : Firing) (r : Rounding) where
  -- `in` is q1 + q2 + q3 + q5 + q8
  pub in_is : total shuttle.incomes f r ≡ q1 f r +ℤ q2 f r +ℤ q3 f r +ℤ q5 f r +ℤ q8 f r
  unfolding total sum
  in_is = ring (q1 f r ∷ q2 f r ∷ q3 f r ∷ q5 f r ∷ q8 f r ∷ []) (v 0 ⊕ (v 1 ⊕ (v 2 ⊕ (v 3 ⊕ (v 4 ⊕ # 0))))) (v 0 ⊕ v 1 ⊕ v 2 ⊕ v 3 ⊕ v 4) tt

  pub spent_is : total shuttle.expenses f r ≡ x1 f r +ℤ x2 f r +ℤ x3 f r +ℤ x5 f r +ℤ x7 f r +ℤ x8 f r +ℤ x9 f r +ℤ x10 f r
  unfolding total sum
  spent_is =
      ring (x1 f r ∷ x2 f r ∷ x3 f r ∷ x5 f r ∷ x7 f r ∷ x8 f r ∷ x9 f r ∷ x10 f r ∷ [])
      (v 0 ⊕ (v 1 ⊕ (v 2 ⊕ (v 3 ⊕ (v 4 ⊕ (v 5 ⊕ (v 6 ⊕ (v 7 ⊕ # 0)))))))) (v 0 ⊕ v 1 ⊕ v 2 ⊕ v 3 ⊕ v 4 ⊕ v 5 ⊕ v 6 ⊕ v 7) tt

  -- x11 is that less x1 + x2 + x3 + x5 + x7 + x8 + x9 + x10
  pub x11-is :
      x11 shuttle f r
      ≡ q1 f r +ℤ q2 f r +ℤ q3 f r +ℤ q5 f r +ℤ q8 f r -ℤ (x1 f r +ℤ x2 f r +ℤ x3 f r +ℤ x5 f r +ℤ x7 f r +ℤ x8 f r +ℤ x9 f r +ℤ x10 f r)
  unfolding x11
  x11-is = rw (in_is, spent_is) refl

-- THE TWENTY LINES
pub twenty :
    lines shuttle
    ≡ line "firing" number
    ∷ line "q1" (heat q1)
    ∷ line "q2" (heat q2)
    ∷ line "q3" (heat q3)
    ∷ line "q5" (heat q5)
    ∷ line "q8" (heat q8)
    ∷ line "in" (heat (total shuttle.incomes))
    ∷ line "x1" (heat x1)
    ∷ line "x2" (heat x2)
    ∷ line "x3" (heat x3)
    ∷ line "x5" (heat x5)
    ∷ line "x7" (heat x7)
    ∷ line "x8" (heat x8)
    ∷ line "x9" (heat x9)
    ∷ line "x10" (heat x10)
    ∷ line "x11" (heat (x11 shuttle))
    ∷ line "useful" (heat useful)
    ∷ line "withset" (heat withset)
    ∷ line "eff1" (share useful)
    ∷ line "eff2" (share withset)
    ∷ []
unfolding lines heats
twenty = refl
