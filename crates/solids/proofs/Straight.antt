-- The sizes of a specific heat on it, whose coefficients are small. Assumes nothing.
use Prim.Native.Nat.{ℕ}
use mathlib.Core.Bool.{Bool, ◌&&◌}
use mathlib.Core.List.{List, [], ◌∷◌}
use lib.Dec.{T, leb, leb→le}
use lib.IntN.{ℤ, pos, nat_abs}
use Rattle.arith.proofs.Ring.{both_left, both_right}
use Rattle.arith.proofs.Machine.{Known, raw, num, ◌⟨*⟩◌, ◌⟨+⟩◌}
use Rattle.sheet.specs.Quantities.{temperature}
use Rattle.formulas.specs.declared.Straight.{Straight}
use Rattle.formulas.specs.Tables.{table_a2, straight, straight_at}
use Rattle.formulas.specs.Formulas.{by_table}
use Rattle.formulas.specs.Figures.{Within}
use Rattle.formulas.specs.Sizes.{greatest, column, specific_heat_most}
use Rattle.formulas.proofs.Sizes.{within, most, fit, entry}
use Rattle.solids.specs.Steps.{StraightFits}

abbrev start_most : ℕ
start_most = column (λ l. l.a) table_a2

abbrev slope_most : ℕ
slope_most = column (λ l. l.b) table_a2

modest : Straight → Bool
modest x = leb (nat_abs x.a) start_most && leb (nat_abs x.b) slope_most

module _ (i : ℕ) where
  modest-at : T (modest (straight_at i))
  unfolding modest
  modest-at = entry modest (straight 0 0) table_a2 tt tt i

  a-size : Within start_most (straight_at i).a
  unfolding modest
  a-size = record { size = leb→le _ _ (both_left (leb (nat_abs (straight_at i).a) start_most) (leb (nat_abs (straight_at i).b) slope_most) modest-at) }

  b-size : Within slope_most (straight_at i).b
  unfolding modest
  b-size = record { size = leb→le _ _ (both_right (leb (nat_abs (straight_at i).a) start_most) (leb (nat_abs (straight_at i).b) slope_most) modest-at) }

  module _ {T : ℤ} (h : Within (greatest temperature) T) where
    abbrev ks : List Known
    ks = within a-size ∷ within b-size ∷ within h ∷ []

    pub straight-fits : StraightFits (straight_at i).a (straight_at i).b T
    straight-fits = record {
      start = fit ks (raw 0 ⟨*⟩ num (pos 100000)) tt;
      rise = fit ks (raw 1 ⟨*⟩ raw 2) tt;
      all = fit ks (raw 0 ⟨*⟩ num (pos 100000) ⟨+⟩ raw 1 ⟨*⟩ raw 2) tt;
    }

    pub straight-size : Within specific_heat_most (by_table i T)
    straight-size = most ks (raw 0 ⟨*⟩ num (pos 100000) ⟨+⟩ raw 1 ⟨*⟩ raw 2) tt
