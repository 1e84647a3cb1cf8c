-- No second warmth fits: at 0 degrees the fuel's specific heat says the one number, and a tenth of a degree above it the other. Assumes nothing.
use mathlib.Core.Path.{◌≡◌, refl, sym, ap₂, ◌∙◌}
use mathlib.Core.List.{[], ◌∷◌}
use lib.IntN.{ℤ, pos, ◌+ℤ◌, ◌-ℤ◌, ◌*ℤ◌}
use lib.Signed.{lt_z_yes}
use Rattle.arith.proofs.Ring.{v, #, ◌⊕◌, ◌⊖◌, ◌⊗◌, ring}
use Rattle.sheet.specs.Firing.{Gas}
use Rattle.formulas.proofs.Units.{only}
use Rattle.burning.specs.declared.mixture.Warmth.{Warmth}
use Rattle.burning.specs.Mixture.{Warmed}

-- two straight lines that meet at 0 and at 1
module _ (a b c d : ℤ) (at-0 : a *ℤ pos 1000 +ℤ b *ℤ pos 0 ≡ c *ℤ pos 1000 +ℤ d *ℤ pos 0)
    (at_1 : a *ℤ pos 1000 +ℤ b *ℤ pos 1 ≡ c *ℤ pos 1000 +ℤ d *ℤ pos 1) where
  start : a *ℤ pos 1000 ≡ c *ℤ pos 1000
  start =
      ring (a ∷ b ∷ []) (v 0 ⊗ # 1000) (v 0 ⊗ # 1000 ⊕ v 1 ⊗ # 0) tt ∙ at-0 ∙ ring (c ∷ d ∷ []) (v 0 ⊗ # 1000 ⊕ v 1 ⊗ # 0) (v 0 ⊗ # 1000) tt

  cold_is : a ≡ c
  cold_is = only {x = a *ℤ pos 1000} (lt_z_yes tt) (record { is = refl }) (record { is = start })

  rise-is : b ≡ d
  rise-is =
      ring (a ∷ b ∷ []) (v 1) (v 0 ⊗ # 1000 ⊕ v 1 ⊗ # 1 ⊖ v 0 ⊗ # 1000) tt
      ∙ ap₂ ◌-ℤ◌ at_1 start
      ∙ ring (c ∷ d ∷ []) (v 0 ⊗ # 1000 ⊕ v 1 ⊗ # 1 ⊖ v 0 ⊗ # 1000) (v 1) tt

pub one-warmth : (g : Gas) (m n : Warmth) → Warmed g m → Warmed g n → m ≡ n
one-warmth g m n h k =
    let at-0 = h.heat (pos 0) ∙ sym (k.heat (pos 0)) in
    let at_1 = h.heat (pos 1) ∙ sym (k.heat (pos 1)) in
    λ i. record {
      cold = cold_is m.cold m.rise n.cold n.rise at-0 at_1 i;
      rise = rise-is m.cold m.rise n.cold n.rise at-0 at_1 i;
    }
