-- The sizes of what the formulas form, from the limits of the sheet's quantities. Assumes nothing.
use Prim.Native.Nat.{ℕ, zero, suc, ◌+◌, ◌*◌, ◌^◌, ◌≤◌, ◌<◌}
use mathlib.Core.Path.{◌≡◌, sym, subst}
use mathlib.Core.Bool.{Bool, ◌&&◌}
use mathlib.Core.List.{List, [], ◌∷◌}
use native.Mathlib.Nat.{le_refl, lt_of_le_of_lt, zero-lt-suc}
use native.Mathlib.Omega.{arith}
use lib.Dec.{T, leb, leb→le, le→leb, ltb, ltb→lt}
use lib.IntN.{ℤ, nat_abs}
use lib.ListN.{get_or}
use mir.Syntax.{w64}
use mir.Val.{SFits, hbits}
use Rattle.sheet.specs.Quantities.{Field}
use Rattle.arith.specs.Nearest.{nearest}
use Rattle.arith.proofs.Ring.{both_left, both_right}
use Rattle.arith.proofs.NearestLaws.{nearest-bound}
use Rattle.arith.proofs.Order.{sfits_abs}
use Rattle.arith.proofs.Span.{far}
use Rattle.arith.proofs.Machine.{Known, small, range, Mx, raw, mean, span, bound}
use Rattle.document.specs.Lawful.{In}
use Rattle.document.specs.Tests.{all}
use Rattle.formulas.specs.Rounding.{paper}
use Rattle.formulas.specs.Formulas.{placed}
use Rattle.formulas.specs.Sizes.{placed_most}
use Rattle.formulas.specs.Figures.{Is, Within, Figure}
use Rattle.formulas.proofs.Units.{same, rounds}

-- a quantity's size, from its limits
pub sized : {f : Field} {z : ℤ} {B : ℕ} → In f z → T (leb (far (f.least, f.greatest)) B) → Within B z
sized h t = record { size = bound (range h.low h.high ∷ []) (raw 0) t }

-- as what is known of a variable
abbrev pub within : {B : ℕ} {z : ℤ} → Within B z → Known
within {z = z} h = small z h.size

abbrev pub limits : {f : Field} {z : ℤ} → In f z → Known
limits h = range h.low h.high

-- an expression's value is small, or fits, from what is known of its variables
pub most : (ks : List Known) (e : Mx) {B : ℕ} → T (leb (far (span e ks)) B) → Within B (mean e ks)
most ks e t = record { size = bound ks e t }

some : (d B : ℕ) → 0 < 2 * (d * B) + d → 0 < d
some zero B h = omega arith
some (suc d) B h = zero-lt-suc d

module _ (ks : List Known) (e : Mx) where
  not-far : nat_abs (mean e ks) ≤ far (span e ks)
  not-far = bound ks e (le→leb _ _ (le_refl (far (span e ks))))

  pub fit : T (ltb (far (span e ks)) (2 ^ hbits w64)) → SFits w64 (mean e ks)
  fit t = sfits_abs (lt_of_le_of_lt not-far (ltb→lt _ (2 ^ hbits w64) t))

  -- over d and brought to the nearest, it is at most B
  abbrev Rounds : ℕ → ℕ → Bool
  Rounds d B = ltb (2 * far (span e ks)) (2 * (d * B) + d)

  -- in units that are k of the definitions' own, brought to the nearest d of them: the code's figure j, and its size
  pub rounded : (d k : ℕ) {B : ℕ} {j x : ℤ} → T (ltb 0 k && Rounds d B) → Is k (mean e ks) x → j ≡ nearest (mean e ks) d →
      Figure (d * k) B j (paper.to (d * k) x)
  rounded d k {B} t p q =
      let near = ltb→lt _ (2 * (d * B) + d) (both_right (ltb 0 k) (Rounds d B) t) in
      let size = nearest-bound (mean e ks) (some d B (omega arith)) not-far near in
      record {
        is = same q (rounds d k (ltb→lt 0 k (both_left (ltb 0 k) (Rounds d B) t)) p);
        size = record { size = subst (λ (z : ℤ). nat_abs z ≤ B) (sym q) size };
      }

-- what holds of every entry of a table, and of none, holds at each index
pub entry : {A : Type 0} (p : A → Bool) (d : A) (l : List A) → T (p d) → T (all p l) → (i : ℕ) → T (p (get_or l i d))
entry p d [] h t i = h
entry p d (a ∷ l) h t zero = both_left (p a) (all p l) t
entry p d (a ∷ l) h t (suc i) = entry p d l h (both_right (p a) (all p l) t) i

-- A of formula 25, at any place and at none
pub placed-most : (p : ℕ) → placed p ≤ placed_most
placed-most p = leb→le _ _ (entry (λ a. leb a placed_most) 0 (0 ∷ 326 ∷ 256 ∷ 210 ∷ []) tt tt p)
