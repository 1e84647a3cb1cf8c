-- What a sheet that is kept gives to the formulas. Assumes nothing.
use Prim.Native.Nat.{ℕ}
use mathlib.Core.Path.{◌≡◌, refl, ap, subst}
use native.Mathlib.Nat.{le_trans, lt_of_le_of_lt}
use lib.Dec.{T, leb, leb→le, lit<}
use lib.IntN.{ℤ}
use lib.Signed.{lt_z_yes}
use mir.Syntax.{w64}
use mir.Val.{to_z, of_z}
use mir.Facts.{to_z-of_z}
use Rattle.arith.proofs.Order.{sfits_abs}
use Rattle.sheet.specs.declared.Sheet.{Sheet}
use Rattle.sheet.specs.Firing.{Firing}
use Rattle.sheet.specs.Shown.{firing}
use Rattle.document.specs.Lawful.{Lawful}
use Rattle.formulas.specs.Figures.{Is, Within, Figure}
use Rattle.formulas.specs.Items.{Quantity}
use Rattle.formulas.specs.Sizes.{heat_most}
use Rattle.heat.specs.Balance.{Kept, Heat}
use Rattle.formulas.proofs.Units.{only}

-- its firing is written out field by field, so that the limits are those of the struct's own fields
pub own : {x : Sheet} {f : Firing} → Kept x f → Lawful (firing x f.walls)
own k = subst Lawful k.shows.lines k.rules

-- a field of the firing is that of the struct
pub field : {A : Type 0} {x : Sheet} {f : Firing} → Kept x f → (g : Firing → A) → g f ≡ g (firing x f.walls)
field k g = ap g k.shows.lines

-- in the bits of an i64, as one of all heats: a sum, and a heat
pub summed : {k : ℕ} {m n x y : ℤ} → m ≡ n → x ≡ y → Is k n y → Within heat_most n → Figure k heat_most (to_z w64 (of_z w64 m)) x
summed e d p w = rw (e, d, to_z-of_z (sfits_abs (lt_of_le_of_lt w.size (lit< tt)))) (record { is = p; size = w })

pub laid : {k B : ℕ} {n x : ℤ} → Figure k B n x → T (leb B heat_most) → Figure k heat_most (to_z w64 (of_z w64 n)) x
laid {B = B} p t = summed refl refl p.is (record { size = le_trans p.size.size (leb→le B heat_most t) })

-- no second number of joules is a heat of the firing
pub one_answer : (q : Quantity) (f : Firing) {a b : ℕ} {m n : ℤ} → Heat q f a m → Heat q f b n → m ≡ n
one_answer q f m n = only (lt_z_yes tt) m.is n.is
