-- A figure found from whole joules is the one that the definitions print. Assumes nothing.
use Prim.Native.Nat.{ℕ, zero, suc, ◌+◌, ◌-◌, ◌*◌, ◌<◌}
use mathlib.Core.Path.{◌≡◌, refl, sym, ap, ap₂, ◌∙◌}
use mathlib.Core.List.{List, [], ◌∷◌, ◌++◌, map}
use native.Mathlib.Nat.{mul_comm, lt_of_le_of_lt, le_of_suc-le-suc, not-suc-le-zero}
use native.Mathlib.Numerals.{add-one}
use lib.Dec.{lit<}
use lib.IntN.{ℤ, pos, nat_abs, ◌*ℤ◌}
use lib.ListN.{length, get_or}
use lib.Signed.{◌<ℤ◌, lt_z_yes}
use mir.Syntax.{w64}
use mir.Val.{to_z, of_z}
use mir.Facts.{to_z-of_z}
use Rattle.arith.specs.Nearest.{nearest}
use Rattle.arith.proofs.Int.{one_*ℤ}
use Rattle.arith.proofs.Ring.{v, #, ◌⊗◌, ring}
use Rattle.arith.proofs.Lin.{leq, prd, under}
use Rattle.arith.proofs.Order.{abs-mul, sfits_abs}
use Rattle.arith.proofs.NearestLaws.{nearest-scaled, nearest-exact}
use Rattle.arith.proofs.Machine.{raw, num, ◌⟨*⟩◌}
use Rattle.sheet.specs.Firing.{Firing}
use Rattle.sheet.specs.Block.{total_gas}
use Rattle.document.specs.Lawful.{Lawful}
use Rattle.formulas.specs.Rounding.{paper}
use Rattle.formulas.specs.Formulas.{joule, q1, useful, withset}
use Rattle.formulas.specs.Items.{Quantity, Item, item, shuttle, heats, heat_count}
use Rattle.formulas.specs.Report.{Line, heat, share, item_line, shares, lines, line_count, printed, figures, joules}
use Rattle.formulas.specs.Figures.{Is}
use Rattle.formulas.specs.Sizes.{heat_most}
use Rattle.heat.specs.Balance.{Heat, Laid, Balanced}
use Rattle.formulas.proofs.Units.{units, only}
use Rattle.formulas.proofs.Sizes.{within, fit}
use Rattle.report.specs.Figures.{Divides, Found}

-- so many times a heat is so many times its joules
expanded : {n x : ℤ} (k : ℕ) → Is joule n x → x *ℤ pos k ≡ pos joule *ℤ (n *ℤ pos k)
expanded {n} k p = ap (λ (z : ℤ). z *ℤ pos k) p.is ∙ ring (n ∷ pos joule ∷ pos k ∷ []) (v 0 ⊗ v 1 ⊗ v 2) (v 1 ⊗ (v 0 ⊗ v 2)) tt

over : {n x : ℤ} (k d : ℕ) → Is joule n x → nearest (n *ℤ pos k) d ≡ nearest (x *ℤ pos k) (joule * d)
over {n} k d p = sym (nearest-scaled (n *ℤ pos k) d (lit< tt)) ∙ ap (λ (z : ℤ). nearest z (joule * d)) (sym (expanded k p))

-- the fuel's heat is some
fuel-some : {f : Firing} {B : ℕ} {n : ℤ} → Lawful f → Heat q1 f B n → pos 0 <ℤ n
unfolding q1
fuel-some {f} {n = n} h p =
    let e = only (lt_z_yes tt) p.is (units {n = total_gas f.stages *ℤ f.fuel.heating *ℤ pos 100}) in
    let gas = h.total.low in
    rw e
    (under (total_gas f.stages ∷ f.fuel.heating ∷ []) 0
    (prd (leq 100 (# 100) (v 0)) (leq 1 (# 3000) (v 1)) ∷ leq 300000 (# 100) (v 0) ∷ leq 10000 (# 3000) (v 1) ∷ [])
    (# 0) (v 0 ⊗ v 1 ⊗ # 100) tt (gas, h.heating.low) gas h.heating.low)

product-some : {f : Firing} → Lawful f → pos 0 <ℤ f.product
product-some {f} h = under (f.product ∷ []) 0 (leq 1 (# 1000) (v 0) ∷ []) (# 0) (v 0) tt h.product.low

-- ---- the places of the heats that the efficiencies are formed from, and of these
abbrev pub fuel-at : ℕ
fuel-at = 0

abbrev pub useful-at : ℕ
useful-at = heat_count shuttle - 2

abbrev pub withset-at : ℕ
withset-at = heat_count shuttle - 1

abbrev pub eff1_at : ℕ
eff1_at = line_count shuttle - 2

abbrev pub eff2_at : ℕ
eff2_at = line_count shuttle - 1

-- ---- the heats in their places
no_item : Item
no_item = item "" q1

laid-at : (f : Firing) (l : List Item) (ns : List ℤ) (i : ℕ) → Laid f l ns → i < length l →
    Heat (get_or l i no_item).heat f heat_most (get_or ns i (pos 0))
laid-at f [] ns i p h = absurd (not-suc-le-zero h)
laid-at f (x ∷ l) [] i p h = absurd p
laid-at f (x ∷ l) (n ∷ ns) zero p h = p.0
laid-at f (x ∷ l) (n ∷ ns) (suc i) p h = laid-at f l ns i p.1 (le_of_suc-le-suc h)

-- THEY ARE THOSE THAT ARE PRINTED AS THEY ARE
whole : {n x : ℤ} → Is joule n x → n ≡ nearest x joule
whole {n} p = sym (nearest-exact n (lit< tt)) ∙ ap (λ (z : ℤ). nearest z joule) (ring (n ∷ pos joule ∷ []) (v 1 ⊗ v 0) (v 0 ⊗ v 1) tt ∙ sym p.is)

laid_are : (f : Firing) (l : List Item) (ns : List ℤ) → Laid f l ns → ns ≡ map (λ x. nearest (x.heat f paper) joule) l
laid_are f [] [] p = refl
laid_are f [] (n ∷ ns) p = absurd p
laid_are f (x ∷ l) [] p = absurd p
laid_are f (x ∷ l) (n ∷ ns) p = ap₂ (λ (z : ℤ) (m : List ℤ). z ∷ m) (whole p.0.is) (laid_are f l ns p.1)

pub joules_are : (f : Firing) (ns : List ℤ) → Balanced f ns → ns ≡ joules f
unfolding joules
joules_are f ns p = laid_are f (heats shuttle) ns p

-- and their lines
line_at : (f : Firing) (l : List Item) (m : List Line) (i : ℕ) → i < length l →
    printed f (heat (get_or l i no_item).heat) ≡ get_or (map (λ x. printed f x.figure) (map item_line l ++ m)) i (pos 0)
line_at f [] m i h = absurd (not-suc-le-zero h)
line_at f (x ∷ l) m zero h = refl
line_at f (x ∷ l) m (suc i) h = line_at f l m i (le_of_suc-le-suc h)

module _ {f : Firing} {number product : ℤ} {ns : List ℤ} (p : Found f number product ns) where
  -- the joules in a place, as they are read
  abbrev read_at : ℕ → ℤ
  read_at i = to_z w64 (of_z w64 (get_or ns i (pos 0)))

  read : (i : ℕ) → i < heat_count shuttle → Heat (get_or (heats shuttle) i no_item).heat f heat_most (read_at i)
  unfolding heats
  read i h = let a = laid-at f (heats shuttle) ns i p.balanced h in rw (to_z-of_z (sfits_abs (lt_of_le_of_lt a.size.size (lit< tt)))) a

  fuel : Heat q1 f heat_most (read_at fuel-at)
  unfolding heats
  fuel = read fuel-at (lit< tt)

  -- nothing overflows, and nothing is divided by zero
  pub per_tonne_can : (i : ℕ) → i < heat_count shuttle → Divides 10 (read_at i) product
  per_tonne_can i h = record { fits = fit (within (read i h).size ∷ []) (raw 0 ⟨*⟩ num (pos 10)) tt; some = rw p.is-product (product-some p.rules) }

  pub of-fuel_can : (i : ℕ) → i < heat_count shuttle → Divides 10000 (read_at i) (read_at fuel-at)
  of-fuel_can i h = record { fits = fit (within (read i h).size ∷ []) (raw 0 ⟨*⟩ num (pos 10000)) tt; some = fuel-some p.rules fuel }

  -- the figures
  pub number_is : number ≡ get_or (figures f) 0 (pos 0)
  unfolding figures lines printed
  number_is = p.is_number ∙ sym (nearest-exact f.number (lit< tt)) ∙ ap (λ (z : ℤ). nearest z 1) (one_*ℤ f.number)

  pub per_tonne_is : (i : ℕ) → i < heat_count shuttle → nearest (read_at i *ℤ pos 10) (nat_abs product) ≡ get_or (figures f) (i + 1) (pos 0)
  unfolding figures lines printed heats
  per_tonne_is i h =
      rw add-one
      (ap (λ (z : ℤ). nearest (read_at i *ℤ pos 10) (nat_abs z)) p.is-product
      ∙ over 10 (nat_abs f.product) (read i h).is
      ∙ line_at f (heats shuttle) shares i h)

  of-fuel-is : (q : Quantity) {n : ℤ} → Heat q f heat_most n → nearest (n *ℤ pos 10000) (nat_abs (read_at fuel-at)) ≡ printed f (share q)
  unfolding printed
  of-fuel-is q h =
      let m = read_at fuel-at in
      let e : nat_abs (q1 f paper) ≡ joule * nat_abs m = ap nat_abs fuel.is.is ∙ abs-mul m (pos joule) ∙ mul_comm (nat_abs m) joule in
      over 10000 (nat_abs m) h.is ∙ ap (λ (d : ℕ). nearest (q f paper *ℤ pos 10000) d) (sym e)

  pub eff1_is : nearest (read_at useful-at *ℤ pos 10000) (nat_abs (read_at fuel-at)) ≡ get_or (figures f) eff1_at (pos 0)
  unfolding figures lines heats
  eff1_is = of-fuel-is useful (read useful-at (lit< tt))

  pub eff2_is : nearest (read_at withset-at *ℤ pos 10000) (nat_abs (read_at fuel-at)) ≡ get_or (figures f) eff2_at (pos 0)
  unfolding figures lines heats
  eff2_is = of-fuel-is withset (read withset-at (lit< tt))

-- one for each line
pub figures-long : (f : Firing) → length (figures f) ≡ line_count shuttle
unfolding figures lines heats
figures-long f = refl
