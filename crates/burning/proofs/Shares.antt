-- Sums of the shares of a fuel by a column of table A.1: one gas more, the formulas of document 01 as columns, and the size of a column's
-- sum, which is at most its largest weight for each share. Assumes nothing.
use Prim.Native.Nat.{ℕ, zero, suc, ◌+◌, ◌*◌, ◌^◌, ◌≤◌, ◌<◌}
use mathlib.Core.Path.{◌≡◌, refl, sym, ap, ap₂, ◌∙◌, subst}
use mathlib.Core.Bool.{Bool, true, false, ◌&&◌}
use mathlib.Core.List.{List, [], ◌∷◌, map}
use native.Mathlib.Nat.{mul-le-mul, le_refl, le_of_suc-le-suc, not-suc-le-zero}
use native.Mathlib.Numerals.{add-one}
use native.Mathlib.Decide.{dec_le}
use native.Mathlib.Omega.{arith}
use lib.Dec.{T, leb, leb→le, le→leb, ltb, ltb→lt}
use lib.IntN.{ℤ, pos, nat_abs, ◌+ℤ◌, ◌-ℤ◌, ◌*ℤ◌}
use lib.Seq.{take_all}
use mathlib.Core.Logic.{◌⊎◌, inl, inr}
use Rattle.std.proofs.Common.{length-drop}
use lib.ListN.{length, get_or, take, drop, get_or-map, length-map}
use mir.Syntax.{w64}
use mir.Val.{hbits}
use Rattle.quantity.specs.declared.gas.Share.{Share}
use Rattle.sheet.specs.Firing.{Gas}
use Rattle.sheet.specs.Shown.{gas}
use Rattle.sheet.specs.Block.{sum}
use Rattle.arith.proofs.Ring.{Ex, v, lit, #, ◌⊕◌, ◌⊖◌, ◌⊗◌, ring, both_left, both_right}
use Rattle.arith.proofs.Order.{abs-add, abs-mul, abs-pos, bound-add, bound-mul, sfits_abs}
use Rattle.sheet.specs.Quantities.{share, gases}
use Rattle.document.proofs.Lists.{every-at}
use Rattle.document.specs.Tests.{weigh, all, air_weights}
use Rattle.document.specs.Rules.{Every}
use Rattle.document.specs.Rows.{gas_row}
use Rattle.document.specs.Lawful.{In, GasIn}
use Rattle.formulas.specs.Tables.{GasHeat, between, table_a1}
use Rattle.formulas.specs.Formulas.{mixed_heat, theoretical_air, dry_of_gas, vapour_of_gas, of_gas}
use Rattle.formulas.specs.Figures.{Within}
use Rattle.formulas.specs.Sizes.{greatest}
use Rattle.burning.specs.declared.mixture.Kind.{Kind}
use Rattle.burning.specs.Kinds.{flow, kind, kinds}
use Rattle.burning.specs.Mixture.{Fits}
use Rattle.formulas.proofs.Sizes.{sized, entry}

-- ---- one gas more
weigh-next : (ws zs : List ℤ) (i : ℕ) → i < length ws → i < length zs →
    weigh (take (suc i) ws) zs ≡ weigh (take i ws) zs +ℤ get_or ws i (pos 0) *ℤ get_or zs i (pos 0)
weigh-next [] zs i h k = absurd (not-suc-le-zero h)
weigh-next (w ∷ ws) [] i h k = absurd (not-suc-le-zero k)
weigh-next (w ∷ ws) (z ∷ zs) zero h k = ring (w ∷ z ∷ []) (v 0 ⊗ v 1 ⊕ # 0) (# 0 ⊕ v 0 ⊗ v 1) tt
weigh-next (w ∷ ws) (z ∷ zs) (suc i) h k =
    ap (λ (x : ℤ). w *ℤ z +ℤ x) (weigh-next ws zs i (le_of_suc-le-suc h) (le_of_suc-le-suc k))
    ∙ ring (w ∷ z ∷ weigh (take i ws) zs ∷ get_or ws i (pos 0) ∷ get_or zs i (pos 0) ∷ []) (v 0 ⊗ v 1 ⊕ (v 2 ⊕ v 3 ⊗ v 4)) (v 0 ⊗ v 1 ⊕ v 2 ⊕ v 3 ⊗ v 4) tt

-- ---- the i-th share and the i-th gas
abbrev pub none : Share
none = record { 0 = pos 0 }

-- what holds of each number below n, written out
abbrev Below : (ℕ → Type 0) → ℕ → Type 0
Below P zero = Unit {0}
Below P (suc n) = P n × Below P n

below_at : (P : ℕ → Type 0) (n i : ℕ) → Below P n → i < n → P i
below_at P zero i p h = absurd (not-suc-le-zero h)
below_at P (suc n) i p h = go (dec_le n i) (λ k. below_at P n i p.1 k)
  where
    go : Dec (n ≤ i) → (i < n → P i) → P i
    go (yes g) rest = let e : i ≡ n = omega arith in rw e p.0
    go (no f) rest = rest (omega arith)

pub share-at : (l : List Share) (i : ℕ) → i < gases → get_or (gas_row (gas l)).numbers i (pos 0) ≡ (get_or l i none).0
share-at l i h =
    below_at (λ j. get_or (gas_row (gas l)).numbers j (pos 0) ≡ get_or (map (λ x. x.0) l) j (pos 0)) gases i
    (refl, (refl, (refl, (refl, (refl, (refl, (refl, (refl, (refl, (refl, (refl, (refl, (refl, tt)))))))))))))
    h
    ∙ get_or-map (λ x. x.0) l i none

abbrev no_kind : Kind
no_kind = kind (between 0 0) (flow (pos 0) 0 0)

abbrev pub kind_at : ℕ → Kind
kind_at i = get_or kinds i no_kind

-- ---- both columns side by side: what is left of the gases and of the shares after the first i of them
pub record Left (l : List Share) (ks : List Kind) (ss : List Share) (i : ℕ) : Type 0 where
  pub gases-left : ks ≡ drop i kinds
  pub shares-left : ss ≡ drop i l

lies_at : {A : Type 0} (l : List A) (i : ℕ) (d x : A) (r : List A) → drop i l ≡ x ∷ r → (i < length l) × (get_or l i d ≡ x) × (r ≡ drop (suc i) l)
lies_at [] zero d x r e = cc
lies_at [] (suc i) d x r e = cc
lies_at (a ∷ l) zero d x r e = let f : a ≡ x = cc in let g : r ≡ l = cc in (omega arith, f, g)
lies_at (a ∷ l) (suc i) d x r e = let p = lies_at l i d x r e in (omega (arith, p.0), p.1, p.2)

pub turned : (l : List Share) (i : ℕ) {ks ks' : List Kind} {ss ss' : List Share} {k : Kind} {s : Share} → Left l ks ss i → ks ≡ k ∷ ks' → ss ≡ s ∷ ss'
    → (i < gases) × (kind_at i ≡ k) × (get_or l i none ≡ s) × Left l ks' ss' (i + 1)
turned l i h e f =
    let p = lies_at kinds i no_kind _ _ (sym h.gases-left ∙ e) in
    let q = lies_at l i none _ _ (sym h.shares-left ∙ f) in
    (p.0, p.1, q.1, record { gases-left = rw (add-one i) p.2; shares-left = rw (add-one i) q.2 })

-- no gas is left, or no share
pub all-turned : (l : List Share) (i : ℕ) {ks : List Kind} {ss : List Share} → length l ≡ gases → Left l ks ss i → (length ks ≡ 0) ⊎ (length ss ≡ 0) → gases ≤ i
all-turned l i long h (inl e) = omega (arith, length-drop i kinds, ap length h.gases-left, e)
all-turned l i long h (inr e) = omega (arith, length-drop i l, ap length h.shares-left, e)

-- ---- the formulas as columns
-- the sum of a column, over the shares as variables
abbrev column : List ℤ → ℕ → Ex
column [] i = # 0
column (w ∷ ws) i = lit w ⊗ v i ⊕ column ws (suc i)

abbrev pub airs : List ℤ
airs = map (λ k. k.air) kinds

abbrev pub dries : List ℤ
dries = map (λ k. k.dry) kinds

abbrev pub vapours : List ℤ
vapours = map (λ k. k.vapour) kinds

abbrev pub colds : List ℤ
colds = map (λ k. k.cold) kinds

abbrev pub rises : List ℤ
rises = map (λ k. k.hot -ℤ k.cold) kinds

-- c at T, of a gas
abbrev heat_at : ℤ → GasHeat → ℤ
heat_at T₁ k = k.cold *ℤ pos 1000 +ℤ (k.hot -ℤ k.cold) *ℤ T₁

module _ (g : Gas) where
  abbrev pub shares : List ℤ
  shares = (gas_row g).numbers

  abbrev air_ex : Ex
  air_ex = # 238 ⊗ (v 2 ⊕ v 0) ⊕ # 952 ⊗ v 6 ⊕ # 238 ⊗ (# 6 ⊗ v 7 ⊕ # 7 ⊗ v 8 ⊕ # 10 ⊗ v 9 ⊕ # 13 ⊗ v 10) ⊕ # 714 ⊗ v 11 ⊖ # 476 ⊗ v 3

  pub air-is : weigh airs shares ≡ (of_gas g).air
  unfolding of_gas theoretical_air
  air-is = ring shares (column airs 0) air_ex tt

  -- the same weights as refusal 5 has
  pub air_weights_lem : theoretical_air g ≡ pos 238 *ℤ weigh air_weights shares
  unfolding theoretical_air
  air_weights_lem = ring shares air_ex (# 238 ⊗ column air_weights 0) tt

  pub dry-is : weigh dries shares ≡ (of_gas g).dry
  unfolding of_gas dry_of_gas
  dry-is = ring shares (column dries 0) ((v 2 ⊕ v 6 ⊕ (# 2 ⊗ v 7 ⊕ # 2 ⊗ v 8 ⊕ # 3 ⊗ v 9 ⊕ # 4 ⊗ v 10) ⊕ v 1 ⊕ v 5 ⊕ v 11 ⊕ v 12) ⊗ # (10 ^ 5)) tt

  pub vapour-is : weigh vapours shares ≡ (of_gas g).vapour
  unfolding of_gas vapour_of_gas
  vapour-is = ring shares (column vapours 0) ((v 0 ⊕ # 2 ⊗ v 6 ⊕ (# 2 ⊗ v 7 ⊕ # 3 ⊗ v 8 ⊕ # 4 ⊗ v 9 ⊕ # 5 ⊗ v 10) ⊕ v 11 ⊕ v 4) ⊗ # (45 * 10 ^ 12)) tt

  pub heat-is : (T₁ : ℤ) → weigh colds shares *ℤ pos 1000 +ℤ weigh rises shares *ℤ T₁ ≡ mixed_heat g T₁
  unfolding mixed_heat
  heat-is T₁ = sym (split table_a1 shares T₁)
    where
      split : (l : List GasHeat) (zs : List ℤ) (t : ℤ) →
          weigh (map (heat_at t) l) zs ≡ weigh (map (λ k. k.cold) l) zs *ℤ pos 1000 +ℤ weigh (map (λ k. k.hot -ℤ k.cold) l) zs *ℤ t
      split [] zs t = ring (t ∷ []) (# 0) (# 0 ⊗ # 1000 ⊕ # 0 ⊗ v 0) tt
      split (k ∷ l) [] t = ring (t ∷ []) (# 0) (# 0 ⊗ # 1000 ⊕ # 0 ⊗ v 0) tt
      split (k ∷ l) (z ∷ zs) t =
          ap (λ (x : ℤ). heat_at t k *ℤ z +ℤ x) (split l zs t)
          ∙ ring (k.cold ∷ k.hot ∷ z ∷ t ∷ weigh (map (λ j. j.cold) l) zs ∷ weigh (map (λ j. j.hot -ℤ j.cold) l) zs ∷ [])
          ((v 0 ⊗ # 1000 ⊕ (v 1 ⊖ v 0) ⊗ v 3) ⊗ v 2 ⊕ (v 4 ⊗ # 1000 ⊕ v 5 ⊗ v 3))
          ((v 0 ⊗ v 2 ⊕ v 4) ⊗ # 1000 ⊕ ((v 1 ⊖ v 0) ⊗ v 2 ⊕ v 5) ⊗ v 3) tt

-- ---- sizes
total : List ℤ → ℕ
total [] = 0
total (z ∷ zs) = nat_abs z + total zs

total-is : (zs : List ℤ) → Every (In share) zs → pos (total zs) ≡ sum (λ z. z) zs
unfolding total sum
total-is [] h = refl
total-is (z ∷ zs) h = ap₂ ◌+ℤ◌ (abs-pos h.0.low) (total-is zs h.1)

both_in : (a b : Bool) → T a → T b → T (a && b)
both_in true b s t = t
both_in false b s t = absurd s

-- at most W for each share, for the first gases too
module _ (W : ℕ) where
  abbrev pub light : ℤ → Bool
  light w = leb (nat_abs w) W

  first-light : (ws : List ℤ) (i : ℕ) → T (all light ws) → T (all light (take i ws))
  first-light [] zero t = tt
  first-light [] (suc i) t = tt
  first-light (w ∷ ws) zero t = tt
  first-light (w ∷ ws) (suc i) t =
      let rest = first-light ws i (both_right (light w) (all light ws) t) in
      both_in (light w) (all light (take i ws)) (both_left (light w) (all light ws) t) rest

  weigh-total : (ws zs : List ℤ) → T (all light ws) → nat_abs (weigh ws zs) ≤ W * total zs
  unfolding total
  weigh-total [] zs t = omega arith
  weigh-total (w ∷ ws) [] t = omega arith
  weigh-total (w ∷ ws) (z ∷ zs) t =
      let a : nat_abs w * nat_abs z ≤ W * nat_abs z = mul-le-mul (leb→le _ _ (both_left (light w) (all light ws) t)) (le_refl (nat_abs z)) in
      omega (arith, abs-add (w *ℤ z) (weigh ws zs), abs-mul w z, weigh-total ws zs (both_right (light w) (all light ws) t))

  pub weigh-size : {g : Gas} (ws : List ℤ) (i : ℕ) → GasIn g → T (all light ws) → Within (W * greatest share) (weigh (take i ws) (gas_row g).numbers)
  weigh-size {g} ws i h t =
      let e : total (gas_row g).numbers ≡ greatest share = ap nat_abs (total-is (gas_row g).numbers h.each ∙ h.sum) in
      record { size = rw e at (weigh-total (take i ws) (gas_row g).numbers (first-light ws i t)) }

-- ---- a column of the table, summed over the first gases
abbrev pub so_far : (Kind → ℤ) → List Share → ℕ → ℤ
so_far f l i = weigh (take i (map f kinds)) (shares (gas l))

pub so_far-all : (f : Kind → ℤ) (l : List Share) (i : ℕ) → gases ≤ i → so_far f l i ≡ so_far f l gases
so_far-all f l i h =
    let long : length (map f kinds) ≤ i = omega (arith, length-map kinds f) in
    ap (λ (ws : List ℤ). weigh ws (shares (gas l))) (take_all i (map f kinds) long)

module _ (f : Kind → ℤ) (z : f no_kind ≡ pos 0) (l : List Share) (i : ℕ) (h : i < gases) where
  weight-at : get_or (map f kinds) i (pos 0) ≡ f (kind_at i)
  weight-at = subst (λ (d : ℤ). get_or (map f kinds) i d ≡ f (kind_at i)) z (get_or-map f kinds i no_kind)

  pub column-size : (W : ℕ) → T (all (light W) (map f kinds)) → nat_abs (f (kind_at i)) ≤ W
  column-size W t =
      let here = entry (light W) (pos 0) (map f kinds) (le→leb 0 W (omega arith)) t i in
      subst (λ (x : ℤ). nat_abs x ≤ W) weight-at (leb→le _ _ here)

  -- the sum so far, and with this gas
  module _ {sum : ℤ} (e : sum ≡ so_far f l i) where
    pub column-next : {next : ℤ} → next ≡ sum +ℤ f (kind_at i) *ℤ (get_or l i none).0 → next ≡ so_far f l (i + 1)
    column-next d =
        d
        ∙ ap (λ (x : ℤ). x +ℤ f (kind_at i) *ℤ (get_or l i none).0) e
        ∙ sym (ap₂ (λ (w s : ℤ). so_far f l i +ℤ w *ℤ s) weight-at (share-at l i h))
        ∙ sym (weigh-next (map f kinds) (shares (gas l)) i h h)
        ∙ ap (so_far f l) (sym (add-one i))

    pub column_fits : (W : ℕ) → GasIn (gas l) → T (all (light W) (map f kinds)) → T (ltb (W * (2 * greatest share)) (2 ^ hbits w64)) →
        Fits sum (f (kind_at i)) (get_or l i none).0
    column_fits W g t u =
        let share_in = every-at (In share) (shares (gas l)) i (pos 0) g.each h in
        let s : nat_abs (get_or l i none).0 ≤ greatest share = subst (λ (x : ℤ). nat_abs x ≤ greatest share) (share-at l i h) (sized share_in tt).size in
        let one = bound-mul (f (kind_at i)) (get_or l i none).0 (column-size W t) s in
        let all = bound-add (so_far f l i) (f (kind_at i) *ℤ (get_or l i none).0) (weigh-size W (map f kinds) i g t).size one in
        let room : W * (2 * greatest share) < 2 ^ hbits w64 = ltb→lt _ _ u in
        rw e (record { one = sfits_abs (omega arith); all = sfits_abs (omega arith) })
