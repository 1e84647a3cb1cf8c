-- The sums of both sides, from the joules of every heat. Assumes nothing.
use Rattle.std.proofs.Common.{◌≡◌, refl, ap, ◌∙◌, List, [], ◌∷◌, ℤ, ◌+ℤ◌, ◌-ℤ◌}
use mathlib.Core.Path.{ap₂}
use Rattle.arith.proofs.Machine.{Known, Mx, raw, ◌⟨+⟩◌, ◌⟨-⟩◌}
use Rattle.sheet.specs.Firing.{Firing}
use Rattle.formulas.specs.Rounding.{paper}
use Rattle.formulas.specs.Formulas.{useful, withset}
use Rattle.formulas.specs.Items.{x11, heats}
use Rattle.heat.specs.declared.Heats.{Heats}
use Rattle.heat.specs.Balance.{Heated}
use Rattle.formulas.proofs.Units.{plus, minus}
use Rattle.formulas.proofs.Sizes.{within, most, fit}
use Rattle.formulas.proofs.Balance01.{in_is, spent_is}
use Rattle.heat.proofs.Kept.{summed, laid}
use Rattle.heat.proofs.balance.Goals as goal

-- what is known of the heats, and the sums of it
abbrev known : {f : Firing} {h : Heats} → Heated f h → List Known
known h =
    within h.q1.size ∷ within h.q2.size ∷ within h.q3.size ∷ within h.q5.size ∷ within h.q8.size
    ∷ within h.x1.size ∷ within h.x2.size ∷ within h.x3.size ∷ within h.x5.size
    ∷ within h.x7.size ∷ within h.x8.size ∷ within h.x9.size ∷ within h.x10.size ∷ within h.water.size ∷ []

abbrev income : Mx
income = raw 0 ⟨+⟩ raw 1 ⟨+⟩ raw 2 ⟨+⟩ raw 3 ⟨+⟩ raw 4

abbrev solids : Mx
solids = raw 5 ⟨+⟩ raw 6 ⟨+⟩ raw 7 ⟨+⟩ raw 8

abbrev spent : Mx
spent = solids ⟨+⟩ raw 9 ⟨+⟩ raw 10 ⟨+⟩ raw 11 ⟨+⟩ raw 12

abbrev used : Mx
used = raw 13 ⟨+⟩ raw 7 ⟨+⟩ raw 5

-- of the heats of the firing that was asked for
pub plus-requires : goal.plus-requires
plus-requires c = fit (known (c.heats_of-h.ensures _ c.requires.1)) (raw 0 ⟨+⟩ raw 1) tt

pub plus-requires-2 : goal.plus-requires-2
plus-requires-2 c = rw c.plus.ensures (fit (known (c.heats_of-h.ensures _ c.requires.1)) (raw 0 ⟨+⟩ raw 1 ⟨+⟩ raw 2) tt)

pub plus-requires-3 : goal.plus-requires-3
plus-requires-3 c = rw (c.plus-2.ensures, c.plus.ensures) (fit (known (c.heats_of-h.ensures _ c.requires.1)) (raw 0 ⟨+⟩ raw 1 ⟨+⟩ raw 2 ⟨+⟩ raw 3) tt)

pub plus-income-requires : goal.plus-income-requires
plus-income-requires c = rw (c.plus-3.ensures, c.plus-2.ensures, c.plus.ensures) (fit (known (c.heats_of-h.ensures _ c.requires.1)) (income) tt)

pub plus-requires-4 : goal.plus-requires-4
plus-requires-4 c = fit (known (c.heats_of-h.ensures _ c.requires.1)) (raw 5 ⟨+⟩ raw 6) tt

pub plus-requires-5 : goal.plus-requires-5
plus-requires-5 c = rw c.plus-4.ensures (fit (known (c.heats_of-h.ensures _ c.requires.1)) (raw 5 ⟨+⟩ raw 6 ⟨+⟩ raw 7) tt)

pub plus-solids-requires : goal.plus-solids-requires
plus-solids-requires c = rw (c.plus-5.ensures, c.plus-4.ensures) (fit (known (c.heats_of-h.ensures _ c.requires.1)) (solids) tt)

pub plus-requires-6 : goal.plus-requires-6
plus-requires-6 c = rw (c.plus-solids.ensures, c.plus-5.ensures, c.plus-4.ensures) (fit (known (c.heats_of-h.ensures _ c.requires.1)) (solids ⟨+⟩ raw 9) tt)

pub plus-requires-7 : goal.plus-requires-7
plus-requires-7 c = rw (c.plus-6.ensures, c.plus-solids.ensures, c.plus-5.ensures, c.plus-4.ensures) (fit (known (c.heats_of-h.ensures _ c.requires.1)) (solids ⟨+⟩ raw 9 ⟨+⟩ raw 10) tt)

pub plus-requires-8 : goal.plus-requires-8
plus-requires-8 c = rw (c.plus-7.ensures, c.plus-6.ensures, c.plus-solids.ensures, c.plus-5.ensures, c.plus-4.ensures) (fit (known (c.heats_of-h.ensures _ c.requires.1)) (solids ⟨+⟩ raw 9 ⟨+⟩ raw 10 ⟨+⟩ raw 11) tt)

pub plus-spent-requires : goal.plus-spent-requires
plus-spent-requires c = rw (c.plus-8.ensures, c.plus-7.ensures, c.plus-6.ensures, c.plus-solids.ensures, c.plus-5.ensures, c.plus-4.ensures) (fit (known (c.heats_of-h.ensures _ c.requires.1)) (spent) tt)

pub minus-x11-requires : goal.minus-x11-requires
minus-x11-requires c =
    rw (
      c.plus-income.ensures,
      c.plus-3.ensures,
      c.plus-2.ensures,
      c.plus.ensures,
      c.plus-spent.ensures,
      c.plus-8.ensures,
      c.plus-7.ensures,
      c.plus-6.ensures,
      c.plus-solids.ensures,
      c.plus-5.ensures,
      c.plus-4.ensures,
    )
    (fit (known (c.heats_of-h.ensures _ c.requires.1)) (income ⟨-⟩ spent) tt)

pub plus-requires-9 : goal.plus-requires-9
plus-requires-9 c = fit (known (c.heats_of-h.ensures _ c.requires.1)) (raw 13 ⟨+⟩ raw 7) tt

pub plus-useful-requires : goal.plus-useful-requires
plus-useful-requires c = rw c.plus-9.ensures (fit (known (c.heats_of-h.ensures _ c.requires.1)) used tt)

pub plus-withset-requires : goal.plus-withset-requires
plus-withset-requires c = rw (c.plus-useful.ensures, c.plus-9.ensures) (fit (known (c.heats_of-h.ensures _ c.requires.1)) (used ⟨+⟩ raw 8) tt)

-- one heat, and those behind it
infixr 5 ◌&◌
abbrev ◌&◌ : {A B : Type 0} → A → B → A × B
◌&◌ a b = (a, b)

pub returns : goal.returns
unfolding x11 heats useful withset
returns c =
    λ f k.
    let h = c.heats_of-h.ensures f k in
    let ks = known h in
    let d = c.heats_of-h.result in
    let incomes = plus (plus (plus (plus h.q1.is h.q2.is) h.q3.is) h.q5.is) h.q8.is in
    let expenses = plus (plus (plus (plus (plus (plus (plus h.x1.is h.x2.is) h.x3.is) h.x5.is) h.x7.is) h.x8.is) h.x9.is) h.x10.is in
    let uses = plus (plus h.water.is h.x3.is) h.x1.is in
    let all : c.plus-income.result.0 ≡ d.q1.0 +ℤ d.q2.0 +ℤ d.q3.0 +ℤ d.q5.0 +ℤ d.q8.0 =
    rw (c.plus-income.ensures, c.plus-3.ensures, c.plus-2.ensures, c.plus.ensures) refl
    in
    let gone : c.plus-spent.result.0 ≡ d.x1.0 +ℤ d.x2.0 +ℤ d.x3.0 +ℤ d.x5.0 +ℤ d.x7.0 +ℤ d.x8.0 +ℤ d.x9.0 +ℤ d.x10.0 =
    rw (c.plus-spent.ensures, c.plus-8.ensures, c.plus-7.ensures, c.plus-6.ensures, c.plus-solids.ensures, c.plus-5.ensures, c.plus-4.ensures) refl
    in
    let left = c.minus-x11.ensures ∙ ap₂ ◌-ℤ◌ all gone in
    let use_all : c.plus-useful.result.0 ≡ d.water.0 +ℤ d.x3.0 +ℤ d.x1.0 = rw (c.plus-useful.ensures, c.plus-9.ensures) refl in
    let set = c.plus-withset.ensures ∙ ap (λ (z : ℤ). z +ℤ d.x5.0) use_all in
    laid h.q1 tt
    & laid h.q2 tt
    & laid h.q3 tt
    & laid h.q5 tt
    & laid h.q8 tt
    & summed all (in_is f paper) incomes (most ks income tt)
    & laid h.x1 tt
    & laid h.x2 tt
    & laid h.x3 tt
    & laid h.x5 tt
    & laid h.x7 tt
    & laid h.x8 tt
    & laid h.x9 tt
    & laid h.x10 tt
    & summed left (ap₂ ◌-ℤ◌ (in_is f paper) (spent_is f paper)) (minus incomes expenses) (most ks (income ⟨-⟩ spent) tt)
    & summed use_all refl uses (most ks used tt)
    & summed set refl (plus uses h.x5.is) (most ks (used ⟨+⟩ raw 8) tt)
    & tt
