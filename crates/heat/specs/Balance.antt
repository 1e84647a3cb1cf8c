-- What a balance is: every heat of the firing that a sheet shows, in whole joules, and how large it is at most.
use Rattle.std.specs.Prelude.{ℕ, List, [], ◌∷◌, ℤ}
use Rattle.sheet.specs.declared.Sheet.{Sheet}
use Rattle.sheet.specs.Firing.{Firing}
use Rattle.sheet.specs.Shown.{Shows}
use Rattle.document.specs.Lawful.{Lawful}
use Rattle.heat.specs.declared.Heats.{Heats}
use Rattle.formulas.specs.Rounding.{paper}
use Rattle.formulas.specs.Formulas.{joule, q1, q2, q3, q5, q8, x1, x2, x3, x5, x7, x8, x9, x10, water_heat}
use Rattle.formulas.specs.Items.{Quantity, Item, sides_of, heats}
use Rattle.formulas.specs.Figures.{Figure}
use Rattle.formulas.specs.Sizes.{q1_most, q2_most, sensible_most, setters_heat_most, parts_heat_most, x2_most, x3_most, x7_most, x8_most, x9_most}
use Rattle.formulas.specs.Sizes.{water_heat_most, heat_most}

-- the firing is shown by the sheet and keeps every rule: so every section was read in every stage
pub record Kept (x : Sheet) (f : Firing) : Type 0 where
  pub shows : Shows x f
  pub rules : Lawful f

-- n joules are the heat q of the firing f, and they are at most so many
abbrev pub Heat : Quantity → Firing → ℕ → ℤ → Type 0
Heat q f most n = Figure joule most n (q f paper)

-- every heat of the firing
pub record Heated (f : Firing) (r : Heats) : Type 0 where
  pub q1 : Heat q1 f q1_most r.q1.0
  pub q2 : Heat q2 f q2_most r.q2.0
  pub q3 : Heat q3 f setters_heat_most r.q3.0
  pub q5 : Heat q5 f sensible_most r.q5.0
  pub q8 : Heat q8 f parts_heat_most r.q8.0
  pub x1 : Heat x1 f sensible_most r.x1.0
  pub x2 : Heat x2 f x2_most r.x2.0
  pub x3 : Heat x3 f x3_most r.x3.0
  pub x5 : Heat x5 f setters_heat_most r.x5.0
  pub x7 : Heat x7 f x7_most r.x7.0
  pub x8 : Heat x8 f x8_most r.x8.0
  pub x9 : Heat x9 f x9_most r.x9.0
  pub x10 : Heat x10 f parts_heat_most r.x10.0
  pub water : Heat water_heat f water_heat_most r.water.0

-- each item's joules lie in its place, and no heat is greater
abbrev pub Laid : Firing → List Item → List ℤ → Type 0
Laid f [] [] = Unit {0}
Laid f [] (n ∷ ns) = ⊥
Laid f (i ∷ l) [] = ⊥
Laid f (i ∷ l) (n ∷ ns) = Heat i.heat f heat_most n × Laid f l ns

-- THE BALANCE OF A FIRING
abbrev pub Balanced : Firing → List ℤ → Type 0
Balanced f r = Laid f (heats (sides_of f.edition)) r
