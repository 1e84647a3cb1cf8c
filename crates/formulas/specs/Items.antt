-- The two sides of a balance, (31), as lists of items: an item is a key of the report and its heat. The edition of the sheet chooses them.
use Rattle.std.specs.Prelude.{ℕ, ◌+◌, List, [], ◌∷◌, ◌++◌, ℤ, ◌-ℤ◌, length}
use Prim.Native.String.{String}
use Rattle.text.specs.Bytes.{bytes}
use Rattle.sheet.specs.Firing.{Firing}
use Rattle.sheet.specs.Block.{sum}
use Rattle.formulas.specs.Rounding.{Rounding}
use Rattle.formulas.specs.Formulas.{q1, q2, q3, q5, q8, x1, x2, x3, x5, x7, x8, x9, x10, useful, withset}

abbrev pub Quantity : Type 0
Quantity = Firing → Rounding → ℤ

pub record Item : Type 0 where
  pub key : List ℕ
  pub heat : Quantity

abbrev pub item : String → Quantity → Item
item key q = record { key = bytes key; heat = q }

pub record Sides : Type 0 where
  pub incomes : List Item
  pub expenses : List Item

-- document 01, a shuttle kiln
abbrev pub shuttle : Sides
shuttle = record {
  incomes = item "q1" q1 ∷ item "q2" q2 ∷ item "q3" q3 ∷ item "q5" q5 ∷ item "q8" q8 ∷ [];
  expenses = item "x1" x1 ∷ item "x2" x2 ∷ item "x3" x3 ∷ item "x5" x5 ∷ item "x7" x7 ∷ item "x8" x8 ∷ item "x9" x9 ∷ item "x10" x10 ∷ [];
}

-- the sides of a sheet's edition, of which there is one
abbrev pub sides_of : ℤ → Sides
sides_of edition = shuttle

unfoldable pub total : List Item → Quantity
total l f r = sum (λ i. i.heat f r) l

-- what neither side accounts for
unfoldable pub x11 : Sides → Quantity
x11 s f r = total s.incomes f r -ℤ total s.expenses f r

-- EVERY HEAT OF A BALANCE, in the report's order
unfoldable pub heats : Sides → List Item
heats s = s.incomes ++ (item "in" (total s.incomes) ∷ (s.expenses ++ (item "x11" (x11 s) ∷ item "useful" useful ∷ item "withset" withset ∷ [])))

-- how many: the items of both sides, and `in`, `x11`, `useful`, `withset`
abbrev pub heat_count : Sides → ℕ
heat_count s = length s.incomes + length s.expenses + 4
