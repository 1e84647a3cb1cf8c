-- Document 01, "A whole firing": the report's lines in their order, each figure once, over a way of rounding.
use Rattle.std.specs.Prelude.{ℕ, ◌+◌, ◌*◌, List, [], ◌∷◌, ◌++◌, map, ℤ, pos, nat_abs, ◌*ℤ◌, length}
use Prim.Native.String.{String}
use Rattle.arith.specs.Nearest.{nearest}
use Rattle.text.specs.Bytes.{bytes}
use Rattle.text.specs.Decimal as text
use Rattle.sheet.specs.Firing.{Firing}
use Rattle.formulas.specs.Rounding.{Rounding, paper}
use Rattle.formulas.specs.Formulas.{joule, q1, useful, withset}
use Rattle.formulas.specs.Items.{Quantity, Item, Sides, sides_of, heats, heat_count}

-- a figure: the sheet's firing number, a heat per tonne of ware, or a heat over q1
pub data Figure : Type 0 where
  number : Figure
  heat share : Quantity → Figure

pub record Line : Type 0 where
  pub key : List ℕ
  pub figure : Figure

abbrev pub line : String → Figure → Line
line key x = record { key = bytes key; figure = x }

abbrev pub item_line : Item → Line
item_line i = record { key = i.key; figure = heat i.heat }

abbrev pub shares : List Line
shares = line "eff1" (share useful) ∷ line "eff2" (share withset) ∷ []

unfoldable pub lines : Sides → List Line
lines s = line "firing" number ∷ (map item_line (heats s) ++ shares)

-- how many: the firing's number, the heats and the shares
abbrev pub line_count : Sides → ℕ
line_count s = 1 + heat_count s + length shares

-- A FIGURE BEFORE IT IS PRINTED, as a fraction of whole numbers: kJ per tonne are joules over product kilograms, and the product is in
-- 0.1 kg; a share is in 0.01 %
pub record Fraction : Type 0 where
  pub over : ℤ
  pub under : ℕ

abbrev pub fraction : Firing → Rounding → Figure → Fraction
fraction f r number = record { over = f.number; under = 1 }
fraction f r (heat q) = record { over = q f r *ℤ pos 10; under = joule * nat_abs f.product }
fraction f r (share q) = record { over = q f r *ℤ pos 10000; under = nat_abs (q1 f r) }

-- AS IT IS PRINTED: from the rounded joules, to a whole number
unfoldable pub printed : Firing → Figure → ℤ
printed f x = let a = fraction f paper x in nearest a.over a.under

-- THE REPORT: `key=figure` and LF, for each line
unfoldable pub lines_text : List (List ℕ) → List ℤ → List ℕ
lines_text [] zs = []
lines_text (k ∷ ks) [] = []
lines_text (k ∷ ks) (z ∷ zs) = text.line k z ++ lines_text ks zs

unfoldable pub keys : Sides → List (List ℕ)
keys s = map (λ l. l.key) (lines s)

unfoldable pub figures : Firing → List ℤ
figures f = map (λ l. printed f l.figure) (lines (sides_of f.edition))

unfoldable pub report : Firing → List ℕ
report f = lines_text (keys (sides_of f.edition)) (figures f)

-- THE HEATS THEMSELVES, whole joules of the firing and not for a tonne: `key=joules` and LF, for each
unfoldable pub heat_keys : Sides → List (List ℕ)
heat_keys s = map (λ i. i.key) (heats s)

unfoldable pub joules : Firing → List ℤ
joules f = map (λ i. nearest (i.heat f paper) joule) (heats (sides_of f.edition))

unfoldable pub joules_text : Firing → List ℕ
joules_text f = lines_text (heat_keys (sides_of f.edition)) (joules f)
