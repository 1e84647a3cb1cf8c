-- The quantities of the sheet: the least and the greatest of each, in the units of document 01, and how much a sheet can hold.
use Rattle.std.specs.Prelude.{ℕ, ℤ, pos, neg_ℤ}

-- A field has a least and a greatest value.
pub record Field : Type 0 where
  pub least : ℤ
  pub greatest : ℤ

-- from a to b, both whole numbers
abbrev pub to : ℕ → ℕ → Field
to a b = record { least = pos a; greatest = pos b }

-- how many lines a block has, where there must be some, and how many it has at most
abbrev pub stages_least : ℕ
stages_least = 1

abbrev pub sections_least : ℕ
sections_least = 1

abbrev pub stages_most : ℕ
stages_most = 12

abbrev pub setters_most : ℕ
setters_most = 32

abbrev pub parts_most : ℕ
parts_most = 32

abbrev pub sections_most : ℕ
sections_most = 12

abbrev pub walls_most : ℕ
walls_most = 48

-- how many gases the shares of a fuel tell of
abbrev pub gases : ℕ
gases = 13

-- how many fields a line has at most: the widest is that of the gases
abbrev pub fields_most : ℕ
fields_most = gases

-- how many bytes a sheet has at most
abbrev pub sheet_most : ℕ
sheet_most = 16384

abbrev pub minus : ℕ → ℕ → Field
minus a b = record { least = neg_ℤ (pos a); greatest = pos b }

abbrev pub edition : Field
edition = to 1 2

abbrev pub closing : Field
closing = to 1 1

abbrev pub firing : Field
firing = to 1 999999999

abbrev pub product : Field
product = to 1000 1000000

abbrev pub ambient : Field
ambient = minus 200 500

abbrev pub heating : Field
heating = to 3000 130000

abbrev pub fuel_temperature : Field
fuel_temperature = to 0 600

abbrev pub share : Field
share = to 0 10000

abbrev pub moisture : Field
moisture = to 0 500

abbrev pub mass : Field
mass = to 0 1000000

abbrev pub temperature : Field
temperature = minus 200 18000

abbrev pub material : Field
material = to 0 18

abbrev pub capacity : Field
capacity = to 0 100000

abbrev pub flue : Field
flue = to 0 12000

abbrev pub cubic_metres : Field
cubic_metres = to 0 200000

abbrev pub excess : Field
excess = to 1000 5000

abbrev pub monoxide : Field
monoxide = to 0 1000

-- of sheet 2: CO2 with SO2, O2, the flue's temperature up to the last row of table A.1, and CO, the pair and O2 together
abbrev pub pair : Field
pair = to 0 2500

abbrev pub oxygen : Field
oxygen = to 0 2100

abbrev pub analysed_flue : Field
analysed_flue = to 0 10000

abbrev pub analysis_most : ℕ
analysis_most = 4000

abbrev pub minutes : Field
minutes = to 1 2880

abbrev pub section_number : Field
section_number = to 1 999

abbrev pub place : Field
place = to 1 3

abbrev pub area : Field
area = to 1 20000

abbrev pub stage_number : Field
stage_number = to 1 stages_most

abbrev pub surface : Field
surface = minus 200 3000

abbrev pub near_air : Field
near_air = minus 200 500

abbrev pub gas_total : Field
gas_total = to 100 200000
