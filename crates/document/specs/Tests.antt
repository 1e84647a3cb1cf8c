-- Document 01's rules as tests: what a line must keep beyond form and range, and what the whole sheet must. The plain words are in `Rules`.
use Rattle.std.specs.Prelude.{ℕ, zero, suc, ◌+◌, List, [], ◌∷◌, Bool, true, false, ◌&&◌, ◌||◌, not, length, ℤ, pos, negsuc, ◌+ℤ◌, ◌*ℤ◌}
use Rattle.std.proofs.Math.Option.{Option, none, some}
use Rattle.std.specs.Int.Signed.{lt_z}
use Rattle.sheet.specs.declared.Refusal.{Refusal}
use Rattle.sheet.specs.declared.Refusal.TheVariants.{Material, Shares, SectionTwice, NoSuchWall, ReadTwice, Missing, Colder, GasTotal, Analysis}
use Rattle.sheet.specs.Shown.{same}
use Rattle.sheet.specs.Firing.{Stage, Section, Wall}
use Rattle.sheet.specs.Block.{sum, total_gas}
use Rattle.document.specs.Schema.{at, within}
use Rattle.document.specs.Reader.{Sheet, Rule}
use Rattle.sheet.specs.Quantities.{gas_total, analysis_most}
use Rattle.document.specs.Rows.{section_of, edition_in, stages_in, sections_in, wall_as, walls_in}

abbrev pub any : {A : Type 0} → (A → Bool) → List A → Bool
any f [] = false
any f (x ∷ xs) = f x || any f xs

abbrev pub all : {A : Type 0} → (A → Bool) → List A → Bool
all f [] = true
all f (x ∷ xs) = f x && all f xs

abbrev pub alike : Bool → Bool → Bool
alike true b = b
alike false b = not b

abbrev pub weigh : List ℤ → List ℤ → ℤ
weigh [] zs = pos 0
weigh (w ∷ ws) [] = pos 0
weigh (w ∷ ws) (z ∷ zs) = w *ℤ z +ℤ weigh ws zs

infixr 30 ◌else◌
abbrev pub ◌else◌ : Option Refusal → Option Refusal → Option Refusal
◌else◌ none b = b
◌else◌ (some r) b = some r

abbrev pub when : Bool → Refusal → Option Refusal
when true r = some r
when false r = none

abbrev pub free : Rule
free seen row = none

-- 4: material 0 with c = 0, or material 1..18 with c not 0; the material is the i-th field, c the next
abbrev pub material-rule : ℕ → Rule
material-rule i seen row = when (alike (same (pos 0) (at row i)) (same (pos 0) (at row (i + 1)))) (Material (i + 1))

-- theoretical air, in 0.0238/100 m³ per m³, in the gas line's order
abbrev pub air_weights : List ℤ
air_weights = pos 1 ∷ pos 0 ∷ pos 1 ∷ negsuc 1 ∷ pos 0 ∷ pos 0 ∷ pos 4 ∷ pos 6 ∷ pos 7 ∷ pos 10 ∷ pos 13 ∷ pos 3 ∷ pos 0 ∷ []

-- 5: the shares don't add to 10,000, or theoretical air isn't above 0
abbrev pub gas-rule : Rule
gas-rule seen row = when (not (same (sum (λ z. z) row.numbers) (pos 10000) && lt_z (pos 0) (weigh air_weights row.numbers))) Shares

-- 14: CO, CO2 with SO2 and O2 are together more than dry flue can have
abbrev pub analysis-rule : Rule
analysis-rule seen row = when (lt_z (pos analysis_most) (at row 3 +ℤ at row 4 +ℤ at row 5)) Analysis

-- 6: a section number stands twice
abbrev pub is_listed : List Section → ℤ → Bool
is_listed sections number = any (λ x. same x.number number) sections

abbrev pub section_fault : List Section → Section → Option Refusal
section_fault above x = when (is_listed above x.number) SectionTwice

abbrev pub section-rule : Rule
section-rule seen row = section_fault (sections_in seen) (section_of row)

-- 6: no such section or stage; 7: read already; 9: colder than the air near it
abbrev pub is_read : List Wall → ℤ → ℤ → Bool
is_read walls section stage = any (λ w. same w.section section && same w.stage stage) walls

abbrev pub wall_fault : List Stage → List Section → List Wall → Wall → Option Refusal
wall_fault stages sections above w =
    when (not (is_listed sections w.section)) NoSuchWall
    else when (lt_z (pos (length stages)) w.stage) NoSuchWall
    else when (is_read above w.section w.stage) ReadTwice
    else when (lt_z w.surface w.air) Colder

abbrev pub wall-rule : Rule
wall-rule seen row = wall_fault (stages_in seen) (sections_in seen) (walls_in seen) (wall_as (edition_in seen) row)

-- of the whole sheet: 10, the gas of all stages; 8, a reading for every section in every stage
abbrev pub counted : ℕ → List ℤ
counted zero = []
counted (suc n) = pos (suc n) ∷ counted n

abbrev pub whole_fault : List Stage → List Section → List Wall → Option Refusal
whole_fault stages sections walls =
    when (not (within gas_total (total_gas stages))) GasTotal
    else when (not (all (λ x. all (is_read walls x.number) (counted (length stages))) sections)) Missing

abbrev pub whole-rule : Sheet → Option Refusal
whole-rule s = whole_fault (stages_in s) (sections_in s) (walls_in s)
