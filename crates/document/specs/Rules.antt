-- Document 01's rules in plain words, without tests: what the rules of a line and of the whole sheet ask.
use Rattle.std.specs.Prelude.{ℕ, ◌+◌, ◌≤◌, ◌≡◌, true, List, [], ◌∷◌, ◌⊎◌, length, ℤ, pos, ◌+ℤ◌, ◌≤ℤ◌, ◌<ℤ◌}
use Rattle.text.specs.Bytes.{bytes}
use Rattle.sheet.specs.Firing.{Stage, Section, Wall}
use Rattle.sheet.specs.Block.{sum, total_gas}
use Rattle.document.specs.Schema.{Row, at}
use Rattle.document.specs.Reader.{Sheet, rows_of}
use Rattle.sheet.specs.Quantities.{gas_total, analysis_most}
use Rattle.document.specs.Tests.{weigh, air_weights}
use Rattle.document.specs.Rows.{edition_in, analysed, stages_in, sections_in, walls_in}

abbrev pub Some : {A : Type 0} → (A → Type 0) → List A → Type 0
Some P [] = ⊥
Some P (x ∷ xs) = P x ⊎ Some P xs

abbrev pub Every : {A : Type 0} → (A → Type 0) → List A → Type 0
Every P [] = Unit {0}
Every P (x ∷ xs) = P x × Every P xs

-- no two of them, of which the first stands later, are R
abbrev pub NoTwo : {A : Type 0} → (A → A → Type 0) → List A → Type 0
NoTwo R [] = Unit {0}
NoTwo R (x ∷ xs) = Every (λ y. ¬ R y x) xs × NoTwo R xs

-- 4: material 0 has a c of its own, and a listed one has none
abbrev pub OwnHeat : ℤ → ℤ → Type 0
OwnHeat material c = ((material ≡ pos 0) × ¬ (c ≡ pos 0)) ⊎ (¬ (material ≡ pos 0) × (c ≡ pos 0))

abbrev pub MaterialKeeps : ℕ → Row → Type 0
MaterialKeeps i row = OwnHeat (at row i) (at row (i + 1))

-- 5: the shares add to 10,000, and theoretical air is above 0
abbrev pub GasKeeps : Row → Type 0
GasKeeps row = (sum (λ z. z) row.numbers ≡ pos 10000) × (pos 0 <ℤ weigh air_weights row.numbers)

-- 14: CO, CO2 with SO2 and O2 are together at most 40 %
abbrev pub AnalysisKeeps : Row → Type 0
AnalysisKeeps row = ¬ (pos analysis_most <ℤ (at row 3 +ℤ at row 4 +ℤ at row 5))

-- 6: no section above has this number
abbrev pub SameNumber : Section → Section → Type 0
SameNumber s x = x.number ≡ s.number

-- 6: the section is listed and the stage is there; 7: not read above; 9: not colder than the air near it
abbrev pub Listed : List Section → Wall → Type 0
Listed sections w = Some (λ x. x.number ≡ w.section) sections

abbrev pub Staged : List Stage → Wall → Type 0
Staged stages w = ¬ (pos (length stages) <ℤ w.stage)

abbrev pub SameReading : Wall → Wall → Type 0
SameReading w r = (r.section ≡ w.section) × (r.stage ≡ w.stage)

abbrev pub Warm : Wall → Type 0
Warm w = ¬ (w.surface <ℤ w.air)

abbrev pub WallKeeps : List Stage → List Section → List Wall → Wall → Type 0
WallKeeps stages sections above w = Listed sections w × (Staged stages w × (¬ Some (SameReading w) above × Warm w))

-- 8: every section is read in every stage, which are numbered from 1
abbrev pub IsRead : List Wall → ℤ → ℤ → Type 0
IsRead walls section stage = Some (λ w. (w.section ≡ section) × (w.stage ≡ stage)) walls

abbrev pub AllRead : List Stage → List Section → List Wall → Type 0
AllRead stages sections walls = Every (λ x. (j : ℕ) → 1 ≤ j → j ≤ length stages → IsRead walls x.number (pos j)) sections

-- 10: the gas of all stages
abbrev pub TotalKeeps : List Stage → Type 0
TotalKeeps stages =
    let total = total_gas stages in
    (gas_total.least ≤ℤ total) × (total ≤ℤ gas_total.greatest)

-- ALL RULES but form and range, in the order of their numbers: what a whole sheet must keep
pub record KeepsRules (sheet : Sheet) : Type 0 where
  pub ware : Every (MaterialKeeps 3) (rows_of (bytes "ware") sheet)  -- 4
  pub setters : Every (MaterialKeeps 2) (rows_of (bytes "setter") sheet)
  pub parts : Every (MaterialKeeps 1) (rows_of (bytes "part") sheet)
  pub gas : Every GasKeeps (rows_of (bytes "gas") sheet)  -- 5
  pub stages : analysed (edition_in sheet) ≡ true → Every AnalysisKeeps (rows_of (bytes "stage") sheet)  -- 14
  pub numbered : NoTwo SameNumber (sections_in sheet)  -- 6
  pub listed : Every (Listed (sections_in sheet)) (walls_in sheet)
  pub staged : Every (Staged (stages_in sheet)) (walls_in sheet)
  pub once : NoTwo SameReading (walls_in sheet)  -- 7
  pub read : AllRead (stages_in sheet) (sections_in sheet) (walls_in sheet)  -- 8
  pub warm : Every Warm (walls_in sheet)  -- 9
  pub total : TotalKeeps (stages_in sheet)  -- 10
