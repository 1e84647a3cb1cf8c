-- The cells of the readings, by section and stage: which of them are read, and whether all are.
use Rattle.std.specs.Prelude.{ℕ, ◌<◌, zero, suc, Bool, true, ◌&&◌, List, map, length, get_or, Option}
use Rattle.sheet.specs.declared.Reading.{Reading}
use Rattle.sheet.specs.declared.SectionReadings.{SectionReadings}
use Rattle.sheet.specs.Firing.{Section, Wall}
use Rattle.sheet.specs.Shown.{before, unread, no_readings, was_read, cell}
use Rattle.sheet.specs.Quantities.{stage_number}
use Rattle.document.specs.Lawful.{In}

-- A wall whose section is listed and whose stage is one of twelve.
pub record Placed (S : List Section) (w : Wall) : Type 0 where
  pub listed : before w.section S < length S
  pub staged : In stage_number w.stage

-- the i-th section was read in the j-th stage, both from 0
abbrev pub read_at : List SectionReadings → ℕ → ℕ → Bool
read_at cells i j = was_read (cell cells i j)

-- a test passes at every number below n
unfoldable pub every : (ℕ → Bool) → ℕ → Bool
every f zero = true
every f (suc n) = f n && every f n

-- a section was read in each of the first stages
abbrev pub row_read : SectionReadings → ℕ → Bool
row_read row stages = every (λ j. was_read (get_or row.stages j unread)) stages

-- 8: each of the first sections was read in each of the first stages
unfoldable pub all_read : List SectionReadings → ℕ → ℕ → Bool
all_read cells sections stages = every (λ i. row_read (get_or cells i no_readings) stages) sections

-- the readings of each section, from its row of cells
abbrev pub by_section : List (List (Option Reading)) → List SectionReadings
by_section cells = map (λ row. record { stages = row }) cells
