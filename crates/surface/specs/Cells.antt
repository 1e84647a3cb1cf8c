-- The readings by section and stage, as the code keeps them, and what its steps ask.
use Rattle.std.specs.Prelude.{ℕ, ◌/◌, ◌≤◌, ◌<◌, ◌≡◌, List, map, ℤ, pos, ◌+ℤ◌, ◌-ℤ◌, ◌*ℤ◌, get_or, take, ◌≤ℤ◌}
use Rattle.std.specs.Int.{w64}
use Rattle.std.proofs.Common.{SFits}
use Rattle.roots.specs.Steps.{side}
use Rattle.sheet.specs.declared.Reading.{Reading}
use Rattle.sheet.specs.declared.SectionReadings.{SectionReadings}
use Rattle.sheet.specs.declared.Sections.{Sections}
use Rattle.sheet.specs.declared.Stages.{Stages}
use Rattle.sheet.specs.Firing.{Stage, Section, Firing}
use Rattle.sheet.specs.Shown.{section, laid, unread_sections}
use Rattle.sheet.specs.Block.{stages_of}
use Rattle.sheet.specs.Quantities.{surface, near_air, walls_most}
use Rattle.document.specs.Lawful.{In, StageIn, SectionIn, Lawful}
use Rattle.formulas.specs.Rounding.{fourth_root}
use Rattle.formulas.specs.Sizes.{warmer_most}

-- ---- steps
pub record RiseIn (p : ℕ) (Δ : ℤ) : Type 0 where
  pub place : p ≤ 3
  pub low : pos 0 ≤ℤ Δ
  pub high : Δ ≤ℤ pos warmer_most

pub record FourthFits (T : ℤ) : Type 0 where
  pub one : SFits w64 (pos 2730 +ℤ T)
  pub two : SFits w64 ((pos 2730 +ℤ T) *ℤ (pos 2730 +ℤ T))
  pub three : SFits w64 ((pos 2730 +ℤ T) *ℤ (pos 2730 +ℤ T) *ℤ (pos 2730 +ℤ T))
  pub four : SFits w64 ((pos 2730 +ℤ T) *ℤ (pos 2730 +ℤ T) *ℤ (pos 2730 +ℤ T) *ℤ (pos 2730 +ℤ T))

pub record HotIn (T T₀ : ℤ) : Type 0 where
  pub surface : In surface T
  pub air : In near_air T₀

pub record DifferenceFits (x y : ℤ) : Type 0 where
  pub difference : SFits w64 (x -ℤ y)
  pub all : SFits w64 (pos 454 *ℤ (x -ℤ y))

pub record LostFits (flux area minutes : ℤ) : Type 0 where
  pub one : SFits w64 (flux *ℤ area)
  pub two : SFits w64 (flux *ℤ area *ℤ minutes)
  pub all : SFits w64 (flux *ℤ area *ℤ minutes *ℤ pos 6)

-- a reading within its limits
pub record ReadingIn (x : Reading) : Type 0 where
  pub surface : In surface x.surface.0
  pub air : In near_air x.air.0
  pub warmer : x.air.0 ≤ℤ x.surface.0

pub record WallIn (x : Reading) (s : Section) : Type 0 where
  pub reading : ReadingIn x
  pub section : SectionIn s

pub record LostIn (x : Reading) (s : Section) (t : Stage) : Type 0 where
  pub wall : WallIn x s
  pub stage : StageIn t

-- ---- fourth roots that are noted down: of a rise, of a group of them. Of what is more than a rise can be nothing is said
pub record Rooted (rise root : ℕ) : Type 0 where
  pub is : rise ≤ warmer_most → root ≡ fourth_root rise

abbrev pub EachRooted : List ℕ → List ℕ → Type 0
EachRooted rises roots = (k : ℕ) → k < side → Rooted (get_or rises k 0) (get_or roots k 0)

-- as many groups as hold every reading of a sheet
abbrev pub groups_most : ℕ
groups_most = walls_most / side

-- ---- cells
-- the firing that sections, stages and readings show; it keeps every rule, so each of its sections was read in each of its stages
pub record Seen (readings : List SectionReadings) (x : Sections) (y : Stages) (f : Firing) : Type 0 where
  pub sections : f.sections ≡ map section (take x.count.0 x.lines)
  pub stages : f.stages ≡ stages_of y
  pub laid : readings ≡ laid f.sections unread_sections f.walls
  pub rules : Lawful f
