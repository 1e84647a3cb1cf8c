-- The stages: what the code's array shows of their rows, on either sheet.
use Rattle.std.specs.Prelude.{ℕ, ◌≤◌, Bool, true, false, List, [], ◌∷◌, ℤ, ◌+ℤ◌, Option, None, Some}
use Rattle.sheet.specs.declared.Analysis.{Analysis}
use Rattle.sheet.specs.declared.Stage.{Stage as Stageˢ}
use Rattle.document.specs.Sheet2.{stage_line_by, staging_by}
use Rattle.document.specs.Schema.{Row, at}
use Rattle.due.specs.declared.Place.{Place}
use Rattle.due.specs.Block.{Filled}
use Rattle.sheet.specs.Blank.{no_analysis, blank_stage}
use Rattle.sheet.specs.Quantities.{stages_most}
use Rattle.document.specs.Entries.{paragraphs_of}
use Rattle.sheet.specs.declared.Stages.{Stages}
use Rattle.due.specs.declared.Heard.{Heard}
use Rattle.due.specs.Said.{Saying, says_all, GroupRead}

-- the struct of a row: what it shows is the row's stage
abbrev pub held_by : Bool → Row → Stageˢ
held_by true r = record {
  gas = record { 0 = at r 0 };
  excess = record { 0 = at r 1 };
  flue = record { 0 = at r 2 };
  co = record { 0 = at r 3 };
  analysis = Some (record { pair = record { 0 = at r 4 }; oxygen = record { 0 = at r 5 } });
  minutes = record { 0 = at r 6 };
}
held_by false r = record {
  gas = record { 0 = at r 0 };
  excess = record { 0 = at r 1 };
  flue = record { 0 = at r 2 };
  co = record { 0 = at r 3 };
  analysis = no_analysis;
  minutes = record { 0 = at r 4 };
}

-- carbon monoxide with what an analyser says besides
abbrev pub dry_sum : ℤ → Option Analysis → ℤ
dry_sum co None = co
dry_sum co (Some a) = co +ℤ a.pair.0 +ℤ a.oxygen.0

-- the code's array holds the rows' structs
abbrev pub itself : Stageˢ → Stageˢ
itself x = x

abbrev pub staging_says : Bool → Stages → List Saying
staging_says flue r = says_all (stage_line_by flue) (Filled itself (held_by flue) blank_stage stages_most r.count.0 r.lines) ∷ []

pub record StagesRead (s : List ℕ) (p : Place) (flue : Bool) (r : Heard Stages) : Type 0 where
  pub after : GroupRead s p (paragraphs_of (staging_by flue)) r.place (staging_says flue r.said)
  pub within : r.said.count.0 ≤ stages_most
