-- What the walls ask of the lines above them. Assumes nothing.
use Prim.Native.Nat.{ℕ}
use mathlib.Core.Path.{◌≡◌, refl, sym, ap, ◌∙◌}
use mathlib.Core.Bool.{true, false}
use mathlib.Core.List.{List, [], ◌∷◌, ◌++◌, map}
use lib.ListN.{length, replicate, length-replicate, length-map}
use Rattle.text.specs.Bytes.{bytes}
use Rattle.sheet.specs.Firing.{Section}
use Rattle.document.specs.Schema.{Row, plain}
use Rattle.document.specs.Reader.{Sheet, rows_of, filled}
use Rattle.document.specs.Rows.{section_row, section_of, stage_of, edition_in, stage_as, stages_in}
use Rattle.document.specs.Document01.{stage_line, section_line}
use Rattle.due.specs.declared.Place.{Place}
use Rattle.due.specs.Place.{good, Fair}
use Rattle.sheet.specs.declared.SectionReadings.{SectionReadings}
use Rattle.due.specs.declared.Heard.{Heard}
use Rattle.due.proofs.Above.{rows_other}
use Rattle.walls.specs.Surfaces.{WallsRead}

-- the sections leave the stages as they are
pub stages_stay : (rows : List Row) (seen : Sheet) (k : ℕ) → length (stages_in seen) ≡ k → length (stages_in (seen ++ filled section_line rows)) ≡ k
stages_stay rows seen k e =
    let t = seen ++ filled section_line rows in
    length-map (rows_of (bytes "stage") t) (stage_as (edition_in t))
    ∙ ap (λ (l : List Row). length l) (rows_other (bytes "stage") section_line rows seen refl)
    ∙ sym (length-map (rows_of (bytes "stage") seen) (stage_as (edition_in seen)))
    ∙ e

-- a sheet that has the sections and the number of stages asked for can always be had, so a place passes whatever stands above
abbrev some-sheet : List Section → ℕ → Sheet
some-sheet S k = filled section_line (map section_row S) ++ filled stage_line (replicate k (plain []))

rows_back : (S : List Section) → map section_of (map section_row S) ≡ S
rows_back [] = refl
rows_back (x ∷ S) = ap (λ (l : List Section). x ∷ l) (rows_back S)

pub record Passes (s : List ℕ) (p q : Place) : Type 0 where
  pub passes : good p ≡ false → q ≡ p
  pub fair : good q ≡ true → Fair s q

pub walls_pass : (s : List ℕ) (p : Place) (S : List Section) (k : ℕ) (r : Heard (List SectionReadings)) → WallsRead s p S k r → Passes s p r.place
walls_pass s p S k r h =
    let a = h (some-sheet S k) refl (rows_back S) (length-map (replicate k (plain [])) stage_of ∙ length-replicate k (plain [])) in
    record { passes = a.passes; fair = a.fair }
