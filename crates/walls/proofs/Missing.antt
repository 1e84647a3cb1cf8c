-- Refusal 8: where no section number stands twice, the i-th section has the i-th row of cells, so that all of them are read exactly where
-- every section has a wall in every stage. Assumes nothing.
use Prim.Native.Nat.{ℕ, suc, ◌-◌, ◌≤◌, ◌<◌}
use native.Mathlib.Omega.{arith}
use mathlib.Core.Path.{◌≡◌, sym, ap₂, ◌∙◌}
use mathlib.Core.List.{List}
use lib.Dec.{le→leb}
use lib.ListN.{length, get_or}
use lib.IntN.{pos}
use Rattle.sheet.specs.declared.SectionReadings.{SectionReadings}
use Rattle.sheet.specs.Firing.{Section, Wall}
use Rattle.sheet.specs.Shown.{no_readings, unread_sections, laid}
use Rattle.sheet.specs.Quantities.{sections_most, stages_most}
use Rattle.document.specs.Rules.{Every}
use Rattle.document.specs.Tests.{all, counted, is_read}
use Rattle.walls.specs.Cells.{read_at, row_read, all_read}
use Rattle.sections.specs.Sections.{Distinct}
use Rattle.sections.proofs.Sections.{before_at}
use Rattle.walls.specs.Cells.{Placed}
use Rattle.walls.proofs.Readings.{laid-read}
use Rattle.walls.proofs.Every.{every-alike, every-listed, every-counted}

module _ (S : List Section) (ws : List Wall) (k : ℕ) (few : length S ≤ sections_most) (short : k ≤ stages_most)
    (D : Distinct S) (ps : Every (Placed S) ws) where
  abbrev cells : List SectionReadings
  cells = laid S unread_sections ws

  -- The cell in the i-th row and the j-th column is that of the i-th section and stage j + 1.
  cell-read :
      (d : Section) (i : ℕ) → i < length S → (j : ℕ) → j < k →
      read_at cells i j ≡ is_read ws (get_or S i d).number (pos (suc j))
  cell-read d i h j less =
      let place = before_at S d i D h in
      let placed : Placed S (wall d i j) = record {
        listed = rw place h;
        staged = record {
          low = record { le = le→leb 1 (suc j) (omega arith) };
          high = record { le = le→leb (suc j) stages_most (omega arith) };
        };
      } in
      let column : j ≡ suc j - 1 = omega arith in
      ap₂ (read_at cells) (sym place) column ∙ laid-read S few (wall d i j) placed ws ps
    where
      wall : Section → ℕ → ℕ → Wall
      wall d i j = record { section = (get_or S i d).number; stage = pos (suc j); surface = pos 0; air = pos 0 }

  pub all-read-is : all_read cells (length S) k ≡ all (λ x. all (is_read ws x.number) (counted k)) S
  unfolding all_read
  all-read-is =
      every-alike _ _ (length S) row ∙ every-listed (λ x. all (is_read ws x.number) (counted k)) none S
    where
      none : Section
      none = record { number = pos 0; place = pos 0; area = pos 0 }

      row : (i : ℕ) → i < length S → row_read (get_or cells i no_readings) k ≡ all (is_read ws (get_or S i none).number) (counted k)
      row i h = every-alike _ _ k (cell-read none i h) ∙ every-counted (is_read ws (get_or S i none).number) k
