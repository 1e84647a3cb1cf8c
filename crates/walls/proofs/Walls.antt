-- One wall line more: its rules, and its reading in its cell. Assumes nothing.
use Prim.Native.Nat.{ℕ, ◌+◌, ◌≤◌}
use mathlib.Core.Path.{◌≡◌, refl, sym, ap, ap₂, ◌∙◌, subst}
use mathlib.Core.Bool.{Bool, true, false, ◌&&◌}
use mathlib.Core.List.{List, [], ◌∷◌, ◌++◌, map, map-append}
use mathlib.Core.Option.{Option}
use native.Mathlib.Numerals.{add-one}
use lib.ListN.{length, get_or, set, length-map, get_or-map}
use lib.Signed.{lt_z}
use Rattle.std.specs.Prelude.{Option as Cell}
use Rattle.sheet.specs.declared.Reading.{Reading}
use Rattle.sheet.specs.declared.SectionReadings.{SectionReadings}
use Rattle.sheet.specs.declared.Refusal.{Refusal}
use Rattle.sheet.specs.declared.Refusal.TheVariants.{ReadTwice, Colder}
use Rattle.sheet.specs.Firing.{Section, Wall}
use Rattle.sheet.specs.Shown.{before, column, reading, cell, lay, laid, unread, no_readings, unread_sections, was_read}
use Rattle.sheet.specs.Quantities.{sections_most}
use Rattle.text.specs.Bytes.{bytes}
use Rattle.document.specs.Schema.{Row}
use Rattle.document.specs.Tests.{when, ◌else◌, is_read, wall-rule}
use Rattle.document.specs.Document01.{wall_line}
use Rattle.document.specs.Reader.{Sheet, Reader, filled, rows_of, read_line, read_rows}
use Rattle.document.specs.Rows.{edition_in, stage_as, section_of, wall_of, stages_in, sections_in, walls_in}
use Rattle.due.specs.declared.Place.{Place}
use Rattle.due.specs.Place.{good, Fair, After, ruled}
use Rattle.due.specs.Block.{lacks}
use Rattle.due.proofs.Above.{rows-here, rows_other}
use Rattle.due.proofs.Lines.{Kept, ruled-after, rule_as, not_good, good_test}
use Rattle.due.proofs.Places.{after_weaker, after-refused}
use Rattle.due.proofs.Sequence.{block_more}
use Rattle.sections.proofs.Mapped.{set-map}
use Rattle.walls.specs.declared.rows.NamedWall.{NamedWall}
use Rattle.walls.specs.Cells.{Placed, read_at, by_section}
use Rattle.walls.specs.Walls.{wall, six, Named, WallsShown}
use Rattle.walls.proofs.Readings.{laid-read, laid_more, placed-more}
use Rattle.walls.proofs.Rulings.{seven, nine, in_order, fault_is}
use Rattle.due.specs.declared.Heard.{Heard}

-- the cells with the line's reading in its own
abbrev pub stored : Heard NamedWall → List SectionReadings → List SectionReadings
stored r cells = lay cells r.said.row (column (wall r.said.wall)) (reading (wall r.said.wall))

-- whether that cell was read
abbrev seen_in : Heard NamedWall → List SectionReadings → Bool
seen_in r cells = read_at cells r.said.row (column (wall r.said.wall))

-- the place after rules 7 and 9, by what lies in the line's cell
abbrev settled_by : ℕ → Heard NamedWall → Cell Reading → Place
settled_by n r there = ruled n (ruled n r.place (was_read there) ReadTwice) (lt_z r.said.wall.surface.0 r.said.wall.air.0) Colder

abbrev pub settled : ℕ → Heard NamedWall → List SectionReadings → Place
settled n r cells = settled_by n r (cell cells r.said.row (column (wall r.said.wall)))

-- CELLS IN ROWS: the code lays the readings into rows of cells, which become the sections' readings at the end.
module _ (rows : List (List (Cell Reading))) where
  row_at : (i : ℕ) → get_or (by_section rows) i no_readings ≡ record { stages = get_or rows i [] }
  row_at i = get_or-map (λ row. record { stages = row }) rows i []

  -- A reading laid into a row's cell is laid into its section's.
  pub lay-row : (i j : ℕ) (x : Cell Reading) → by_section (set rows i (set (get_or rows i []) j x)) ≡ lay (by_section rows) i j x
  lay-row i j x =
      sym (set-map (λ row. record { stages = row }) rows i (set (get_or rows i []) j x))
      ∙ ap (λ (row : SectionReadings). set (by_section rows) i (record { stages = set row.stages j x })) (sym (row_at i))

  -- The place by what lies in the row's cell.
  pub settled-row : (n : ℕ) (r : Heard NamedWall) (q : Place) → q ≡ settled_by n r (get_or (get_or rows r.said.row []) (column (wall r.said.wall)) unread)
      → q ≡ settled n r (by_section rows)
  settled-row n r q e = e ∙ ap (λ (row : SectionReadings). settled_by n r (get_or row.stages (column (wall r.said.wall)) unread)) (sym (row_at r.said.row))

settled-passes : (n : ℕ) (r : Heard NamedWall) (cells : List SectionReadings) → good r.place ≡ false → settled n r cells ≡ r.place
settled-passes n r cells h =
    let once = ruled n r.place (seen_in r cells) ReadTwice in
    let e = not_good n r.place ReadTwice (good r.place) (seen_in r cells) h in
    not_good n once Colder (good once) (lt_z r.said.wall.surface.0 r.said.wall.air.0) (ap (λ (y : Place). good y) e ∙ h) ∙ e

pub settled-fair : {s : List ℕ} (n : ℕ) (r : Heard NamedWall) (cells : List SectionReadings) → (good r.place ≡ true → Fair s r.place)
    → good (settled n r cells) ≡ true → Fair s (settled n r cells)
settled-fair {s} n r cells f =
    let read = seen_in r cells in
    let once = ruled n r.place read ReadTwice in
    good_test n once Colder s (good once && lt_z r.said.wall.surface.0 r.said.wall.air.0) (good_test n r.place ReadTwice s (good r.place && read) f)

agree : {S S' : List Section} {k k' : ℕ} {ws ws' : List Wall} (x : Wall) → S ≡ S' → k ≡ k' → ws ≡ ws' → in_order S k ws x ≡ in_order S' k' ws' x
agree x p q r = rw (p, q, r)

module _ (s : List ℕ) (S : List Section) (k : ℕ) (few : length S ≤ sections_most) (seen : Sheet) (none_yet : lacks (bytes "wall") seen ≡ true)
    (above : sections_in seen ≡ S) (so-many : length (stages_in seen) ≡ k) where
  -- document 01's rule at a row, with the rows above it
  rule-is : (rows : List Row) (row : Row) → in_order S k (map wall_of rows) (wall_of row) ≡ wall-rule (seen ++ filled wall_line rows) row
  rule-is rows row =
      let here = seen ++ filled wall_line rows in
      let S-is : sections_in here ≡ S = ap (map section_of) (rows_other (bytes "section") wall_line rows seen refl) ∙ above in
      let k-is : length (stages_in here) ≡ k =
      length-map (rows_of (bytes "stage") here) (stage_as (edition_in here))
      ∙ ap (λ (x : List Row). length x) (rows_other (bytes "stage") wall_line rows seen refl)
      ∙ sym (length-map (rows_of (bytes "stage") seen) (stage_as (edition_in seen)))
      ∙ so-many in
      let walls-are : walls_in here ≡ map wall_of rows = ap (map wall_of) (rows-here wall_line rows seen none_yet) in
      sym (fault_is (stages_in here) (sections_in here) (walls_in here) (wall_of row) ∙ agree (wall_of row) S-is k-is walls-are)

  module _ (cells : List SectionReadings) (rows : List Row) (shown : WallsShown S cells rows) (r : Heard NamedWall) where
    -- 7 by the cell
    read_is : (row : Row) → Named S r row → is_read (map wall_of rows) (wall_of row).section (wall_of row).stage ≡ seen_in r cells
    read_is row h =
        ap (λ (x : Wall). is_read (map wall_of rows) x.section x.stage) (sym h.shown)
        ∙ sym (laid-read S few (wall r.said.wall) h.placed (map wall_of rows) shown.placed)
        ∙ ap₂ (λ (c : List SectionReadings) (i : ℕ). read_at c i (column (wall r.said.wall))) (sym shown.lie) (sym h.here)

    -- the reading in its cell
    wall-shown : (row : Row) → Named S r row → WallsShown S (stored r cells) (rows ++ (row ∷ []))
    wall-shown row h =
        let one = map-append wall_of rows (row ∷ []) in
        record {
          lie =
              ap (λ (i : ℕ). lay cells i (column (wall r.said.wall)) (reading (wall r.said.wall))) h.here
              ∙ ap₂ (λ (c : List SectionReadings) (x : Wall). lay c (before x.section S) (column x) (reading x)) shown.lie h.shown
              ∙ sym (laid_more S unread_sections (map wall_of rows) (wall_of row)) ∙ ap (laid S unread_sections) (sym one);
          placed = rw one (placed-more S (map wall_of rows) (wall_of row) shown.placed (subst (Placed S) h.shown h.placed));
        }

    -- rules 7 and 9 after rule 6
    ruled-wall : (q : Place) → After s q (read_line wall_line (λ row. six S k (wall_of row))) r.place (Named S r)
        → After s q (read_line wall_line (wall-rule (seen ++ filled wall_line rows))) (settled q.line r cells)
        (λ row. WallsShown S (stored r cells) (rows ++ (row ∷ [])))
    ruled-wall q a =
        let read = seen_in r cells in
        let cold = lt_z r.said.wall.surface.0 r.said.wall.air.0 in
        let once = ruled q.line r.place read ReadTwice in
        let by-six : Row → Option Refusal = λ row. six S k (wall_of row) in
        let by-seven : Row → Option Refusal = λ row. seven (map wall_of rows) (wall_of row) in
        let by-nine : Row → Option Refusal = λ row. nine (wall_of row) in
        let P = Kept s q r.place wall_line (Named S r) by-six by-seven read ReadTwice in
        rule_as wall_line (λ row. in_order S k (map wall_of rows) (wall_of row)) (wall-rule (seen ++ filled wall_line rows)) (rule-is rows)
        (after_weaker s q (settled q.line r cells) (read_line wall_line (λ row. in_order S k (map wall_of rows) (wall_of row)))
        (Kept s q once wall_line P (λ row. by-six row else by-seven row) by-nine cold Colder)
        (λ row. WallsShown S (stored r cells) (rows ++ (row ∷ []))) (λ row h. wall-shown row h.0.0)
        (ruled-after s q once wall_line P (λ row. by-six row else by-seven row) by-nine cold Colder
        (λ row h. ap (λ (x : Wall). nine x) (sym h.0.shown))
        (ruled-after s q r.place wall_line (Named S r) by-six by-seven read ReadTwice
        (λ row h. ap (λ (t : Bool). when t ReadTwice) (read_is row h)) a)))

  -- where the line was refused the cells stay as they were, and of what was read nothing is said
  if_good : {p q : Place} {cells cells' : List SectionReadings} (t : Bool) (m : Reader (List Row)) → good q ≡ t → (good q ≡ true → cells' ≡ cells)
      → After s p m q (WallsShown S cells) → After s p m q (WallsShown S cells')
  if_good true m e same x = rw (same e) x
  if_good {p} {q} {cells} {cells'} false m e same x = after-refused s p q m (WallsShown S cells) (WallsShown S cells') e x

  pub next : (p q : Place) (r : Heard NamedWall) (i : ℕ) (cells cells' : List SectionReadings)
      → After s p (read_rows i wall_line wall-rule seen []) q (WallsShown S cells)
      → After s q (read_line wall_line (λ row. six S k (wall_of row))) r.place (Named S r)
      → (good (settled q.line r cells) ≡ true → cells' ≡ stored r cells)
      → After s p (read_rows (i + 1) wall_line wall-rule seen []) (settled q.line r cells) (WallsShown S cells')
  next p q r i cells cells' a b same =
      let q' = settled q.line r cells in
      let cells'' = stored r cells in
      let done : After s p (read_rows (i + 1) wall_line wall-rule seen []) q' (WallsShown S cells'') =
      rw (add-one i)
      (block_more s wall_line wall-rule seen p q q' i (WallsShown S cells) (WallsShown S cells'') a (λ rows shown. ruled-wall cells rows shown r q b)
      (λ h. let e = b.passes h in settled-passes q.line r cells (ap (λ (y : Place). good y) e ∙ h) ∙ e)
      (settled-fair q.line r cells b.fair)) in
      if_good (good q') (read_rows (i + 1) wall_line wall-rule seen []) refl same done
