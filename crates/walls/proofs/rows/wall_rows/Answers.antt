-- One wall more is laid into its cell, or its place is refused. Assumes nothing.
use Prim.Native.Nat.{ℕ, ◌≤◌}
use mathlib.Core.Path.{◌≡◌, refl, ap, ◌∙◌}
use mathlib.Core.Bool.{true}
use mathlib.Core.List.{List, [], map}
use native.Mathlib.Omega.{arith}
use lib.ListN.{length, take}
use Rattle.std.specs.Prelude.{Some}
use Rattle.sheet.specs.declared.Reading.{Reading}
use Rattle.sheet.specs.declared.Section.{Section as Sectionˢ}
use Rattle.sheet.specs.Firing.{Section}
use Rattle.sheet.specs.Shown.{section, column, lay, laid, unread_sections}
use Rattle.sheet.specs.Quantities.{sections_most}
use Rattle.document.specs.Tests.{wall-rule}
use Rattle.document.specs.Document01.{wall_line}
use Rattle.due.specs.Place.{good}
use Rattle.due.proofs.Places.{not-both, is-bad}
use Rattle.due.proofs.Sequence.{block_start}
use Rattle.sections.proofs.Sections.{numbers-length, shown-length}
use Rattle.walls.specs.Cells.{by_section}
use Rattle.walls.specs.Walls.{wall, WallsShown}
use Rattle.walls.proofs.Walls.{settled, settled-fair, settled-row, stored, lay-row, next}
use Rattle.walls.proofs.rows.wall_rows.Goals as goal
use Rattle.walls.proofs.rows.wall_rows.Goals.{then-place-eq0, else-place-eq0}

abbrev shown : List Sectionˢ → ℕ → List Section
shown sections count = map section (take count sections)

pub loop-init : goal.loop-init
loop-init c =
    let none-shown : (S : List Section) → WallsShown S unread_sections [] = unfold laid in λ S. record { lie = refl; placed = tt } in
    rw c.reading-none.ensures (
      omega (arith, c.requires.count_le_sections_most, numbers-length c.args.sections c.numbers_of-numbers.ensures),
      c.requires.ready,
      λ sections same seen e f g. block_start c.args.s.now wall_line wall-rule seen c.args.start
          (WallsShown (shown sections c.args.count) unread_sections) (none-shown _) c.requires.ready.fair,
    )

pub named_wall-heard-requires-clause-ready : goal.named_wall-heard-requires-clause-ready
named_wall-heard-requires-clause-ready c = c.loop.invariant.1

pub loop-preserved : goal.loop-preserved
loop-preserved c =
    let at = c.loop in
    let a = c.args in
    let l = c.named_wall-heard in
    let named = c.numbers_of-numbers.ensures in
    let w = wall l.result.said.wall in
    let readings = by_section at.cells in
    let settles = settled-row at.cells at.place.line l.result c.read_once-place.result c.read_once-place.ensures in
    let laid_in : good (settled at.place.line l.result readings) ≡ true → by_section c.if-place-eq0.cells ≡ stored l.result readings =
    elim c.if-place-eq0.branch [
      | then-place-eq0 t ↦ (λ g. ap by_section t.cells-is ∙ lay-row at.cells l.result.said.row (column w) _
          ∙ ap (λ (x : Reading). lay readings l.result.said.row (column w) (Some x)) t.reading_of.ensures)
      | else-place-eq0 t ↦ (λ g. not-both (good c.read_once-place.result) (ap good settles ∙ g) (is-bad c.read_once-place.result t.if-place-eq0.false))
    ] in (
      at.invariant.0,
      rw settles (record {
        short = at.invariant.1.short;
        fair = settled-fair at.place.line l.result readings (l.ensures.after a.sections named).fair;
      }),
      λ sections same.
          let room : a.count ≤ length sections = omega (arith, at.invariant.0, numbers-length sections same) in
          let few : length (shown sections a.count) ≤ sections_most = omega (arith, c.requires.count_le_sections_most, shown-length a.count sections room) in
          λ seen e g h. rw settles
          (next a.s.now (shown sections a.count) a.stages few seen e g h a.start at.place l.result at.counter readings
          (by_section c.if-place-eq0.cells) (at.invariant.2 sections same seen e g h) (l.ensures.after sections same) laid_in),
    )

pub returns : goal.returns
returns c =
    let e : c.loop.counter ≡ c.args.n = omega arith in
    rw (c.by_section-said.ensures, ← e) (c.loop.invariant.2 c.args.sections c.numbers_of-numbers.ensures)
