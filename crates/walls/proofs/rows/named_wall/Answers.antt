-- The section's place among the sections, and the stage's number, say which case of rule 6 it is. Assumes nothing.
use Prim.Native.Nat.{ℕ, ◌<◌}
use mathlib.Core.Path.{◌≡◌, ◌∙◌}
use mathlib.Core.List.{List, map}
use native.Mathlib.Omega.{arith}
use lib.IntN.{pos}
use lib.ListN.{length, take}
use Rattle.sheet.specs.declared.Section.{Section as Sectionˢ}
use Rattle.sheet.specs.Firing.{Section}
use Rattle.sheet.specs.Shown.{section, before}
use Rattle.sections.specs.Sections.{numbers}
use Rattle.sections.proofs.Sections.{numbers-length, place-among, shown-length}
use Rattle.walls.proofs.Rulings.{unlisted, unstaged, both-there}
use Rattle.walls.proofs.Naming.{not_there, there}
use Prim.Native.Nat.{◌≤◌}
use lib.ListN.{take}
use mathlib.Core.List.{map}
use Rattle.sheet.specs.Quantities.{sections_most}
use Rattle.sections.specs.Sections.{place_of}
use Rattle.walls.proofs.rows.named_wall.Goals as goal

-- the place of a number among those of the sections, and how many these are
module _ (numbers' : List ℕ) (count number row : ℕ) (h : (count ≤ sections_most) × (count ≤ length numbers')) (r : row ≡ place_of number (take count numbers'))
    (lines : List Sectionˢ) (e : numbers' ≡ numbers lines) where
  abbrev shown : List Section
  shown = map section (take count lines)

  stands : row ≡ before (pos number) shown
  stands = r ∙ place-among lines e number count

  many : length shown ≡ count
  many = shown-length count lines (omega (arith, h.1, numbers-length lines e))

pub returns-then-count-row : goal.returns-then-count-row
returns-then-count-row c =
    let l = c.wall_line-heard in
    let a = c.args in
    let n = l.result.said.section.0 in
    let r = c.section_place-row in
    let h = c.requires.count_le_sections_most in
    rw c.unnamed.ensures (record {
      after = λ lines e.
          let S = shown a.numbers.now a.count n r.result h r.ensures lines e in
          not_there l.result l.ensures S a.stages
          (unlisted S a.stages l.result.said (omega (
            arith,
            stands a.numbers.now a.count n r.result h r.ensures lines e,
            many a.numbers.now a.count n r.result h r.ensures lines e,
            c.if-count-row.true,
          )));
      inside = omega arith;
      least = l.ensures.least;
      most = l.ensures.most;
    })

pub returns-then-stages-wall : goal.returns-then-stages-wall
returns-then-stages-wall c =
    let l = c.wall_line-heard in
    let a = c.args in
    let n = l.result.said.section.0 in
    let r = c.section_place-row in
    let h = c.requires.count_le_sections_most in
    rw c.unnamed-then-stages-wall.ensures (record {
      after = λ lines e.
          let S = shown a.numbers.now a.count n r.result h r.ensures lines e in
          not_there l.result l.ensures S a.stages (unstaged S a.stages l.result.said c.if-stages-wall.true);
      inside = omega arith;
      least = l.ensures.least;
      most = l.ensures.most;
    })

pub returns : goal.returns
returns c =
    let l = c.wall_line-heard in
    let a = c.args in
    let n = l.result.said.section.0 in
    let r = c.section_place-row in
    let h = c.requires.count_le_sections_most in
    record {
      after = λ lines e.
          let S = shown a.numbers.now a.count n r.result h r.ensures lines e in
          let at = stands a.numbers.now a.count n r.result h r.ensures lines e in
          let listed : before (pos n) S < length S =
          omega (arith, at, many a.numbers.now a.count n r.result h r.ensures lines e, c.if-count-row.false) in
          there l.result l.ensures S a.stages _ (both-there S a.stages l.result.said listed (omega (arith, c.if-stages-wall.false))) listed at;
      inside = omega (arith, c.if-count-row.false, h);
      least = l.ensures.least;
      most = l.ensures.most;
    }
