-- The walls laid into their cells: each section and stage has a cell of its own, so a cell is read exactly where a wall of its section and
-- stage was laid. Assumes nothing.
use Prim.Native.Nat.{◌-◌, ◌≤◌, ◌<◌}
use native.Mathlib.Omega.{arith}
use mathlib.Core.Path.{◌≡◌, refl, sym, ap, ap₂, ◌∙◌}
use mathlib.Core.Bool.{Bool, true, false, ◌&&◌, ◌||◌, or-false}
use mathlib.Core.List.{List, [], ◌∷◌, ◌++◌}
use mathlib.Core.Logic.{◌≢◌}
use lib.Dec.{leb→le}
use lib.ListN.{length}
use lib.IntN.{ℤ, pos, negsuc, nat_abs}
use Rattle.sheet.specs.declared.SectionReadings.{SectionReadings}
use Rattle.sheet.specs.Firing.{Section, Wall}
use Rattle.sheet.specs.Shown.{same, before, column, cell, lay, reading, unread_sections, was_read, laid}
use Rattle.sheet.specs.Quantities.{stage_number, sections_most, stages_most}
use Rattle.sheet.proofs.Readings.{Whole, lay-whole, lay-same, lay-other, unread-whole, unread-cell}
use Rattle.document.specs.Lawful.{In}
use Rattle.document.specs.Rules.{Every}
use Rattle.document.specs.Tests.{is_read}
use Rattle.walls.specs.Cells.{Placed, read_at}
use Rattle.document.proofs.Cases.{both, clash}
use Rattle.document.proofs.Rules.{same_self, same-is}
use Rattle.sections.proofs.Sections.{before-one}

-- A stage of a line `wall` is a natural number from 1 on, and there is a column for it.
record Counts (z : ℤ) : Type 0 where
  pub is : z ≡ pos (nat_abs z)
  pub least : 1 ≤ nat_abs z
  pub greatest : nat_abs z ≤ stages_most

counts : (z : ℤ) → In stage_number z → Counts z
counts (pos n) h = record { is = refl; least = leb→le 1 n h.low.le; greatest = leb→le n stages_most h.high.le }
counts (negsuc n) h = absurd h.low.le

-- A wall at this section in this stage.
abbrev measures : ℤ → ℤ → Wall → Bool
measures section stage x = same x.section section && same x.stage stage

either_order : (a b c : Bool) → a || (b || c) ≡ (b || a) || c
either_order true true c = refl
either_order true false c = refl
either_order false b c = ap (λ t. t || c) (sym (or-false b))

module _ (S : List Section) (few : length S ≤ sections_most) where
  -- Its cell is there.
  row_below : (w : Wall) → Placed S w → before w.section S < sections_most
  row_below w p = omega (arith, p.listed)

  column-below : (w : Wall) → Placed S w → column w < stages_most
  column-below w p = let n = counts w.stage p.staged in omega (arith, n.least, n.greatest)

  -- No two sections or stages share a cell.
  own-cell : (x w : Wall) → Placed S x → Placed S w → before w.section S ≡ before x.section S → column w ≡ column x
      → measures w.section w.stage x ≡ true
  own-cell x w p q e f =
      let m = counts x.stage p.staged in
      let n = counts w.stage q.staged in
      let number : nat_abs x.stage ≡ nat_abs w.stage = omega (arith, m.least, n.least) in
      let section = before-one x.section w.section S p.listed (sym e) in
      let stage : x.stage ≡ w.stage = m.is ∙ (ap pos number ∙ sym n.is) in
      rw (section, stage, same_self w.section, same_self w.stage)

  -- A wall laid into its cell makes that cell read and leaves the others.
  lay-read :
      (cells : List SectionReadings) → Whole cells → (x w : Wall) → Placed S x → Placed S w →
      read_at (lay cells (before x.section S) (column x) (reading x)) (before w.section S) (column w) ≡
      measures w.section w.stage x || read_at cells (before w.section S) (column w)
  lay-read cells whole x w p q = by (measures w.section w.stage x) refl
    where
      more : List SectionReadings
      more = lay cells (before x.section S) (column x) (reading x)

      by :
          (t : Bool) → measures w.section w.stage x ≡ t →
          read_at more (before w.section S) (column w) ≡ t || read_at cells (before w.section S) (column w)
      by true e =
          let b = both (same x.section w.section) (same x.stage w.stage) e in
          let row = ap (λ (z : ℤ). before z S) (sym (same-is x.section w.section b.0)) in
          let stage = ap (λ (z : ℤ). nat_abs z - 1) (sym (same-is x.stage w.stage b.1)) in
          ap was_read
          (ap₂ (cell more) row stage ∙ lay-same cells (before x.section S) (column x) (reading x) whole (row_below x p) (column-below x p))
      by false e =
          let apart : before w.section S ≡ before x.section S → column w ≢ column x = λ a b. let u = own-cell x w p q a b in clash cc in
          ap was_read (lay-other cells (before x.section S) (column x) (reading x) whole (row_below x p) (before w.section S) (column w) apart)

  -- Over any cells that are there already.
  laid_onto :
      (w : Wall) → Placed S w → (ws : List Wall) (cells : List SectionReadings) → Whole cells → Every (Placed S) ws →
      read_at (laid S cells ws) (before w.section S) (column w) ≡
      is_read ws w.section w.stage || read_at cells (before w.section S) (column w)
  unfolding laid
  laid_onto w q [] cells whole ps = refl
  laid_onto w q (x ∷ ws) cells whole ps =
      let here = before x.section S in
      let after = lay cells here (column x) (reading x) in
      laid_onto w q ws after (lay-whole cells here (column x) (reading x) whole (row_below x ps.0)) ps.1
      ∙ (ap (λ t. is_read ws w.section w.stage || t) (lay-read cells whole x w ps.0 q)
      ∙ either_order (is_read ws w.section w.stage) (measures w.section w.stage x) (read_at cells (before w.section S) (column w)))

  -- A cell is read where a wall of its section and stage was laid.
  pub laid-read :
      (w : Wall) → Placed S w → (ws : List Wall) → Every (Placed S) ws →
      read_at (laid S unread_sections ws) (before w.section S) (column w) ≡ is_read ws w.section w.stage
  laid-read w q ws ps =
      let blank = ap was_read (unread-cell (before w.section S) (column w)) in
      laid_onto w q ws unread_sections unread-whole ps
      ∙ (ap (λ t. is_read ws w.section w.stage || t) blank ∙ or-false _)

-- ONE MORE WALL
pub laid_more :
    (S : List Section) (cells : List SectionReadings) (ws : List Wall) (w : Wall) →
    laid S cells (ws ++ (w ∷ [])) ≡ lay (laid S cells ws) (before w.section S) (column w) (reading w)
unfolding laid
laid_more S cells [] w = refl
laid_more S cells (x ∷ ws) w = laid_more S (lay cells (before x.section S) (column x) (reading x)) ws w

pub placed-more : (S : List Section) (ws : List Wall) (w : Wall) → Every (Placed S) ws → Placed S w → Every (Placed S) (ws ++ (w ∷ []))
placed-more S [] w ps q = (q, tt)
placed-more S (x ∷ ws) w ps q = (ps.0, placed-more S ws w ps.1 q)
