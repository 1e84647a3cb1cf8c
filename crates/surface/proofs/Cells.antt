-- The sum over all cells of the readings is the sum over the walls of the sheet: a wall is laid into a cell where nothing was read before,
-- so it adds its own heat; and the cell of each section in each stage was read. Assumes nothing.
use Prim.Native.Nat.{ℕ, zero, suc, ◌-◌, ◌≤◌, ◌<◌}
use mathlib.Core.Path.{◌≡◌, refl, sym, ap, ap₂, ◌∙◌, subst}
use mathlib.Core.Bool.{Bool, true, false, cond, and-eq-true_iff}
use mathlib.Core.List.{List, [], ◌∷◌}
use mathlib.Core.Logic.{◌⊎◌, inl, inr, ◌≢◌}
use native.Mathlib.Nat.{le_of_suc-le-suc, not-suc-le-zero}
use native.Mathlib.Omega.{arith}
use lib.Dec.{T}
use lib.IntN.{ℤ, pos, negsuc, nat_abs, ◌+ℤ◌}
use lib.ListN.{length, get_or}
use lib.Signed.{le_z, le_z_yes, ◌≤ℤ◌, ≤ℤ_refl}
use Rattle.arith.proofs.Ring.{v, #, ◌⊕◌, ring}
use Rattle.arith.proofs.Order.{arithℤ, ≤ℤ-antisym, le_z_true, ≤ℤ-trans, abs-pos, abs≤⁺}
use Rattle.std.specs.Prelude.{Option}
use Rattle.sheet.specs.declared.Reading.{Reading}
use Rattle.sheet.specs.declared.SectionReadings.{SectionReadings}
use Rattle.sheet.specs.Firing.{Stage, Section, Wall, Firing}
use Rattle.sheet.specs.Shown.{same, before, column, cell, lay, reading, unread, unread_sections, was_read, laid}
use Rattle.sheet.specs.Quantities.{sections_most, stages_most}
use Rattle.sheet.proofs.Readings.{Whole, either-cell, lay-whole, lay-same, lay-other, unread-whole, unread-cell}
use Rattle.sheet.specs.Block.{sum}
use Rattle.document.specs.Rules.{Every, Some, NoTwo, SameNumber, SameReading, IsRead}
use Rattle.document.specs.Lawful.{WallIn, Lawful}
use Rattle.formulas.specs.Rounding.{paper}
use Rattle.formulas.specs.Formulas.{no_section, no_stage, numbered, section_of, stage_of, convection, radiation, flux, wall_heat, x9}
use Rattle.surface.specs.Cells.{ReadingIn}
use Rattle.document.proofs.Lists.{some_imp, every-at}
use Rattle.surface.proofs.Terms.{read_of, wall_of}
use Rattle.surface.proofs.Grid.{grid, grid-none, grid-one}

-- ---- a section by its number
holds : (t : Bool) → T t → t ≡ true
holds true h = refl
holds false h = absurd h

pub true_not_false : ◌≡◌ {A = Bool} true false → ⊥
true_not_false e = subst T e tt

module _ (n : ℤ) where
  found : (l : List Section) → get_or l (before n l) no_section ≡ numbered n l
  unfolding before numbered
  found [] = refl
  found (x ∷ l) = go (same n x.number) (found l)
    where
      go : (t : Bool) → get_or l (before n l) no_section ≡ numbered n l → get_or (x ∷ l) (cond t 0 (suc (before n l))) no_section ≡ cond t x (numbered n l)
      go true e = refl
      go false e = e

  is_same : (x : Section) → same n x.number ≡ true → x.number ≡ n
  is_same x e =
      let p = (and-eq-true_iff (le_z n x.number) (le_z x.number n)).0 e in
      ≤ℤ-antisym (le_z_true p.1) (le_z_true p.0)

  same-is : (x : Section) → x.number ≡ n → same n x.number ≡ true
  same-is x e = rw e ((and-eq-true_iff (le_z n n) (le_z n n)).1 (holds _ (≤ℤ_refl n).le, holds _ (≤ℤ_refl n).le))

  listed : (l : List Section) → Some (λ x. x.number ≡ n) l → (before n l < length l) × ((get_or l (before n l) no_section).number ≡ n)
  unfolding before
  listed [] s = absurd s
  listed (x ∷ l) s = go (same n x.number) refl s (λ q. listed l q)
    where
      go : (t : Bool) → same n x.number ≡ t → (x.number ≡ n) ⊎ Some (λ y. y.number ≡ n) l →
          (Some (λ y. y.number ≡ n) l → (before n l < length l) × ((get_or l (before n l) no_section).number ≡ n)) →
          (cond t 0 (suc (before n l)) < suc (length l)) × ((get_or (x ∷ l) (cond t 0 (suc (before n l))) no_section).number ≡ n)
      go true e s rest = (omega arith, is_same x e)
      go false e (inl p) rest = let z : ◌≡◌ {A = Bool} true false = sym (same-is x p) ∙ e in absurd (true_not_false z)
      go false e (inr q) rest = let r = rest q in (omega (arith, r.0), r.1)

-- ---- the cells of a firing
natural : {z : ℤ} → pos 1 ≤ℤ z → 1 ≤ nat_abs z
natural {z = pos n} h = omega arithℤ
natural {z = negsuc n} h = absurd h.le

-- the heat of a cell: none where nothing was read
abbrev cell_heat : Option Reading → Section → Stage → ℤ
cell_heat x s t = cond (was_read x) (wall_heat paper s t (wall_of (read_of x))) (pos 0)

module _ (f : Firing) where
  abbrev pub heat_at : List SectionReadings → ℕ → ℕ → ℤ
  heat_at cells i j = cell_heat (cell cells i j) (get_or f.sections i no_section) (get_or f.stages j no_stage)

  abbrev pub total : List SectionReadings → ℤ
  total cells = grid (heat_at cells) sections_most stages_most

  -- where a reading lies
  pub record Lies (i j : ℕ) (x : Option Reading) : Type 0 where
    pub reading : ReadingIn (read_of x)
    pub section : i < length f.sections
    pub stage : j < length f.stages

module _ (f : Firing) (few : length f.sections ≤ sections_most) where
  abbrev row : Wall → ℕ
  row w = before w.section f.sections

  -- the cells with a wall's reading in its own
  abbrev with_wall : List SectionReadings → Wall → List SectionReadings
  with_wall cells w = lay cells (row w) (column w) (reading w)

  module _ {w : Wall} (p : WallIn f w) where
    number : (1 ≤ nat_abs w.stage) × (nat_abs w.stage ≤ stages_most)
    number = (natural p.stage.low, abs≤⁺ (≤ℤ-trans (le_z_yes tt) p.stage.low) p.stage.high)

    place : (row w < length f.sections) × ((get_or f.sections (row w) no_section).number ≡ w.section)
    place = listed w.section f.sections p.listed

    row_in : row w < sections_most
    row_in = omega (arith, place.0)

    column_in : column w < stages_most
    column_in = omega (arith, number)

    lies : Lies f (row w) (column w) (reading w)
    lies = record {
      reading = record { surface = p.surface; air = p.air; warmer = p.warmer };
      section = place.0;
      stage = omega (arith, number.0, abs≤⁺ (≤ℤ-trans (le_z_yes tt) p.stage.low) p.staged);
    }

    -- a wall's cell has the wall's heat
    own : cell_heat (reading w) (get_or f.sections (row w) no_section) (get_or f.stages (column w) no_stage) ≡
        wall_heat paper (section_of f w) (stage_of f w) w
    unfolding wall_heat flux convection radiation
    own = rw (found w.section f.sections)

    -- a reading laid into it is there, the other cells stay, and all cells are there still
    module _ (cells : List SectionReadings) (whole : Whole cells) where
      after-whole : Whole (with_wall cells w)
      after-whole = lay-whole cells (row w) (column w) (reading w) whole row_in

      after-here : cell (with_wall cells w) (row w) (column w) ≡ reading w
      after-here = lay-same cells (row w) (column w) (reading w) whole row_in column_in

      after-there : (i j : ℕ) → (i ≡ row w → j ≢ column w) → cell (with_wall cells w) i j ≡ cell cells i j
      after-there i j d = lay-other cells (row w) (column w) (reading w) whole row_in i j d

  -- two walls at different sections or stages have different cells
  differ : {x w : Wall} → WallIn f x → WallIn f w → ¬ SameReading x w → row x ≡ row w → column x ≢ column w
  differ {x} {w} p q once r e =
      let s : nat_abs x.stage ≡ nat_abs w.stage = omega (arith, number p, number q) in
      once (
        sym (place q).1 ∙ ap (λ (i : ℕ). (get_or f.sections i no_section).number) (sym r) ∙ (place p).1,
        sym (abs-pos (above q)) ∙ ap pos (sym s) ∙ abs-pos (above p),
      )
    where
      above : {y : Wall} → WallIn f y → pos 0 ≤ℤ y.stage
      above h = ≤ℤ-trans (le_z_yes tt) h.stage.low

  abbrev Fresh : List SectionReadings → List Wall → Type 0
  Fresh cells ws = Every (λ w. cell cells (row w) (column w) ≡ unread) ws

  still : (cells : List SectionReadings) → Whole cells → {w : Wall} → WallIn f w → (ws : List Wall) → Every (WallIn f) ws →
      Every (λ x. ¬ SameReading x w) ws → Fresh cells ws →
      Fresh (with_wall cells w) ws
  still cells whole q [] p a fresh = tt
  still cells whole {w} q (x ∷ ws) p a fresh =
      (after-there q cells whole (row x) (column x) (differ p.0 q a.0) ∙ fresh.0, still cells whole q ws p.1 a.1 fresh.1)

  -- THE WALLS' HEAT IS THE CELLS'
  pub laid-total : (ws : List Wall) (cells : List SectionReadings) → Whole cells → Every (WallIn f) ws → NoTwo SameReading ws → Fresh cells ws →
      total f (laid f.sections cells ws) ≡ total f cells +ℤ sum (λ w. wall_heat paper (section_of f w) (stage_of f w) w) ws
  unfolding laid sum
  laid-total [] cells whole p a fresh = ring (total f cells ∷ []) (v 0) (v 0 ⊕ # 0) tt
  laid-total (w ∷ ws) cells whole p a fresh =
      let q = p.0 in
      let more = with_wall cells w in
      let heat : ℕ → ℕ → Option Reading → ℤ = λ i j x. cell_heat x (get_or f.sections i no_section) (get_or f.stages j no_stage) in
      let none : heat_at f cells (row w) (column w) ≡ pos 0 = ap (heat (row w) (column w)) fresh.0 in
      let mine = ap (heat (row w) (column w)) (after-here q cells whole) ∙ own q in
      let others : (i j : ℕ) → (i ≡ row w → j ≢ column w) → heat_at f more i j ≡ heat_at f cells i j =
      λ i j d. ap (heat i j) (after-there q cells whole i j d) in
      let one = grid-one (heat_at f cells) (heat_at f more) sections_most stages_most (row w) (column w) (row_in q) (column_in q) none others in
      let rest = laid-total ws more (after-whole q cells whole) p.1 a.1 (still cells whole q ws p.1 a.0 fresh.1) in
      let walls = sum (λ x. wall_heat paper (section_of f x) (stage_of f x) x) ws in
      rest
      ∙ ap (λ (z : ℤ). z +ℤ walls) (one ∙ ap (λ (z : ℤ). total f cells +ℤ z) mine)
      ∙ ring (total f cells ∷ wall_heat paper (section_of f w) (stage_of f w) w ∷ walls ∷ []) (v 0 ⊕ v 1 ⊕ v 2) (v 0 ⊕ (v 1 ⊕ v 2)) tt

  -- what was read lies in its place
  abbrev AllLie : List SectionReadings → Type 0
  AllLie cells = (i j : ℕ) → was_read (cell cells i j) ≡ true → Lies f i j (cell cells i j)

  pub laid-lies : (ws : List Wall) (cells : List SectionReadings) → Whole cells → Every (WallIn f) ws → AllLie cells → AllLie (laid f.sections cells ws)
  unfolding laid
  laid-lies [] cells whole p h = h
  laid-lies (w ∷ ws) cells whole p h =
      laid-lies ws more (after-whole p.0 cells whole) p.1 (λ i j e. either-cell i j (row w) (column w) (mine i j) (λ d. other i j d e))
    where
      more : List SectionReadings
      more = with_wall cells w

      other : (i j : ℕ) → (i ≡ row w → j ≢ column w) → was_read (cell more i j) ≡ true → Lies f i j (cell more i j)
      other i j d e =
          let q = after-there p.0 cells whole i j d in
          subst (Lies f i j) (sym q) (h i j (ap was_read (sym q) ∙ e))

      mine : (i j : ℕ) → i ≡ row w → j ≡ column w → Lies f i j (cell more i j)
      mine i j a b =
          let here = subst (Lies f (row w) (column w)) (sym (after-here p.0 cells whole)) (lies p.0) in
          subst (λ (n : ℕ). Lies f n j (cell more n j)) (sym a) (subst (λ (m : ℕ). Lies f (row w) m (cell more (row w) m)) (sym b) here)

  -- what was read stays read, and a wall's cell is read
  module _ (w : Wall) (p : WallIn f w) (cells : List SectionReadings) (whole : Whole cells) where
    now_read : (i j : ℕ) → row w ≡ i → column w ≡ j → was_read (cell (with_wall cells w) i j) ≡ true
    now_read i j a b = ap₂ (λ (n m : ℕ). was_read (cell (with_wall cells w) n m)) (sym a) (sym b) ∙ ap was_read (after-here p cells whole)

    still_read : (i j : ℕ) → was_read (cell cells i j) ≡ true → was_read (cell (with_wall cells w) i j) ≡ true
    still_read i j e =
        either-cell i j (row w) (column w) (λ a b. now_read i j (sym a) (sym b)) (λ d. ap was_read (after-there p cells whole i j d) ∙ e)

  laid-stays : (ws : List Wall) (cells : List SectionReadings) → Whole cells → Every (WallIn f) ws → (i j : ℕ) →
      was_read (cell cells i j) ≡ true → was_read (cell (laid f.sections cells ws) i j) ≡ true
  unfolding laid
  laid-stays [] cells whole p i j e = e
  laid-stays (w ∷ ws) cells whole p i j e =
      laid-stays ws (with_wall cells w) (after-whole p.0 cells whole) p.1 i j (still_read w p.0 cells whole i j e)

  laid-reads : (ws : List Wall) (cells : List SectionReadings) → Whole cells → Every (WallIn f) ws → (i j : ℕ) →
      Some (λ w. (row w ≡ i) × (column w ≡ j)) ws → was_read (cell (laid f.sections cells ws) i j) ≡ true
  unfolding laid
  laid-reads [] cells whole p i j s = absurd s
  laid-reads (w ∷ ws) cells whole p i j (inl e) =
      laid-stays ws (with_wall cells w) (after-whole p.0 cells whole) p.1 i j (now_read w p.0 cells whole i j e.0 e.1)
  laid-reads (w ∷ ws) cells whole p i j (inr s) = laid-reads ws (with_wall cells w) (after-whole p.0 cells whole) p.1 i j s

-- a section's place is its own, since no two have one number
own-place : (l : List Section) → NoTwo SameNumber l → (i : ℕ) → i < length l → before (get_or l i no_section).number l ≡ i
unfolding before
own-place [] d i h = absurd (not-suc-le-zero h)
own-place (x ∷ l) d zero h = rw (same-is x.number x refl)
own-place (x ∷ l) d (suc i) h =
    let other = every-at (λ y. ¬ SameNumber y x) l i no_section d.0 (le_of_suc-le-suc h) in
    go (same (number i) x.number) refl other (own-place l d.1 i (le_of_suc-le-suc h))
  where
    number : ℕ → ℤ
    number i = (get_or l i no_section).number

    go : (t : Bool) → same (number i) x.number ≡ t → ¬ (x.number ≡ number i) → before (number i) l ≡ i → cond t 0 (suc (before (number i) l)) ≡ suc i
    go true e n r = absurd (n (is_same (number i) x e))
    go false e n r = ap suc r

-- ---- THE CELLS OF A FIRING THAT KEEPS THE RULES
abbrev pub cells_of : Firing → List SectionReadings
cells_of f = laid f.sections unread_sections f.walls

module _ (f : Firing) (rules : Lawful f) where
  -- what was read lies at a section and a stage that there are
  pub cell_lies : (i j : ℕ) → was_read (cell (cells_of f) i j) ≡ true → Lies f i j (cell (cells_of f) i j)
  cell_lies =
      let none : (i j : ℕ) → was_read (cell unread_sections i j) ≡ true → Lies f i j (cell unread_sections i j) =
      λ i j e. absurd (true_not_false (sym e ∙ ap was_read (unread-cell i j)))
      in
      laid-lies f rules.sections_most f.walls unread_sections unread-whole rules.walls none

  -- EVERY SECTION WAS READ IN EVERY STAGE
  pub cell-read : (i j : ℕ) → i < length f.sections → j < length f.stages → was_read (cell (cells_of f) i j) ≡ true
  cell-read i j h k =
      let In-stages : Section → Type 0 = λ x. (m : ℕ) → 1 ≤ m → m ≤ length f.stages → IsRead f.walls x.number (pos m) in
      let place = own-place f.sections rules.numbered i h in
      let read = every-at In-stages f.sections i no_section rules.read h (suc j) (omega arith) (omega arith) in
      let from_one : suc j - 1 ≡ j = omega arith in
      laid-reads f rules.sections_most f.walls unread_sections unread-whole rules.walls i j
      (some_imp (λ w e. (ap (λ (z : ℤ). before z f.sections) e.0 ∙ place, ap (λ (z : ℤ). nat_abs z - 1) e.1 ∙ from_one)) f.walls read)

  -- beyond the sections and the stages that there are, nothing was read
  pub cell-none : (i j : ℕ) → (i < length f.sections → j < length f.stages → ⊥) → heat_at f (cells_of f) i j ≡ pos 0
  cell-none i j n = go (was_read (cell (cells_of f) i j)) refl
    where
      go : (t : Bool) → was_read (cell (cells_of f) i j) ≡ t → heat_at f (cells_of f) i j ≡ pos 0
      go true e = let l = cell_lies i j e in absurd (n l.section l.stage)
      go false e = rw e

  fresh : (ws : List Wall) → Every (λ w. cell unread_sections (before w.section f.sections) (column w) ≡ unread) ws
  fresh [] = tt
  fresh (w ∷ ws) = (unread-cell (before w.section f.sections) (column w), fresh ws)

  -- their heat is x9
  pub cells-total : total f (cells_of f) ≡ x9 f paper
  unfolding x9
  cells-total =
      let heat : ℕ → ℕ → Option Reading → ℤ = λ i j x. cell_heat x (get_or f.sections i no_section) (get_or f.stages j no_stage) in
      let none : total f unread_sections ≡ pos 0 = grid-none (heat_at f unread_sections) sections_most stages_most (λ i j. ap (heat i j) (unread-cell i j)) in
      let walls = sum (λ w. wall_heat paper (section_of f w) (stage_of f w) w) f.walls in
      laid-total f rules.sections_most f.walls unread_sections unread-whole rules.walls rules.once (fresh f.walls)
      ∙ ap (λ (z : ℤ). z +ℤ walls) none
      ∙ ring (walls ∷ []) (# 0 ⊕ v 0) (v 0) tt
