-- What the code sums, section by section and stage by stage, is x9. Assumes nothing.
use Prim.Native.Nat.{ℕ, zero, suc, ◌<◌, min}
use mathlib.Core.Path.{◌≡◌, refl, sym, ap, ◌∙◌, subst}
use mathlib.Core.Bool.{true}
use mathlib.Core.List.{List, [], ◌∷◌, map}
use native.Mathlib.Nat.{le_of_suc-le-suc, not-suc-le-zero}
use native.Mathlib.Omega.{arith}
use lib.IntN.{ℤ, pos}
use lib.ListN.{length, get_or, take}
use Rattle.sheet.specs.declared.SectionReadings.{SectionReadings}
use Rattle.sheet.specs.declared.Section.{Section as Sectionˢ}
use Rattle.sheet.specs.declared.Stage.{Stage as Stageˢ}
use Rattle.sheet.specs.declared.Sections.{Sections}
use Rattle.sheet.specs.declared.Stages.{Stages}
use Rattle.sheet.specs.Firing.{Firing}
use Rattle.sheet.specs.Shown.{stage, section, cell, was_read}
use Rattle.sheet.specs.Quantities.{sections_most, stages_most}
use Rattle.sheet.proofs.Sums.{stage_beyond}
use Rattle.document.specs.Lawful.{StageIn, SectionIn}
use Rattle.document.proofs.Lists.{every-at}
use Rattle.formulas.specs.Rounding.{paper}
use Rattle.formulas.specs.Formulas.{no_section, no_stage, wall_heat, x9}
use Rattle.surface.specs.Cells.{LostIn, Seen}
use Rattle.surface.proofs.Terms.{read_of, wall_of}
use Rattle.surface.proofs.Grid.{grid, in_grid}
use Rattle.surface.proofs.Cells.{heat_at, cell_lies, cell-read, cell-none, cells-total}

abbrev section_beyond : Sectionˢ
section_beyond = record { number = record { 0 = 0 }; place = record { 0 = 0 }; area = record { 0 = pos 0 } }

-- a line of a block, as the firing shows it
shown-at : {A B : Type 0} (g : A → B) (l : List A) (n i : ℕ) (d : A) (e : B) → i < length (map g (take n l)) → get_or (map g (take n l)) i e ≡ g (get_or l i d)
shown-at g [] zero i d e h = absurd (not-suc-le-zero h)
shown-at g [] (suc n) i d e h = absurd (not-suc-le-zero h)
shown-at g (a ∷ l) zero i d e h = absurd (not-suc-le-zero h)
shown-at g (a ∷ l) (suc n) zero d e h = refl
shown-at g (a ∷ l) (suc n) (suc i) d e h = shown-at g l n i d e (le_of_suc-le-suc h)

shown-length : {A B : Type 0} (g : A → B) (n : ℕ) (l : List A) → length (map g (take n l)) ≡ min n (length l)
shown-length g zero [] = refl
shown-length g zero (a ∷ l) = omega arith
shown-length g (suc n) [] = omega arith
shown-length g (suc n) (a ∷ l) = omega (arith, shown-length g n l)

-- the heat of a section in a stage, as the code forms it
abbrev pub coded : List SectionReadings → List Sectionˢ → List Stageˢ → ℕ → ℕ → ℤ
coded readings places times i j =
    wall_heat paper (section (get_or places i section_beyond)) (stage (get_or times j stage_beyond)) (wall_of (read_of (cell readings i j)))

module _ {readings : List SectionReadings} {x : Sections} {y : Stages} {f : Firing} (seen : Seen readings x y f)
    (long : length x.lines ≡ sections_most) (wide : length y.lines ≡ stages_most) where
  rows : length f.sections ≡ min x.count.0 sections_most
  rows = rw seen.sections (shown-length section x.count.0 x.lines ∙ ap (min x.count.0) long)

  columns : length f.stages ≡ min y.count.0 stages_most
  columns = rw seen.stages (shown-length stage y.count.0 y.lines ∙ ap (min y.count.0) wide)

  module _ (i j : ℕ) (h : i < min x.count.0 sections_most) (k : j < min y.count.0 stages_most) where
    here : i < length f.sections
    here = omega (arith, rows)

    there : j < length f.stages
    there = omega (arith, columns)

    pub read : was_read (cell readings i j) ≡ true
    read = rw seen.laid (cell-read f seen.rules i j here there)

    section-at : get_or f.sections i no_section ≡ section (get_or x.lines i section_beyond)
    section-at = rw seen.sections (shown-at section x.lines x.count.0 i section_beyond no_section (rw seen.sections at here))

    stage_at : get_or f.stages j no_stage ≡ stage (get_or y.lines j stage_beyond)
    stage_at = rw seen.stages (shown-at stage y.lines y.count.0 j stage_beyond no_stage (rw seen.stages at there))

    -- what is asked of a cell
    pub cell_in : LostIn (read_of (cell readings i j)) (section (get_or x.lines i section_beyond)) (stage (get_or y.lines j stage_beyond))
    cell_in =
        let lies = rw (sym seen.laid) at (cell_lies f seen.rules i j (cell-read f seen.rules i j here there)) in
        let section = every-at SectionIn f.sections i no_section seen.rules.sections here in
        record {
          wall = record { reading = lies.reading; section = subst SectionIn section-at section };
          stage = subst StageIn stage_at (every-at StageIn f.stages j no_stage seen.rules.stages there);
        }

    coded-is : coded readings x.lines y.lines i j ≡ heat_at f readings i j
    coded-is =
        rw (read, section-at, stage_at)

  -- THE CODE'S SUM IS x9
  pub coded-total : grid (coded readings x.lines y.lines) (min x.count.0 sections_most) (min y.count.0 stages_most) ≡ x9 f paper
  coded-total =
      let none : (i j : ℕ) → (i < length f.sections → j < length f.stages → ⊥) → heat_at f readings i j ≡ pos 0 =
      λ i j n. ap (λ (l : List SectionReadings). heat_at f l i j) seen.laid ∙ cell-none f seen.rules i j n
      in
      in_grid (heat_at f readings) (coded readings x.lines y.lines) (min x.count.0 sections_most) (min y.count.0 stages_most)
      sections_most stages_most (omega arith) (omega arith) coded-is
      (λ i j h. none i j (λ a b. omega (arith, rows)))
      (λ i j h. none i j (λ a b. omega (arith, columns)))
      ∙ ap (λ (l : List SectionReadings). grid (heat_at f l) sections_most stages_most) seen.laid
      ∙ cells-total f seen.rules
