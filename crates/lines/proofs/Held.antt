-- From what all lines say to the struct that shows it. Assumes nothing.
use Prim.Native.Nat.{ℕ}
use mathlib.Core.Path.{◌≡◌, refl, sym, ap, ◌∙◌, subst}
use mathlib.Core.Bool.{Bool, true, false}
use mathlib.Core.List.{List, [], ◌∷◌, ◌++◌, map}
use mathlib.Core.Option.{none}
use lib.IntN.{ℤ, pos}
use lib.ListN.{length, length-map, take}
use Rattle.text.specs.Bytes.{bytes}
use Rattle.quantity.specs.declared.gas.Share.{Share}
use Rattle.sheet.specs.declared.Sheet.{Sheet as Sheetˢ}
use Rattle.sheet.specs.declared.Stage.{Stage as Stageˢ}
use Rattle.sheet.specs.Firing.{Stage, Section}
use Rattle.sheet.specs.Shown.{gas, stage, setter, part, section, laid, unread_sections}
use Rattle.document.specs.Schema.{Row, plain, at}
use Rattle.document.specs.Reader.{Sheet, Paragraph, rows_of, one, filled, read_line, read_paragraph, read_paragraphs, read_lines}
use Rattle.document.specs.Rules.{Every}
use Rattle.document.specs.Rows.{gas_of, setter_of, part_of, section_of, wall_of, first, edition_in, analysed, stage_by, stage_as}
use Rattle.document.specs.Tests.{free}
use Rattle.document.specs.Entries.{paragraphs_of}
use Rattle.document.specs.Document01.{sheet_line, end_line, heading, fuelling, drying, loading, surfaces, ending}
use Rattle.document.specs.Sheet2.{staging_by}
use Rattle.document.specs.Editions.{entries_by, lines_of, document}
use Rattle.walls.specs.Cells.{Placed}
use Rattle.sheet.specs.Block.{stages_of}
use Rattle.sheet.specs.Blank.{blank_stage, blank_setter, blank_part, blank_section}
use Rattle.sheet.specs.Quantities.{gases, stages_most, setters_most, parts_most, sections_most}
use Rattle.fuel.specs.Fuel.{shares}
use Rattle.due.specs.declared.Place.{Place}
use Rattle.due.specs.Place.{After}
use Rattle.due.proofs.Places.{after_bind, after_weaker}
use Rattle.quantity.specs.declared.sheet.Edition.{Edition}
use Rattle.quantity.specs.declared.sheet.Closing.{Closing}
use Rattle.due.specs.declared.Heard.{Heard}
use Rattle.due.proofs.Fills.{filled-most}
use Rattle.due.proofs.Sequence.{pass_on, one-after}
use Rattle.head.specs.declared.heading.Heading.{Heading}
use Rattle.fuel.specs.declared.Fuelling.{Fuelling}
use Rattle.head.specs.declared.drying.Drying.{Drying}
use Rattle.sheet.specs.declared.Stages.{Stages}
use Rattle.blocks.specs.declared.Loading.{Loading}
use Rattle.walls.specs.declared.Surfaces.{Surfaces}
use Rattle.due.specs.Said.{Saying, says, Said, GroupRead}
use Rattle.head.specs.Head.{heading_says, drying_says}
use Rattle.fuel.specs.Fuel.{fuelling_says}
use Rattle.stages.specs.Stages.{held_by, itself, staging_says, StagesRead}
use Rattle.blocks.specs.Loads.{loading_says}
use Rattle.walls.specs.Surfaces.{surfaces_say, Below, SurfacesRead}
use Rattle.lines.specs.All.{head_of, Blanked, Held}
use Rattle.due.specs.Block.{Filled}
use Rattle.due.proofs.Said.{none_read, line-then, group_then, ◌then◌, lacks-kept}

gas-is : (l : List Share) (r : Row) → shares l ≡ r.numbers → gas_of r ≡ gas l
gas-is l r e = ap (λ (zs : List ℤ). gas_of (plain zs)) (sym e)

blanked : {A B : Type 0} (view : A → B) (of : Row → B) (blank : A) (most : ℕ) {k : ℕ} {lines : List A} {rows : List Row}
    → Filled view of blank most k lines rows → Blanked blank most k lines
blanked view of blank most f = record { long = f.size; fits = filled-most view of blank most f; rest = f.rest }

-- what the structs of rows show
same_list : (l : List Stageˢ) → map itself l ≡ l
same_list [] = refl
same_list (x ∷ l) = ap (λ (m : List Stageˢ). x ∷ m) (same_list l)

held-shows : (flue : Bool) (rows : List Row) → map stage (map (held_by flue) rows) ≡ map (stage_by flue) rows
held-shows flue [] = refl
held-shows true (r ∷ rows) = ap (λ (m : List Stage). stage_by true r ∷ m) (held-shows true rows)
held-shows false (r ∷ rows) = ap (λ (m : List Stage). stage_by false r ∷ m) (held-shows false rows)

-- whether the flue is analysed, as the first line says
abbrev flue_of : Edition → Bool
flue_of e = analysed (pos e.0)

lines_are : (flue : Bool) {k : ℕ} {lines : List Stageˢ} {rows : List Row} → Filled itself (held_by flue) blank_stage stages_most k lines rows
    → take k lines ≡ map (held_by flue) rows
lines_are flue {k} {lines} f = sym (same_list (take k lines)) ∙ f.shown

module _ (e : Edition) (h : Heading) (f : Fuelling) (d : Drying) (a : Stages) (b : Loading) (c : Surfaces) where
  abbrev sheet_from : Sheetˢ
  sheet_from = record {
    head = head_of e h f d;
    stages = a;
    setters = b.setters;
    parts = b.parts;
    sections = c.sections;
    readings = c.readings;
  }

  -- what stands above the surfaces, and what is below it
  abbrev above_says : List Saying
  above_says = heading_says h ++ (fuelling_says f ++ (drying_says d ++ (staging_says (flue_of e) a ++ loading_says b)))

  abbrev below_says : (Row → Type 0) → List Saying
  below_says Z = surfaces_say c ++ (says end_line Z ∷ [])

  below : (edition : Row) (sheet : Sheet) → Said above_says (filled sheet_line (edition ∷ [])) sheet → Below a.count.0 sheet
  below edition sheet m =
      let air = m.2.2.2.2.2 in
      let stages = air.2.2.2.2 in
      let whole = stages.2.2.2 in
      let top = filled sheet_line (edition ∷ []) in
      record {
        sections = lacks-kept (bytes "section") above_says top sheet refl m refl;
        walls = lacks-kept (bytes "wall") above_says top sheet refl m refl;
        stages =
            length-map (rows_of (bytes "stage") sheet) (stage_as (edition_in sheet))
            ∙ ap (λ (x : Sheet). length (rows_of (bytes "stage") x)) whole
            ∙ stages.1.count;
      }

  -- the struct shows what all lines say
  held : length f.gas ≡ gases → (Z : Row → Type 0) (edition : Row) → pos e.0 ≡ at edition 0 → (sheet : Sheet)
      → Said (above_says ++ below_says Z) (filled sheet_line (edition ∷ [])) sheet → Held sheet_from sheet
  held long Z edition is sheet firing =
      let product = firing.2 in
      let ambient = product.2 in
      let fuel = ambient.2 in
      let gas = fuel.2 in
      let air = gas.2 in
      let ware = air.2 in
      let water = ware.2 in
      let clay = water.2 in
      let stages = clay.2 in
      let setters = stages.2 in
      let parts = setters.2 in
      let sections = parts.2 in
      let walls = sections.2 in
      let whole = walls.2.2 in
      let shown = sections.1.filled in
      let W = map wall_of walls.0 in
      let S : map (stage_as (at edition 0)) stages.0 ≡ stages_of a =
      ap (λ (z : ℤ). map (stage_as z) stages.0) (sym is) ∙ sym (held-shows (flue_of e) stages.0)
      ∙ ap (map stage) (sym (lines_are (flue_of e) stages.1)) in
      subst (λ (x : Sheet). Held sheet_from x) (sym whole)
      (record {
        shows = record {
          lines = λ i. record {
            edition = sym is i;
            number = sym firing.1 i;
            product = sym product.1 i;
            ambient = sym ambient.1 i;
            fuel = sym fuel.1 i;
            gas = gas-is f.gas (first gas.0) gas.1 i;
            moisture = sym air.1 i;
            ware = sym ware.1 i;
            water = sym water.1 i;
            clay = sym clay.1 i;
            stages = S i;
            setters = sym setters.1.shown i;
            parts = sym parts.1.shown i;
            sections = sym shown.shown i;
            walls = W;
          };
          readings = walls.1.lie ∙ ap (λ (x : List Section). laid x unread_sections W) shown.shown;
        };
        trimmed = record {
          gas = long;
          stages = blanked itself (held_by (flue_of e)) blank_stage stages_most stages.1;
          setters = blanked setter setter_of blank_setter setters_most setters.1;
          parts = blanked part part_of blank_part parts_most parts.1;
          sections = blanked section section_of blank_section sections_most shown;
        };
        stages_are = length-map stages.0 (stage_as (at edition 0)) ∙ stages.1.count;
        sections_are = length-map sections.0 section_of ∙ shown.count;
        distinct = sections.1.distinct;
        placed = subst (λ (x : List Section). Every (Placed x) W) shown.shown walls.1.placed;
      })

-- ---- group after group
abbrev above_lines : Bool → List Paragraph
above_lines flue = paragraphs_of heading ++ (paragraphs_of fuelling ++ (paragraphs_of drying ++ (paragraphs_of (staging_by flue) ++ paragraphs_of loading)))

all_of : (flue : Bool) → paragraphs_of (entries_by flue) ≡ above_lines flue ++ (paragraphs_of surfaces ++ paragraphs_of ending)
unfolding entries_by
all_of true = refl
all_of false = refl

module _ (s : List ℕ) (start : Place) (e : Heard Edition) (h : Heard Heading) (f : Heard Fuelling) (d : Heard Drying) (a : Heard Stages) (b : Heard Loading) (c : Heard Surfaces)
    (z : Heard Closing) (Z : Row → Type 0) (long : length f.said.gas ≡ gases)
    (he : After s start (read_line sheet_line (λ row. none)) e.place (λ row. pos e.said.0 ≡ at row 0))
    (hh : GroupRead s e.place (paragraphs_of heading) h.place (heading_says h.said))
    (hf : GroupRead s h.place (paragraphs_of fuelling) f.place (fuelling_says f.said))
    (hd : GroupRead s f.place (paragraphs_of drying) d.place (drying_says d.said))
    (ha : StagesRead s d.place (flue_of e.said) a)
    (hb : GroupRead s a.place (paragraphs_of loading) b.place (loading_says b.said))
    (hc : SurfacesRead s b.place a.said.count.0 c)
    (hz : After s c.place (read_line end_line (λ row. none)) z.place Z) where
  abbrev Q : Sheet → Type 0
  Q = Held (sheet_from e.said h.said f.said d.said a.said b.said c.said)

  above : GroupRead s e.place (above_lines (flue_of e.said)) b.place (above_says e.said h.said f.said d.said a.said b.said c.said)
  above = hh then hf then hd then ha.after then hb

  last : GroupRead s c.place (paragraphs_of ending) z.place (says end_line Z ∷ [])
  last = line-then end_line free Z (λ seen. hz) (none_read hz.fair)

  -- ALL LINES
  pub lines_after : After s start (read_lines document) z.place Q
  lines_after =
      let below-read = paragraphs_of surfaces ++ paragraphs_of ending in
      after_bind s start e.place z.place (read_paragraph (one sheet_line free) []) (λ seen. read_paragraphs (lines_of (edition_in seen)) seen) _ Q
      (one-after s sheet_line free [] start e.place (λ row. pos e.said.0 ≡ at row 0) he)
      (λ t k.
      (let r = k.2.0 in
      let top = filled sheet_line (r ∷ []) in
      let chosen : lines_of (at r 0) ≡ above_lines (flue_of e.said) ++ below-read = ap (λ (y : ℤ). lines_of y) (sym k.2.2) ∙ all_of (flue_of e.said) in
      subst (λ (x : Sheet). After s e.place (read_paragraphs (lines_of (edition_in x)) x) z.place Q)
      (sym (k.1 ∙ ap (λ (y : List Row). filled sheet_line y) k.2.1))
      (subst (λ (ps : List Paragraph). After s e.place (read_paragraphs ps top) z.place Q) (sym chosen)
      (after_weaker s e.place z.place _ (Said (above_says e.said h.said f.said d.said a.said b.said c.said ++ below_says e.said h.said f.said d.said a.said b.said c.said Z) top) Q (held e.said h.said f.said d.said a.said b.said c.said long Z r k.2.2)
      (group_then (above_lines (flue_of e.said)) below-read (above_says e.said h.said f.said d.said a.said b.said c.said)
      (below_says e.said h.said f.said d.said a.said b.said c.said Z) top
      (above.after top)
      (λ sheet m. group_then (paragraphs_of surfaces) (paragraphs_of ending) (surfaces_say c.said) (says end_line Z ∷ []) sheet
      (hc.after sheet (below e.said h.said f.said d.said a.said b.said c.said r sheet m))
      (λ u n. last.after u) last.passes last.fair)
      (pass_on hc.passes last.passes) last.fair)))))
      (pass_on above.passes (pass_on hc.passes last.passes)) last.fair
