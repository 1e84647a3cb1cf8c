-- The plain rules are enough: a firing that keeps them has a sheet that passes every test. Assumes nothing.
use Prim.Native.Nat.{ℕ, ◌≤◌}
use mathlib.Core.Path.{◌≡◌, refl, sym, ap, subst, ◌∙◌}
use mathlib.Core.List.{List, [], ◌∷◌, ◌++◌, map}
use mathlib.Core.Bool.{Bool, true, false, cond}
use mathlib.Core.Option.{Option, none, some}
use native.Mathlib.Omega.{arith}
use lib.ListN.{length, length-map}
use lib.IntN.{ℤ, pos}
use lib.Signed.{le_z_yes, clash_ℤ}
use borrow.Author.Tests.{le-leb}
use Rattle.text.specs.Bytes.{bytes}
use Rattle.sheet.specs.Firing.{Stuff, Analysis, Stage, Setter, Part, Section, Wall, Firing}
use Rattle.document.specs.Schema.{Line, Row, plain, in_ranges, fits}
use Rattle.document.specs.Reader.{Sheet, rows_of, Paragraph, one, many, key_of, count_line, RowsKeep, ParagraphKeeps, ParagraphsKeep, Keeps}
use Rattle.sheet.specs.Quantities.{material, capacity, flue, stages_most, setters_most, parts_most, sections_most, walls_most}
use Rattle.document.specs.Tests.{free}
use Rattle.document.specs.Entries.{Entry, paragraphs_of, fill}
use Rattle.document.specs.Document01.{opening, heading, fuelling, drying, staging, loading, surfaces, ending, sheet_line, firing_line, product_line, ambient_line, fuel_line, gas_line, air_line, ware_line, water_line, clay_line, stage_line, setter_line, part_line, section_line, wall_line, end_line}
use Rattle.document.specs.Sheet2.{analysed_line, analysed_staging}
use Rattle.document.specs.Editions.{entries_by, entries_of, document, sheet_of, unruled, form_only}
use Rattle.document.specs.Rules.{Every, NoTwo, MaterialKeeps, AnalysisKeeps, SameNumber, Listed, Staged, SameReading, AllRead, Warm, TotalKeeps, KeepsRules}
use Rattle.document.specs.Rows.{edition_in, analysed, analysis_of, gas_row, ware_row, stage_row, analysed_row, setter_row, part_row, section_row, wall_row}
use Rattle.document.specs.Lawful.{In, InRanges, StuffIn, AnalysisIn, FlueIn, has, StageIn, SetterIn, PartIn, SectionIn, WallIn, Lawful}
use Rattle.document.proofs.Judged.{fits-plain}
use Rattle.document.proofs.Lists.{every_imp, every_with, every_join, made_every}
use Rattle.document.proofs.Cases.{clash}
use Rattle.document.proofs.Rows.{firing-back}
use Rattle.document.proofs.Fields.{in_ranges_lem}
use Rattle.document.proofs.Entries.{◌&◌}
use Rattle.document.proofs.Kept.{formed-lines, all-kept}

fit : (l : Line) (zs : List ℤ) → InRanges l.fields zs → fits l (plain zs) ≡ true
fit l zs h = fits-plain l zs (in_ranges_lem l.fields zs h)

-- ROWS THAT FIT, one or as many as the count may be: the form of a paragraph
abbrev Shaped : Paragraph → List Row → Type 0
Shaped (one l rule) rows = (length rows ≡ 1) × Every (λ r. fits l r ≡ true) rows
Shaped (many key a b l rule) rows = (a ≤ length rows) × (length rows ≤ b) × Every (λ r. fits l r ≡ true) rows

rows_keep : (l : Line) (seen : Sheet) (above rows : List Row) → Every (λ r. fits l r ≡ true) rows → RowsKeep l free seen above rows
rows_keep l seen above [] h = tt
rows_keep l seen above (row ∷ rows) h = (h.0, refl, rows_keep l seen (above ++ (row ∷ [])) rows h.1)

count_fits : (key : List ℕ) (a b n : ℕ) → a ≤ n → n ≤ b → fits (count_line key a b) (plain (pos n ∷ [])) ≡ true
unfolding in_ranges
count_fits key a b n h k = fits-plain (count_line key a b) (pos n ∷ []) (rw (le-leb a n h, le-leb n b k) refl)

paragraph-keeps : (p : Paragraph) (seen : Sheet) (rows : List Row) → Shaped p rows
    → ParagraphKeeps (unruled p) seen (record { key = key_of p; rows = rows })
paragraph-keeps (one l rule) seen rows h = (refl, h.0, rows_keep l seen [] rows h.1)
paragraph-keeps (many key a b l rule) seen rows h = (refl, count_fits key a b (length rows) h.0 h.1, rows_keep l seen [] rows h.2)

abbrev ShapedIn : Firing → Entry → Type 0
ShapedIn f e = Shaped e.paragraph (e.says f)

entries_keep : (f : Firing) (es : List Entry) (seen : Sheet) → Every (ShapedIn f) es → ParagraphsKeep (map unruled (paragraphs_of es)) seen (map (fill f) es)
entries_keep f [] seen h = tt
entries_keep f (e ∷ es) seen h = (paragraph-keeps e.paragraph seen (e.says f) h.0, entries_keep f es (seen ++ (fill f e ∷ [])) h.1)

-- a line of its own
line-shaped : (l : Line) (zs : List ℤ) → InRanges l.fields zs → Shaped (one l free) (plain zs ∷ [])
line-shaped l zs h = (refl, (fit l zs h, tt))

-- a block: so many things, each of which has a fitting row
module _ {A : Type 0} (a b : ℕ) (l : Line) (numbers : A → List ℤ) (P : A → Type 0) where
  block-shaped : ((x : A) → P x → InRanges l.fields (numbers x)) → (xs : List A) → a ≤ length xs → length xs ≤ b → Every P xs
      → Shaped (many [] a b l free) (map (λ x. plain (numbers x)) xs)
  block-shaped h xs m n k =
      let row : A → Row = λ x. plain (numbers x) in
      let e = length-map xs row in
      (omega arith, omega arith, made_every row (λ r. fits l r ≡ true) xs (every_imp (λ x p. fit l (numbers x) (h x p)) xs k))

-- a stage with an analysis, and one without, by what its sheet has
no_analysis_lem : (x : Stage) (o : Option Analysis) → has o ≡ false → FlueIn x.flue x.co o → In flue x.flue
no_analysis_lem x none e k = k
no_analysis_lem x (some a) e k = clash cc

its-analysis : (x : Stage) (o : Option Analysis) → has o ≡ true → FlueIn x.flue x.co o → AnalysisIn x.flue x.co (analysis_of o)
its-analysis x none e k = clash cc
its-analysis x (some a) e k = k

-- THE FORM of a firing's sheet, line by line as in document 01's table
module _ (f : Firing) (h : Lawful f) where
  stuff : (x : Stuff) → StuffIn x → InRanges (material ∷ capacity ∷ []) (x.material ∷ x.c ∷ [])
  stuff x k = k.material & k.c & tt

  abbrev Staged-by : Bool → Stage → Type 0
  Staged-by t x = StageIn x × (has x.analysis ≡ t)

  staged-by : (t : Bool) → analysed f.edition ≡ t → Every (Staged-by t) f.stages
  staged-by t e = every_with (λ x k o. (k, o ∙ e)) f.stages h.stages h.own

  stages-shaped : (t : Bool) → Every (Staged-by t) f.stages → Every (ShapedIn f) (cond t analysed_staging staging)
  stages-shaped true k =
      block-shaped 1 stages_most analysed_line (λ (x : Stage). (analysed_row x).numbers) (Staged-by true)
      (λ x k.
      let a = its-analysis x x.analysis k.1 k.0.flue in
      k.0.gas & k.0.excess & a.flue & k.0.co & a.pair & a.oxygen & k.0.minutes & tt)
      f.stages h.stages_some h.stages_most k
      & tt
  stages-shaped false k =
      block-shaped 1 stages_most stage_line (λ (x : Stage). (stage_row x).numbers) (Staged-by false)
      (λ x k. k.0.gas & k.0.excess & no_analysis_lem x x.analysis k.1 k.0.flue & k.0.co & k.0.minutes & tt)
      f.stages h.stages_some h.stages_most k
      & tt

  upper : Every (ShapedIn f) (opening ∷ (heading ++ (fuelling ++ drying)))
  upper =
      let ware = h.ware in
      let water = h.water in
      line-shaped sheet_line _ (h.edition & tt)
      & line-shaped firing_line _ (h.number & tt)
      & line-shaped product_line _ (h.product & tt)
      & line-shaped ambient_line _ (h.ambient & tt)
      & line-shaped fuel_line _ (h.heating & h.fuel_temperature & tt)
      & line-shaped gas_line _ h.gas.each
      & line-shaped air_line _ (h.moisture & tt)
      & line-shaped ware_line _ (ware.green & ware.entry & ware.highest & stuff f.ware.stuff ware.stuff)
      & line-shaped water_line _ (water.adsorbed & water.crystal & water.flue & tt)
      & line-shaped clay_line _ (h.clay & tt)
      & tt

  lower : Every (ShapedIn f) (loading ++ (surfaces ++ ending))
  lower =
      let setters = block-shaped 0 setters_most setter_line (λ (x : Setter). (setter_row x).numbers) SetterIn
      (λ x k. k.mass & k.entry & stuff x.stuff k.stuff) in
      let parts = block-shaped 0 parts_most part_line (λ (x : Part). (part_row x).numbers) PartIn
      (λ x k. k.mass & k.stuff.material & k.stuff.c & k.before & k.firing & tt) in
      let sections = block-shaped 1 sections_most section_line (λ (x : Section). (section_row x).numbers) SectionIn
      (λ x k. k.number & k.place & k.area & tt) in
      let walls = block-shaped 0 walls_most wall_line (λ (x : Wall). (wall_row x).numbers) (WallIn f)
      (λ x k. k.section & k.stage & k.surface & k.air & tt) in
      setters f.setters (omega arith) h.setters_most h.setters
      & parts f.parts (omega arith) h.parts_most h.parts
      & sections f.sections h.sections_some h.sections_most h.sections
      & walls f.walls (omega arith) h.walls_most h.walls
      & line-shaped end_line _ (record { low = le_z_yes tt; high = le_z_yes tt } & tt)
      & tt

  shaped : Every (ShapedIn f) (opening ∷ entries_of f.edition)
  unfolding entries_by
  shaped =
      let t = analysed f.edition in
      every_join (ShapedIn f) (opening ∷ (heading ++ (fuelling ++ drying))) (cond t analysed_staging staging ++ (loading ++ (surfaces ++ ending))) upper
      (every_join (ShapedIn f) (cond t analysed_staging staging) (loading ++ (surfaces ++ ending)) (stages-shaped t (staged-by t refl)) lower)

  form_keeps : Keeps form_only (sheet_of f)
  form_keeps = record { lines = (formed-lines (sheet_of f)).from (entries_keep f (opening ∷ entries_of f.edition) [] shaped); whole = refl }

  -- AND ITS RULES: the rows that they are about, whatever stages the sheet has
  abbrev sheet_by : Bool → Sheet
  sheet_by t = map (fill f) (opening ∷ entries_by t)

  record Under (t : Bool) : Type 0 where
    ware : rows_of (bytes "ware") (sheet_by t) ≡ ware_row f.ware ∷ []
    gas : rows_of (bytes "gas") (sheet_by t) ≡ gas_row f.gas ∷ []
    stages : rows_of (bytes "stage") (sheet_by t) ≡ map (cond t analysed_row stage_row) f.stages
    setters : rows_of (bytes "setter") (sheet_by t) ≡ map setter_row f.setters
    parts : rows_of (bytes "part") (sheet_by t) ≡ map part_row f.parts
    edition : edition_in (sheet_by t) ≡ f.edition

  under : (t : Bool) → Under t
  unfolding entries_by
  under true = record { ware = refl; gas = refl; stages = refl; setters = refl; parts = refl; edition = refl }
  under false = record { ware = refl; gas = refl; stages = refl; setters = refl; parts = refl; edition = refl }

  analyses : (t : Bool) → t ≡ true → Every (Staged-by t) f.stages → Every AnalysisKeeps (map (cond t analysed_row stage_row) f.stages)
  analyses true e k =
      made_every analysed_row AnalysisKeeps f.stages
      (every_imp (λ x k less. clash_ℤ less (its-analysis x x.analysis k.1 k.0.flue).together) f.stages k)
  analyses false e k = clash cc

  rules_keep : KeepsRules (sheet_of f)
  rules_keep =
      let back = sym (firing-back f h.own) in
      let t = analysed f.edition in
      let u = under t in
      record {
        ware = rw u.ware (h.ware.stuff.own, tt);
        setters = rw u.setters (made_every setter_row (MaterialKeeps 2) f.setters (every_imp (λ x k. k.stuff.own) f.setters h.setters));
        parts = rw u.parts (made_every part_row (MaterialKeeps 1) f.parts (every_imp (λ x k. k.stuff.own) f.parts h.parts));
        gas = rw u.gas ((h.gas.sum, h.gas.air), tt);
        stages = λ e. rw u.stages (analyses t (sym (ap analysed u.edition) ∙ e) (staged-by t refl));
        numbered = subst (λ (g : Firing). NoTwo SameNumber g.sections) back h.numbered;
        listed = subst (λ (g : Firing). Every (Listed g.sections) g.walls) back (every_imp (λ w k. k.listed) f.walls h.walls);
        staged = subst (λ (g : Firing). Every (Staged g.stages) g.walls) back (every_imp (λ w k less. clash_ℤ less k.staged) f.walls h.walls);
        once = subst (λ (g : Firing). NoTwo SameReading g.walls) back h.once;
        read = subst (λ (g : Firing). AllRead g.stages g.sections g.walls) back h.read;
        warm = subst (λ (g : Firing). Every Warm g.walls) back (every_imp (λ w k less. clash_ℤ less k.warmer) f.walls h.walls);
        total = subst (λ (g : Firing). TotalKeeps g.stages) back (h.total.low, h.total.high);
      }

  -- THE LAW
  pub lawful_keeps : Keeps document (sheet_of f)
  lawful_keeps = all-kept (sheet_of f) form_keeps rules_keep
