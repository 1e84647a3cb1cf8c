-- What holds of a sheet's entries, group by group: each is said back, is in its ranges and keeps its rule. A group that two
-- sheets share is proved once, and a sheet is its groups one behind the other. Assumes nothing.
use Prim.Native.Nat.{◌≤◌}
use mathlib.Core.Path.{◌≡◌, refl, sym, ap, subst, ◌∙◌}
use mathlib.Core.List.{List, [], ◌∷◌, ◌++◌, map}
use mathlib.Core.Bool.{Bool, true, false, cond}
use lib.ListN.{length}
use lib.IntN.{ℤ, pos}
use lib.Signed.{◌<ℤ◌}
use Rattle.text.specs.Bytes.{bytes}
use Rattle.sheet.specs.Firing.{Stage, Wall, Firing}
use Rattle.sheet.specs.Block.{sum}
use Rattle.document.specs.Schema.{Row}
use Rattle.document.specs.Reader.{Sheet, rows_of, Paragraph, key_of}
use Rattle.sheet.specs.Quantities.{edition, firing, product, ambient, heating, fuel_temperature, share, moisture, mass, section_number, stage_number, surface, near_air, stages_most, setters_most, parts_most, sections_most, walls_most, gases, analysis_most}
use Rattle.document.specs.Tests.{weigh, air_weights}
use Rattle.document.specs.Entries.{Entry, paragraphs_of}
use Rattle.document.specs.Document01.{gas_line, stage_line, setter_line, part_line, section_line, wall_line, opening, heading, fuelling, drying, staging, loading, surfaces, ending}
use Rattle.document.specs.Sheet2.{analysed_line, analysed_staging}
use Rattle.document.specs.Editions.{entries_by, entries_of}
use Rattle.document.specs.Rules.{Every, NoTwo, MaterialKeeps, GasKeeps, AnalysisKeeps, SameNumber, Listed, Staged, SameReading, Warm}
use Rattle.document.specs.Rows.{gas_of, analysed, stage_row, stage_of, analysed_row, analysed_of, setter_row, setter_of, part_row, part_of, section_row, section_of, wall_row, wall_of, first, edition_in, stage_as, stages_in, sections_in, wall_as, walls_in, firing_of}
use Rattle.document.specs.Lawful.{has, Own, In, GasIn, WareIn, WaterIn, StageIn, SetterIn, PartIn, SectionIn, WallIn}
use Rattle.document.proofs.Judged.{is-fit}
use Rattle.document.proofs.Rules.{material-asks, gas-asks, analysis-asks}
use Rattle.document.proofs.Lists.{every_with, every_one, every_join, every-split, made_every}
use Rattle.document.proofs.Cases.{clash}
use Rattle.document.proofs.Above.{Same}
use Rattle.document.proofs.Forms.{OneRow, ParagraphForm, Keyed, distinct}
use Rattle.document.proofs.Rows.{row_back, one-back, many-back, end_back}
use Rattle.document.proofs.Fields.{all_in, one_in, many_in, one-ruled, many-ruled, enough, few, not-below}
use Rattle.document.proofs.Ruled.{RuledAt, alone, unasked, sections-ruled, Readings, ordered, walls-ruled}

-- ONE ENTRY: what the firing of a sheet says there is what the sheet says
pub record SaidBack (edition : ℤ) (e : Entry) : Type 0 where
  pub back : (s : Sheet) → edition_in s ≡ edition → ParagraphForm e.paragraph (rows_of (key_of e.paragraph) s)
      → e.says (firing_of s) ≡ rows_of (key_of e.paragraph) s

abbrev pub FormedAt : Sheet → Entry → Type 0
FormedAt s e = ParagraphForm e.paragraph (rows_of (key_of e.paragraph) s)

abbrev pub all_lines : ℤ → List Paragraph
all_lines edition = paragraphs_of (opening ∷ entries_of edition)

-- A GROUP: what its rules ask of the sheet, and what is then known of the firing
pub record Group (edition : ℤ) (es : List Entry) (Known : Firing → Type 0) (Asked : Sheet → Type 0) : Type 0 where
  pub each : Every (SaidBack edition) es
  pub known : (s : Sheet) → edition_in s ≡ edition → Every (FormedAt s) es → Asked s → Known (firing_of s)
  pub asked : (s : Sheet) → edition_in s ≡ edition → Keyed (all_lines edition) s → Same (Every (λ e. RuledAt s e.paragraph) es) (Asked s)

infixr 5 ◌then◌
pub ◌then◌ : {edition : ℤ} {a b : List Entry} {K L : Firing → Type 0} {A B : Sheet → Type 0}
    → Group edition a K A → Group edition b L B → Group edition (a ++ b) (λ f. K f × L f) (λ s. A s × B s)
◌then◌ {edition = edition} {a = a} {b = b} g h = record {
  each = every_join (SaidBack edition) a b g.each h.each;
  known = λ s e k r. let m = every-split (FormedAt s) a b k in (g.known s e m.0 r.0, h.known s e m.1 r.1);
  asked = λ s e k. record {
    to = λ r. let m = every-split (λ x. RuledAt s x.paragraph) a b r in ((g.asked s e k).to m.0, (h.asked s e k).to m.1);
    from = λ r. every_join (λ x. RuledAt s x.paragraph) a b ((g.asked s e k).from r.0) ((h.asked s e k).from r.1);
  };
}

infixr 5 ◌&◌
abbrev pub ◌&◌ : {A B : Type 0} → A → B → A × B
◌&◌ a b = (a, b)

-- a row is so read in an edition
abbrev ReadAs : {A : Type 0} → ℤ → (ℤ → Row → A) → (Row → A) → Type 0
ReadAs edition as-it of = (s : Sheet) → edition_in s ≡ edition → (r : Row) → as-it (edition_in s) r ≡ of r

-- nothing asked, nothing known
abbrev pub Silent : {A : Type 0} → A → Type 0
Silent a = Unit {0}

-- ---- SHEET
pub record OpeningIn (f : Firing) : Type 0 where
  pub edition : In edition f.edition

pub opening_laws : {edition : ℤ} → Group edition (opening ∷ []) OpeningIn Silent
opening_laws = record {
  each = record { back = λ s e. one-back } & tt;
  known = λ s e k a. record { edition = one_in k.0 0 };
  asked = λ s e k. record { to = λ r. tt; from = λ r. unasked s _ (λ t r. refl) & tt };
}

-- ---- FIRING, PRODUCT, AMBIENT
pub record HeadingIn (f : Firing) : Type 0 where
  pub number : In firing f.number
  pub product : In product f.product
  pub ambient : In ambient f.ambient

pub heading_laws : {edition : ℤ} → Group edition heading HeadingIn Silent
heading_laws = record {
  each =
      record { back = λ s e. one-back }
      & record { back = λ s e. one-back }
      & record { back = λ s e. one-back }
      & tt;
  known = λ s e k a. record { number = one_in k.0 0; product = one_in k.1.0 0; ambient = one_in k.1.1.0 0 };
  asked = λ s e k. record { to = λ r. tt; from = λ r. unasked s _ (λ t r. refl) & unasked s _ (λ t r. refl) & unasked s _ (λ t r. refl) & tt };
}

-- ---- FUEL, GAS
pub record FuellingIn (f : Firing) : Type 0 where
  pub heating : In heating f.fuel.heating
  pub temperature : In fuel_temperature f.fuel.temperature
  pub gas : GasIn f.gas

gas_in : {rows : List Row} → OneRow gas_line rows → Every GasKeeps rows → GasIn (gas_of (first rows))
gas_in {rows = rows} o k =
    let back = sym (row_back gas_line o.row o.fit) in
    let kept = (subst (λ (l : List Row). Every GasKeeps l) o.is k).0 in
    rw o.is (record {
      each = subst (λ (r : Row). Every (In share) r.numbers) back (all_in gases share o.row.numbers (is-fit gas_line o.row o.fit).inside);
      sum = subst (λ (r : Row). sum (λ z. z) r.numbers ≡ pos 10000) back kept.0;
      air = subst (λ (r : Row). pos 0 <ℤ weigh air_weights r.numbers) back kept.1;
    })

pub fuelling_laws : {edition : ℤ} → Group edition fuelling FuellingIn (λ s. Every GasKeeps (rows_of (bytes "gas") s))
fuelling_laws = record {
  each = record { back = λ s e. one-back } & record { back = λ s e. one-back } & tt;
  known = λ s e k a. record { heating = one_in k.0 0; temperature = one_in k.0 1; gas = gas_in k.1.0 a };
  asked = λ s e k. let gas = alone s _ gas-asks in record { to = λ r. gas.to r.1.0; from = λ r. unasked s _ (λ t r. refl) & gas.from r & tt };
}

-- ---- AIR, WARE, WATER, CLAY
pub record DryingIn (f : Firing) : Type 0 where
  pub moisture : In moisture f.moisture
  pub ware : WareIn f.ware
  pub water : WaterIn f.water
  pub clay : In mass f.clay

pub drying_laws : {edition : ℤ} → Group edition drying DryingIn (λ s. Every (MaterialKeeps 3) (rows_of (bytes "ware") s))
drying_laws = record {
  each =
      record { back = λ s e. one-back }
      & record { back = λ s e. one-back }
      & record { back = λ s e. one-back }
      & record { back = λ s e. one-back }
      & tt;
  known = λ s e k a.
      let ware = one_in k.1.0 in
      let water = one_in k.1.1.0 in
      record {
        moisture = one_in k.0 0;
        ware = record {
          green = ware 0;
          entry = ware 1;
          highest = ware 2;
          stuff = record { material = ware 3; c = ware 4; own = one-ruled (MaterialKeeps 3) k.1.0 a };
        };
        water = record { adsorbed = water 0; crystal = water 1; flue = water 2 };
        clay = one_in k.1.1.1.0 0;
      };
  asked = λ s e k.
      let ware = alone s _ (material-asks 3) in
      record {
        to = λ r. ware.to r.1.0;
        from = λ r. unasked s _ (λ t r. refl) & ware.from r & unasked s _ (λ t r. refl) & unasked s _ (λ t r. refl) & tt;
      };
}

-- ---- STAGES
pub record StagingIn (f : Firing) : Type 0 where
  pub each : Every StageIn f.stages
  pub own : Every (Own f.edition) f.stages
  pub some : 1 ≤ length f.stages
  pub most : length f.stages ≤ stages_most

-- 14, of a sheet whose flue is analysed
abbrev pub StagesKeep : Sheet → Type 0
StagesKeep s = analysed (edition_in s) ≡ true → Every AnalysisKeeps (rows_of (bytes "stage") s)

stages-own : (edition : ℤ) (rows : List Row) → Every (Own edition) (map (stage_as edition) rows)
stages-own edition rows = made_every (stage_as edition) (Own edition) rows (every_one (λ r. here (analysed edition) r) rows)
  where
    here : (t : Bool) (r : Row) → has (cond t (analysed_of r) (stage_of r)).analysis ≡ t
    here true r = refl
    here false r = refl

pub staging_laws : {edition : ℤ} → analysed edition ≡ false → ReadAs edition stage_as stage_of → Group edition staging StagingIn StagesKeep
staging_laws {edition} plainly read = record {
  each = record { back = λ s e. many-back stage_row (stage_as (edition_in s)) (λ r h. ap stage_row (read s e r) ∙ row_back stage_line r h) } & tt;
  known = λ s e k a. record {
    each = many_in StageIn (stage_as (edition_in s)) k.0 (λ r z.
        subst (λ (x : Stage). StageIn x) (sym (read s e r)) (record { gas = z 0; excess = z 1; flue = z 2; co = z 3; minutes = z 4 }));
    own = stages-own (edition_in s) (rows_of (bytes "stage") s);
    some = enough (stage_as (edition_in s)) k.0;
    most = few (stage_as (edition_in s)) k.0;
  };
  asked = λ s e k. record {
    to = λ r t. let z : analysed (edition_in s) ≡ false = ap analysed e ∙ plainly in clash cc;
    from = λ r. unasked s _ (λ t r. refl) & tt;
  };
}

-- (sheet 2)
pub analysed_laws : {edition : ℤ} → analysed edition ≡ true → ReadAs edition stage_as analysed_of → Group edition analysed_staging StagingIn StagesKeep
analysed_laws {edition} Has-one read = record {
  each = record { back = λ s e. many-back analysed_row (stage_as (edition_in s)) (λ r h. ap analysed_row (read s e r) ∙ row_back analysed_line r h) } & tt;
  known = λ s e k a. record {
    each = many-ruled StageIn AnalysisKeeps (stage_as (edition_in s)) k.0 (a (ap analysed e ∙ Has-one)) (λ r z m.
        subst (λ (x : Stage). StageIn x) (sym (read s e r)) (record {
          gas = z 0;
          excess = z 1;
          flue = record { flue = z 2; pair = z 4; oxygen = z 5; together = not-below (pos analysis_most) _ m };
          co = z 3;
          minutes = z 6;
        }));
    own = stages-own (edition_in s) (rows_of (bytes "stage") s);
    some = enough (stage_as (edition_in s)) k.0;
    most = few (stage_as (edition_in s)) k.0;
  };
  asked = λ s e k.
      let rows = alone s _ analysis-asks in
      record { to = λ r t. rows.to r.0; from = λ a. rows.from (a (ap analysed e ∙ Has-one)) & tt };
}

stages-of : (edition : ℤ) → Group edition (cond (analysed edition) analysed_staging staging) StagingIn StagesKeep
stages-of edition = here (analysed edition) refl
  where
    here : (t : Bool) → analysed edition ≡ t → Group edition (cond t analysed_staging staging) StagingIn StagesKeep
    here true q = analysed_laws q (λ s e r. rw (e, q))
    here false q = staging_laws q (λ s e r. rw (e, q))

-- ---- SETTERS, PARTS
pub record LoadingIn (f : Firing) : Type 0 where
  pub setters : Every SetterIn f.setters
  pub setters_most : length f.setters ≤ setters_most
  pub parts : Every PartIn f.parts
  pub parts_most : length f.parts ≤ parts_most

pub record LoadingKeeps (s : Sheet) : Type 0 where
  pub setters : Every (MaterialKeeps 2) (rows_of (bytes "setter") s)
  pub parts : Every (MaterialKeeps 1) (rows_of (bytes "part") s)

pub loading_laws : {edition : ℤ} → Group edition loading LoadingIn LoadingKeeps
loading_laws = record {
  each =
      record { back = λ s e. many-back setter_row setter_of (row_back setter_line) }
      & record { back = λ s e. many-back part_row part_of (row_back part_line) }
      & tt;
  known = λ s e k a. record {
    setters = many-ruled SetterIn (MaterialKeeps 2) setter_of k.0 a.setters (λ r z m.
        record { mass = z 0; entry = z 1; stuff = record { material = z 2; c = z 3; own = m } });
    setters_most = few setter_of k.0;
    parts = many-ruled PartIn (MaterialKeeps 1) part_of k.1.0 a.parts (λ r z m.
        record { mass = z 0; stuff = record { material = z 1; c = z 2; own = m }; before = z 3; firing = z 4 });
    parts_most = few part_of k.1.0;
  };
  asked = λ s e k.
      let setters = alone s _ (material-asks 2) in
      let parts = alone s _ (material-asks 1) in
      record {
        to = λ r. record { setters = setters.to r.0; parts = parts.to r.1.0 };
        from = λ r. setters.from r.setters & parts.from r.parts & tt;
      };
}

-- ---- SECTIONS, WALLS
pub record SurfacesIn (f : Firing) : Type 0 where
  pub sections : Every SectionIn f.sections
  pub sections_some : 1 ≤ length f.sections
  pub sections_most : length f.sections ≤ sections_most
  pub numbered : NoTwo SameNumber f.sections
  pub walls : Every (WallIn f) f.walls
  pub walls_most : length f.walls ≤ walls_most
  pub once : NoTwo SameReading f.walls

pub record SurfacesKeep (s : Sheet) : Type 0 where
  pub numbered : NoTwo SameNumber (sections_in s)
  pub readings : Readings s

-- a reading's fields, and what the rules say of it
record WallFields (w : Wall) : Type 0 where
  section : In section_number w.section
  stage : In stage_number w.stage
  surface : In surface w.surface
  air : In near_air w.air

walls_in_lem : (s : Sheet) → Readings s → Every WallFields (walls_in s) → Every (WallIn (firing_of s)) (walls_in s)
walls_in_lem s r fields =
    let ws = walls_in s in
    let there = every_with {R = λ w. Staged (stages_in s) w × Warm w} (λ w a b. (a, b)) ws r.staged r.warm in
    let ruled = every_with {R = λ w. Listed (sections_in s) w × (Staged (stages_in s) w × Warm w)} (λ w a b. (a, b)) ws r.listed there in
    every_with (λ w z m. record {
      section = z.section;
      stage = z.stage;
      surface = z.surface;
      air = z.air;
      listed = m.0;
      staged = not-below (pos (length (stages_in s))) w.stage m.1.0;
      warmer = not-below w.surface w.air m.1.1;
    }) ws fields ruled

pub surfaces_laws : {edition : ℤ} → ReadAs edition wall_as wall_of → ordered (all_lines edition) ≡ true → Group edition surfaces SurfacesIn SurfacesKeep
surfaces_laws {edition} read o = record {
  each =
      record { back = λ s e. many-back section_row section_of (row_back section_line) }
      & record {
        back = λ s e. many-back wall_row (wall_as (edition_in s)) (λ r h. ap wall_row (read s e r) ∙ row_back wall_line r h);
      }
      & tt;
  known = λ s e k a. record {
    sections = many_in SectionIn section_of k.0 (λ r z. record { number = z 0; place = z 1; area = z 2 });
    sections_some = enough section_of k.0;
    sections_most = few section_of k.0;
    numbered = a.numbered;
    walls = walls_in_lem s a.readings (many_in WallFields (wall_as (edition_in s)) k.1.0 (λ r z.
        subst (λ (x : Wall). WallFields x) (sym (read s e r)) (record { section = z 0; stage = z 1; surface = z 2; air = z 3 })));
    walls_most = few (wall_as (edition_in s)) k.1.0;
    once = a.readings.once;
  };
  asked = λ s e k.
      let sections = sections-ruled s in
      let walls = walls-ruled wall_line.fields s (all_lines edition) k o in
      record {
        to = λ r. record { numbered = sections.to r.0; readings = walls.to r.1.0 };
        from = λ r. sections.from r.numbered & walls.from r.readings & tt;
      };
}

-- ---- END
pub ending_laws : {edition : ℤ} → Group edition ending Silent Silent
ending_laws = record {
  each = record { back = λ s e. end_back } & tt;
  known = λ s e k a. tt;
  asked = λ s e k. record { to = λ r. tt; from = λ r. unasked s _ (λ t r. refl) & tt };
}

-- ALL SHEETS: the keys of each differ, and it is made of such groups
pub record AllKeep (s : Sheet) : Type 0 where
  pub gas : Every GasKeeps (rows_of (bytes "gas") s)
  pub ware : Every (MaterialKeeps 3) (rows_of (bytes "ware") s)
  pub stages : StagesKeep s
  pub loading : LoadingKeeps s
  pub surfaces : SurfacesKeep s

pub record AllIn (f : Firing) : Type 0 where
  pub opening : OpeningIn f
  pub heading : HeadingIn f
  pub fuelling : FuellingIn f
  pub drying : DryingIn f
  pub staging : StagingIn f
  pub loading : LoadingIn f
  pub surfaces : SurfacesIn f

abbrev Keeping : Sheet → Type 0
Keeping s =
    Unit {0} × (Unit {0} × (Every GasKeeps (rows_of (bytes "gas") s) × (Every (MaterialKeeps 3) (rows_of (bytes "ware") s)
    × (StagesKeep s × (LoadingKeeps s × (SurfacesKeep s × Unit {0}))))))

abbrev Knowing : Firing → Type 0
Knowing f = OpeningIn f × (HeadingIn f × (FuellingIn f × (DryingIn f × (StagingIn f × (LoadingIn f × (SurfacesIn f × Unit {0}))))))

gathered : {edition : ℤ} {es : List Entry} → Group edition es Knowing Keeping → Group edition es AllIn AllKeep
gathered g =
    let back : (s : Sheet) → AllKeep s → Keeping s = λ s k. (tt, (tt, (k.gas, (k.ware, (k.stages, (k.loading, (k.surfaces, tt))))))) in
    record {
      each = g.each;
      known = λ s e k a.
          let known = g.known s e k (back s a) in
          let m = known.1 in
          let n = m.1.1 in
          record { opening = known.0; heading = m.0; fuelling = m.1.0; drying = n.0; staging = n.1.0; loading = n.1.1.0; surfaces = n.1.1.1.0 };
      asked = λ s e k. record {
        to = λ r.
            let m = ((g.asked s e k).to r).1.1 in
            record { gas = m.0; ware = m.1.0; stages = m.1.1.0; loading = m.1.1.1.0; surfaces = m.1.1.1.1.0 };
        from = λ a. (g.asked s e k).from (back s a);
      };
    }

pub record Sheets (edition : ℤ) : Type 0 where
  pub distinct : distinct (all_lines edition) ≡ true
  pub groups : Group edition (opening ∷ entries_of edition) AllIn AllKeep

pub sheets : (edition : ℤ) → Sheets edition
unfolding entries_by
sheets edition = record {
  distinct = apart (analysed edition);
  groups = gathered
      (opening_laws
      then heading_laws
      then fuelling_laws
      then drying_laws
      then stages-of edition
      then loading_laws
      then surfaces_laws (λ s e r. refl) (in_order (analysed edition))
      then ending_laws);
}
  where
    apart : (t : Bool) → distinct (paragraphs_of (opening ∷ entries_by t)) ≡ true
    apart true = refl
    apart false = refl

    in_order : (t : Bool) → ordered (paragraphs_of (opening ∷ entries_by t)) ≡ true
    in_order true = refl
    in_order false = refl
