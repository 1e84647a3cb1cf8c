-- A sheet keeps document 01 just where it has its form and keeps its plain rules, and it is the sheet of its firing. Assumes nothing.
use mathlib.Core.Path.{◌≡◌, refl, sym, subst, ◌∙◌}
use mathlib.Core.List.{List, [], ◌∷◌, map}
use mathlib.Core.Option.{Option, none}
use lib.IntN.{ℤ}
use Rattle.text.specs.Bytes.{bytes}
use Rattle.sheet.specs.declared.Refusal.{Refusal}
use Rattle.document.specs.Reader.{Sheet, rows_of, Paragraph, key_of, ParagraphsKeep, LinesKeep, Keeps}
use Rattle.document.specs.Tests.{whole-rule}
use Rattle.document.specs.Entries.{Entry, paragraphs_of, fill}
use Rattle.document.specs.Document01.{opening}
use Rattle.document.specs.Editions.{entries_by, entries_of, document, sheet_of, unruled, form_only}
use Rattle.document.specs.Rules.{Every, KeepsRules}
use Rattle.document.specs.Rows.{edition_in, stages_in, sections_in, walls_in, firing_of}
use Rattle.document.proofs.Rules.{whole-asks}
use Rattle.document.proofs.Lists.{every_made, made_every}
use Rattle.document.proofs.Above.{Same, RowsRuled, paragraphs_split, paragraphs_join}
use Rattle.document.proofs.Forms.{ParagraphForm, Keyed, by_key, form_of, under, refilled}
use Rattle.document.proofs.Ruled.{RuledAt}
use Rattle.document.proofs.Entries.{SaidBack, FormedAt, all_lines, AllKeep, sheets}

-- THE LINES, the first with those that it chooses: what it says is the edition, also of the whole sheet
all_lines_lem : (below : ℤ → List Paragraph) (whole : Sheet → Option Refusal) (sheet : Sheet)
    → Same (LinesKeep (record { first = opening.paragraph; below = λ seen. below (edition_in seen); whole = whole }) sheet)
    (ParagraphsKeep (opening.paragraph ∷ below (edition_in sheet)) [] sheet)
all_lines_lem below whole [] = record { to = λ k. k; from = λ k. k }
all_lines_lem below whole (f ∷ fs) =
    let e : f.key ≡ bytes "sheet" → edition_in (f ∷ []) ≡ edition_in (f ∷ fs) = λ k. rw k in
    record {
      to = λ k. (k.0, subst (λ (z : ℤ). ParagraphsKeep (below z) (f ∷ []) fs) (e k.0.0) k.1);
      from = λ k. (k.0, subst (λ (z : ℤ). ParagraphsKeep (below z) (f ∷ []) fs) (sym (e k.0.0)) k.1);
    }

ruled-lines : (sheet : Sheet) → Same (LinesKeep document sheet) (ParagraphsKeep (all_lines (edition_in sheet)) [] sheet)
ruled-lines sheet = all_lines_lem (λ z. paragraphs_of (entries_of z)) whole-rule sheet

pub formed-lines : (sheet : Sheet) → Same (LinesKeep form_only sheet) (ParagraphsKeep (map unruled (all_lines (edition_in sheet))) [] sheet)
formed-lines sheet = all_lines_lem (λ z. map unruled (paragraphs_of (entries_of z))) (λ s. none) sheet

pub form_kept : (sheet : Sheet) → Keeps document sheet → Keeps form_only sheet
form_kept sheet k =
    let ps = all_lines (edition_in sheet) in
    record { lines = (formed-lines sheet).from (paragraphs_split ps [] sheet ((ruled-lines sheet).to k.lines)).0; whole = refl }

-- THE FORM: the rows under each key, and the sheet is its firing's; for this the rules do not count
pub record FormIn (sheet : Sheet) : Type 0 where
  pub keyed : Keyed (all_lines (edition_in sheet)) sheet
  pub each : Every (FormedAt sheet) (opening ∷ entries_of (edition_in sheet))

pub form_in : (sheet : Sheet) → Keeps form_only sheet → FormIn sheet
form_in sheet k =
    let es = opening ∷ entries_of (edition_in sheet) in
    let f = form_of (paragraphs_of es) sheet (sheets (edition_in sheet)).distinct ((formed-lines sheet).to k.lines) in
    record { keyed = f.keyed; each = every_made (λ e. e.paragraph) (λ p. ParagraphForm p (rows_of (key_of p) sheet)) es f.each }

said : (s : Sheet) (es : List Entry) → Every (SaidBack (edition_in s)) es → Every (FormedAt s) es → map (fill (firing_of s)) es ≡ map (under s) (paragraphs_of es)
said s [] l k = refl
said s (x ∷ es) l k = rw (l.0.back s refl k.0, said s es l.1 k.1)

pub form_back : (sheet : Sheet) → Keeps form_only sheet → sheet_of (firing_of sheet) ≡ sheet
form_back sheet k =
    let f = form_in sheet k in
    let laws = sheets (edition_in sheet) in
    said sheet (opening ∷ entries_of (edition_in sheet)) laws.groups.each f.each ∙ refilled (all_lines (edition_in sheet)) sheet laws.distinct f.keyed

pub sheet-back : (sheet : Sheet) → Keeps document sheet → sheet_of (firing_of sheet) ≡ sheet
sheet-back sheet k = form_back sheet (form_kept sheet k)

-- THE PLAIN RULES ARE WHAT THE TESTS ASK: of the lines group by group, and of the whole
lines-ruled : (sheet : Sheet) → Keyed (all_lines (edition_in sheet)) sheet → Same (Every (RuledAt sheet) (all_lines (edition_in sheet))) (AllKeep sheet)
lines-ruled sheet e =
    let es = opening ∷ entries_of (edition_in sheet) in
    let asked = (sheets (edition_in sheet)).groups.asked sheet refl e in
    record {
      to = λ r. asked.to (every_made (λ x. x.paragraph) (RuledAt sheet) es r);
      from = λ k. made_every (λ x. x.paragraph) (RuledAt sheet) es (asked.from k);
    }

pub lines-kept : (sheet : Sheet) → Keeps document sheet → AllKeep sheet
lines-kept sheet k =
    let ps = all_lines (edition_in sheet) in
    let e = (form_in sheet (form_kept sheet k)).keyed in
    (lines-ruled sheet e).to
    ((by_key RowsRuled ps [] sheet (sheets (edition_in sheet)).distinct e).to (paragraphs_split ps [] sheet ((ruled-lines sheet).to k.lines)).1)

-- THE LAWS, of any sheet
pub rules-kept : (sheet : Sheet) → Keeps document sheet → KeepsRules sheet
rules-kept sheet k =
    let lines = lines-kept sheet k in
    let readings = lines.surfaces.readings in
    let whole = (whole-asks (stages_in sheet) (sections_in sheet) (walls_in sheet)).to k.whole in
    record {
      ware = lines.ware;
      setters = lines.loading.setters;
      parts = lines.loading.parts;
      gas = lines.gas;
      stages = lines.stages;
      numbered = lines.surfaces.numbered;
      listed = readings.listed;
      staged = readings.staged;
      once = readings.once;
      read = whole.1;
      warm = readings.warm;
      total = whole.0;
    }

pub all-kept : (sheet : Sheet) → Keeps form_only sheet → KeepsRules sheet → Keeps document sheet
all-kept sheet k r =
    let ps = all_lines (edition_in sheet) in
    let e = (form_in sheet k).keyed in
    let lines : AllKeep sheet = record {
      gas = r.gas;
      ware = r.ware;
      stages = r.stages;
      loading = record { setters = r.setters; parts = r.parts };
      surfaces = record { numbered = r.numbered; readings = record { listed = r.listed; staged = r.staged; once = r.once; warm = r.warm } };
    } in
    let tests = (by_key RowsRuled ps [] sheet (sheets (edition_in sheet)).distinct e).from ((lines-ruled sheet e).from lines) in
    record {
      lines = (ruled-lines sheet).from (paragraphs_join ps [] sheet ((formed-lines sheet).to k.lines) tests);
      whole = (whole-asks (stages_in sheet) (sections_in sheet) (walls_in sheet)).from (r.total, r.read);
    }
