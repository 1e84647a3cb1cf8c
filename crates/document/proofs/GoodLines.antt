-- A line is good just where it passes the reader's tests: its row fits, and the rule that is due says nothing. So of the rows of a block, of
-- a paragraph and of all lines. Assumes nothing.
use Prim.Native.Nat.{ℕ}
use mathlib.Core.Path.{◌≡◌, refl, sym, ap, subst}
use mathlib.Core.List.{List, [], ◌∷◌, ◌++◌}
use mathlib.Core.Option.{none}
use mathlib.Core.Bool.{Bool, true, false}
use lib.ListN.{length}
use lib.IntN.{ℤ, pos}
use Rattle.sheet.specs.Quantities.{to}
use Rattle.document.specs.Schema.{Line, Row, plain, fits}
use Rattle.document.specs.Reader.{Filled, Sheet, Rule, Paragraph, one, many, count_line, filled, Along, RowsKeep, ParagraphKeeps, ParagraphsKeep, LinesKeep}
use Rattle.document.specs.Tests.{free}
use Rattle.document.specs.Entries.{paragraphs_of}
use Rattle.document.specs.Editions.{entries_by, entries_of, lines_of, document}
use Rattle.document.specs.Rows.{edition_in, analysed}
use Rattle.document.specs.Rules.{Every}
use Rattle.document.specs.Lawful.{In}
use Rattle.document.specs.GoodLines.{GoodRow, GoodRows, GoodParagraph, GoodLines}
use Rattle.document.proofs.Judged.{is-fit, fits-plain}
use Rattle.document.proofs.Above.{Same}
use Rattle.document.proofs.Fields.{ranges_in, in_ranges_lem, field_in}
use Rattle.document.proofs.Entries.{◌&◌}
use Rattle.document.proofs.KeyRules.{rule_for, row-asks}

-- A PARAGRAPH'S RULE is the rule of its key, and its count has none
abbrev pub ByKey : Paragraph → Type 0
ByKey (one l rule) = rule ≡ rule_for l.key (length l.fields)
ByKey (many key a b l rule) = (rule ≡ rule_for l.key (length l.fields)) × (free ≡ rule_for key 1)

pub first-by-key : ByKey document.first
unfolding rule_for
first-by-key = refl

pub lines-by-key : (edition : ℤ) → Every ByKey (lines_of edition)
unfolding entries_by rule_for
lines-by-key edition = here (analysed edition)
  where
    here : (t : Bool) → Every ByKey (paragraphs_of (entries_by t))
    here true =
        refl & refl & refl & refl & refl & refl & refl & refl & refl & (refl, refl) & (refl, refl) & (refl, refl) & (refl, refl) & (refl, refl) & refl & tt
    here false =
        refl & refl & refl & refl & refl & refl & refl & refl & refl & (refl, refl) & (refl, refl) & (refl, refl) & (refl, refl) & (refl, refl) & refl & tt

-- A LINE
pub row-good : (l : Line) (above : Sheet) (row : Row)
    → Same ((fits l row ≡ true) × (rule_for l.key (length l.fields) above row ≡ none)) (GoodRow l above row)
row-good l above row =
    let asks = row-asks l.key (length l.fields) above row in
    record {
      to = λ h.
          let f = is-fit l row h.0 in
          record {
            nameless = ap (λ (x : Row). x.name) f.unnamed;
            within = ranges_in l.fields row.numbers f.inside;
            keeps = asks.to h.1;
          };
      from = λ g.
          let unnamed : row ≡ plain row.numbers = ap (λ (x : List ℕ). record { numbers = row.numbers; name = x }) g.nameless in
          let fit = fits-plain l row.numbers (in_ranges_lem l.fields row.numbers g.within) in
          (subst (λ (x : Row). fits l x ≡ true) (sym unnamed) fit, asks.from g.keeps);
    }

-- THE ROWS OF A BLOCK
rows_same : (l : Line) (above : Sheet) (before rows : List Row)
    → Same (RowsKeep l (rule_for l.key (length l.fields)) above before rows) (GoodRows l above before rows)
rows_same l above before [] = record { to = λ h. h; from = λ h. h }
rows_same l above before (row ∷ rows) =
    let here = row-good l (above ++ filled l before) row in
    let rest = rows_same l above (before ++ (row ∷ [])) rows in
    record {
      to = λ h. (here.to (h.0, h.1), rest.to h.2);
      from = λ g. let a = here.from g.0 in (a.0, a.1, rest.from g.1);
    }

pub rows-good : (l : Line) (rule : Rule) → rule ≡ rule_for l.key (length l.fields) → (above : Sheet) (rows : List Row)
    → Same (RowsKeep l rule above [] rows) (GoodRows l above [] rows)
rows-good l rule k above rows =
    subst (λ (x : Rule). Same (RowsKeep l x above [] rows) (GoodRows l above [] rows)) (sym k) (rows_same l above [] rows)

-- A PARAGRAPH
pub count-good : (key : List ℕ) (a b n : ℕ) → Same (fits (count_line key a b) (plain (pos n ∷ [])) ≡ true) (In (to a b) (pos n))
count-good key a b n =
    let line = count_line key a b in
    record {
      to = λ e. field_in line (plain (pos n ∷ [])) e 0;
      from = λ h. fits-plain line (pos n ∷ []) (in_ranges_lem line.fields (pos n ∷ []) (h, tt));
    }

pub paragraph-good : (p : Paragraph) → ByKey p → (above : Sheet) (f : Filled) → Same (ParagraphKeeps p above f) (GoodParagraph p above f)
paragraph-good (one l rule) k above f =
    let rows = rows-good l rule k above f.rows in
    record { to = λ h. (h.0, h.1, rows.to h.2); from = λ g. (g.0, g.1, rows.from g.2) }
paragraph-good (many key a b l rule) k above f =
    let rows = rows-good l rule k.0 above f.rows in
    let count = count-good key a b (length f.rows) in
    record { to = λ h. (h.0, count.to h.1, rows.to h.2); from = λ g. (g.0, count.from g.1, rows.from g.2) }

paragraphs_good : (ps : List Paragraph) → Every ByKey ps → (above sheet : Sheet) → Same (ParagraphsKeep ps above sheet) (Along GoodParagraph ps above sheet)
paragraphs_good [] k above [] = record { to = λ h. h; from = λ g. g }
paragraphs_good [] k above (f ∷ fs) = record { to = λ h. h; from = λ g. g }
paragraphs_good (p ∷ ps) k above [] = record { to = λ h. h; from = λ g. g }
paragraphs_good (p ∷ ps) k above (f ∷ fs) =
    let here = paragraph-good p k.0 above f in
    let rest = paragraphs_good ps k.1 (above ++ (f ∷ [])) fs in
    record { to = λ h. (here.to h.0, rest.to h.1); from = λ g. (here.from g.0, rest.from g.1) }

-- ALL LINES
pub lines-good : (sheet : Sheet) → Same (LinesKeep document sheet) (GoodLines document sheet)
lines-good [] = record { to = λ h. h; from = λ g. g }
lines-good (f ∷ fs) =
    let here = paragraph-good document.first first-by-key [] f in
    let rest = paragraphs_good (document.below (f ∷ [])) (lines-by-key (edition_in (f ∷ []))) (f ∷ []) fs in
    record { to = λ h. (here.to h.0, rest.to h.1); from = λ g. (here.from g.0, rest.from g.1) }
