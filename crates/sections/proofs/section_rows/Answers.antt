-- One section more is read, and its number is none of those above it. Assumes nothing.
use Prim.Native.Nat.{ℕ, suc, ◌+◌, ◌<◌}
use mathlib.Core.Path.{◌≡◌, refl, sym, ap, ◌∙◌}
use mathlib.Core.Bool.{Bool, true, false}
use mathlib.Core.List.{List, [], ◌∷◌, ◌++◌, map, map-append}
use mathlib.Core.Option.{none}
use native.Mathlib.Numerals.{add-one}
use native.Mathlib.Omega.{arith}
use lib.ListN.{take, set, replicate, length-set}
use Rattle.sheet.specs.declared.Refusal.TheVariants.{SectionTwice}
use Rattle.sheet.specs.declared.Section.{Section as Sectionˢ}
use Rattle.sheet.specs.Firing.{Section}
use Rattle.sheet.specs.Shown.{section}
use Rattle.text.specs.Bytes.{bytes}
use Rattle.document.specs.Schema.{Row}
use Rattle.document.specs.Tests.{when, is_listed, section_fault, section-rule}
use Rattle.document.specs.Document01.{section_line}
use Rattle.document.specs.Reader.{Sheet, filled, read_line, read_rows}
use Rattle.document.specs.Rows.{section_of}
use Rattle.document.proofs.Cases.{clash}
use Rattle.sections.proofs.Sections.{distinct_none, distinct_more, numbers-length, numbers-set}
use Rattle.due.specs.declared.Place.{Place}
use Rattle.due.specs.Place.{After}
use Rattle.sheet.specs.Blank.{blank_section}
use Rattle.sheet.specs.Quantities.{sections_most}
use Rattle.sections.specs.Sections.{SectionsShown}
use Rattle.due.specs.Block.{lacks}
use Rattle.due.proofs.Above.{rows-here}
use Rattle.due.proofs.Lines.{rule_as}
use Rattle.due.proofs.Fills.{none_filled, one-filled}
use Rattle.due.proofs.Places.{after_weaker, ready_after}
use Rattle.due.proofs.Sequence.{block_start, block_more}
use Rattle.sections.proofs.section_rows.Goals as goal

-- the document's rule at the rows so far is the code's
rule-here : (seen : Sheet) (i : ℕ) (lines : List Sectionˢ) (rows : List Row) → lacks (bytes "section") seen ≡ true → SectionsShown i lines rows
    → (row : Row) → section_fault (map section (take i lines)) (section_of row) ≡ section-rule (seen ++ filled section_line rows) row
rule-here seen i lines rows e w row =
    ap (λ (S : List Section). section_fault S (section_of row)) (w.filled.shown ∙ ap (map section_of) (sym (rows-here section_line rows seen e)))

not-twice : (t : Bool) → when t SectionTwice ≡ none → t ≡ false
not-twice true e = clash cc
not-twice false e = refl

one-shown : (i : ℕ) (lines : List Sectionˢ) (rows : List Row) (x : Sectionˢ) (row : Row) → i < sections_most → SectionsShown i lines rows
    → (section x ≡ section_of row) × (section_fault (map section (take i lines)) (section_of row) ≡ none)
    → SectionsShown (i + 1) (set lines i x) (rows ++ (row ∷ []))
one-shown i lines rows x row h w e =
    let S = map section (take i lines) in
    let n = (section_of row).number in
    let new : is_listed (map section_of rows) n ≡ false = ap (λ (T : List Section). is_listed T n) (sym w.filled.shown) ∙ not-twice (is_listed S n) e.1 in
    record {
      filled = one-filled section section_of blank_section sections_most i lines rows x row h w.filled e.0;
      distinct = rw (map-append section_of rows (row ∷ [])) (distinct_more (map section_of rows) (section_of row) w.distinct new);
    }

next : (s : List ℕ) (p q q' : Place) (i : ℕ) (lines : List Sectionˢ) (x : Sectionˢ) (seen : Sheet) → i < sections_most → lacks (bytes "section") seen ≡ true
    → After s p (read_rows i section_line section-rule seen []) q (SectionsShown i lines)
    → After s q (read_line section_line (λ row. section_fault (map section (take i lines)) (section_of row))) q'
    (λ row. (section x ≡ section_of row) × (section_fault (map section (take i lines)) (section_of row) ≡ none))
    → After s p (read_rows (i + 1) section_line section-rule seen []) q' (SectionsShown (i + 1) (set lines i x))
next s p q q' i lines x seen h e a b =
    let P : Row → Type 0 = λ row. (section x ≡ section_of row) × (section_fault (map section (take i lines)) (section_of row) ≡ none) in
    rw (add-one i)
    (block_more s section_line section-rule seen p q q' i (SectionsShown i lines) (SectionsShown (suc i) (set lines i x)) a
    (λ rows w. after_weaker s q q' (read_line section_line (section-rule (seen ++ filled section_line rows))) P
    (λ row. SectionsShown (suc i) (set lines i x) (rows ++ (row ∷ [])))
    (λ row k. rw (add-one i) at (one-shown i lines rows x row h w k))
    (rule_as section_line (λ row. section_fault (map section (take i lines)) (section_of row)) (section-rule (seen ++ filled section_line rows))
    (rule-here seen i lines rows e w) b))
    b.passes b.fair)

pub loop-i-init : goal.loop-i-init
loop-i-init c =
    let none-shown : SectionsShown 0 (replicate sections_most blank_section) [] =
    record { filled = none_filled section section_of blank_section sections_most; distinct = distinct_none } in
    rw c.section-none.ensures (
      refl,
      c.requires.ready,
      refl,
      λ seen e. block_start c.args.s.now section_line section-rule seen c.args.start (SectionsShown 0 _) none-shown c.requires.ready.fair,
    )

pub new_section-section-requires : goal.new_section-section-requires
new_section-section-requires c =
    let at = c.loop-i in
    record { i_le_sections_most = (omega (arith, c.requires.k_le_sections_most), omega (arith, c.requires.k_le_sections_most, at.invariant.0, numbers-length at.said at.invariant.2)); ready = at.invariant.1 }

pub loop-i-preserved : goal.loop-i-preserved
loop-i-preserved c =
    let at = c.loop-i in
    let l = c.new_section-section in
    let line = l.ensures at.said at.invariant.2 in (
      simp length-set at.invariant.0,
      ready_after at.invariant.1 line,
      numbers-set at.said at.invariant.2 at.i l.result.said,
      λ seen e. next c.args.s.now c.args.start at.place l.result.place at.i at.said l.result.said seen (omega (arith, c.requires.k_le_sections_most)) e (at.invariant.3 seen e) line,
    )

pub returns : goal.returns
returns c =
    let e : c.loop-i.i ≡ c.args.k = omega arith in
    rw (← e) c.loop-i.invariant.3
