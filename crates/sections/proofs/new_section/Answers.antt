-- The number's place among those above it is below their count where it stands there already. Assumes nothing.
use mathlib.Core.Path.{◌≡◌, sym, ap, ap₂, ◌∙◌}
use mathlib.Core.Bool.{Bool}
use mathlib.Core.List.{map}
use mathlib.Core.Option.{none}
use native.Mathlib.Omega.{arith}
use lib.Dec.{ltb}
use lib.ListN.{take}
use Rattle.sheet.specs.declared.Refusal.TheVariants.{SectionTwice}
use Rattle.sheet.specs.Firing.{Section}
use Rattle.sheet.specs.Shown.{section, before}
use Rattle.document.specs.Tests.{when, section_fault}
use Rattle.document.specs.Document01.{section_line}
use Rattle.document.specs.Rows.{section_of}
use Rattle.sections.proofs.Sections.{before-is, numbers-length, place-among, shown-length}
use Rattle.due.proofs.Lines.{ruled-after}
use Rattle.sections.proofs.new_section.Goals as goal

pub returns : goal.returns
returns c lines e =
    let a = c.args in
    let k = c.section_place-known in
    let l = c.section_line-section in
    let S = map section (take a.i lines) in
    let n = shown-length a.i lines (omega (arith, c.requires.i_le_sections_most, numbers-length lines e)) in
    let stands = k.ensures ∙ place-among lines e l.result.said.number.0 a.i in
    rw c.ruled.ensures
    (ruled-after a.s.now a.p l.result.place section_line (λ row. section l.result.said ≡ section_of row)
    (λ row. none) (λ row. section_fault S (section_of row)) (ltb k.result a.i) SectionTwice
    (λ row h. ap (λ (t : Bool). when t SectionTwice) (before-is (section_of row).number S
    ∙ ap₂ ltb (sym (ap (λ (x : Section). before x.number S) h) ∙ sym stands) n)) l.ensures)
