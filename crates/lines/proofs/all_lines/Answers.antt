-- The groups one after the other. Assumes nothing.
use Prim.Native.Nat.{ℕ}
use mathlib.Core.Path.{◌≡◌, refl, sym, ◌∙◌}
use mathlib.Core.List.{List, map}
use lib.ListN.{length, length-map}
use borrow.Author.Rules.{rules}
use Rattle.sheet.specs.Quantities.{gases}
use Rattle.document.specs.Document01.{sheet_line, end_line}
use Rattle.lines.proofs.Held.{lines_after}
use Rattle.lines.proofs.all_lines.Goals as goal

-- an array has as many shares as its type says
unmapped : {A B : Type 0} (f : A → B) (l : List A) (n : ℕ) → length (map f l) ≡ n → length l ≡ n
unmapped f l n e = sym (length-map l f) ∙ e

pub returns : goal.returns
returns c =
    let edition = c.counted_line-edition in
    let heading = c.heading_lines-heading in
    let fuelling = c.fuelling_lines-fuelling in
    let drying = c.drying_lines-drying in
    let stages = c.staging_lines-stages in
    let loading = c.loading_lines-loading in
    let surfaces = c.surface_lines-surfaces in
    let closing = c.counted_line-closing in
    let long : length fuelling.result.said.gas ≡ gases = search (rules, unmapped) in
    rw c.head_of.ensures
    (record {
      after = lines_after c.args.s.now c.args.start
          edition.result heading.result fuelling.result drying.result stages.result loading.result surfaces.result closing.result _ long
          (edition.ensures.says sheet_line refl refl) heading.ensures fuelling.ensures drying.ensures
          (rw (← c.analysed.ensures) stages.ensures) loading.ensures surfaces.ensures (closing.ensures.says end_line refl refl);
      sized = record { stages = stages.ensures.within; sections = surfaces.ensures.within };
    })
