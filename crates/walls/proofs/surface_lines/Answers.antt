-- The sections, then the walls: what these ask of the lines above them is said by those and by the sections. Assumes nothing.
use mathlib.Core.Path.{refl, sym, ap, ◌∙◌}
use mathlib.Core.List.{List, [], ◌∷◌, ◌++◌, map}
use Rattle.text.specs.Bytes.{bytes}
use Rattle.document.specs.Schema.{Row}
use Rattle.document.specs.Reader.{filled}
use Rattle.document.specs.Rows.{section_of}
use Rattle.document.specs.Document01.{section_line, wall_line, sections, walls}
use Rattle.walls.specs.Walls.{WallsShown}
use Rattle.due.proofs.Above.{rows-here}
use Rattle.due.proofs.Sequence.{pass_on, paragraphs_done}
use Rattle.due.specs.Said.{says_all, Said}
use Rattle.sections.specs.Sections.{sections_of, SectionRows}
use Rattle.due.proofs.Said.{paragraph-then, lacks-more}
use Rattle.walls.proofs.Asked.{stages_stay, walls_pass}
use Rattle.walls.proofs.surface_lines.Goals as goal

pub wall_block-walls-requires : goal.wall_block-walls-requires
wall_block-walls-requires c =
    let a = c.section_block-sections.ensures in
    record { count_le_sections_most = a.within; ready = record { short = c.requires.short; fair = (a.after [] refl).fair } }

pub returns : goal.returns
returns c =
    let w = c.wall_block-walls in
    let d = c.section_block-sections in
    let a = c.args in
    let q = d.result.place in
    let q' = w.result.place in
    let S = sections_of d.result.said in
    let Walls = WallsShown S w.result.said in
    let last = walls_pass a.s.now q S a.stages w.result w.ensures in
    record {
      after = λ seen b.
          paragraph-then a.p q q' sections.paragraph section_line (SectionRows d.result.said) (walls.paragraph ∷ [])
          (says_all wall_line Walls ∷ []) seen
          (d.ensures.after seen b.sections)
          (λ rows h.
          (let t = seen ++ filled section_line rows in
          paragraph-then q q' q' walls.paragraph wall_line Walls [] [] t
          (w.ensures t
          (lacks-more (bytes "wall") section_line rows seen refl b.walls)
          (ap (λ (l : List Row). map section_of l) (rows-here section_line rows seen b.sections) ∙ sym h.filled.shown)
          (stages_stay rows seen a.stages b.stages))
          (λ more k. (let u = t ++ filled wall_line more in paragraphs_done a.s.now q' u (Said [] u) refl last.fair))
          (λ e. refl) last.fair))
          last.passes last.fair;
      passes = pass_on (d.ensures.after [] refl).passes last.passes;
      fair = last.fair;
      within = d.ensures.within;
    }
