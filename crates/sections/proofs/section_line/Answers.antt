-- The line by what is taken of its numbers. Assumes nothing.
use Rattle.std.proofs.Common.{refl, ◌≡◌}
use Rattle.sheet.specs.Shown.{section}
use Rattle.document.specs.Schema.{plain}
use Rattle.document.specs.Document01.{section_line}
use Rattle.document.specs.Rows.{section_of}
use Rattle.due.proofs.Quantities.{line-taken}
use Rattle.sections.proofs.section_line.Goals as goal

pub returns : goal.returns
returns c = line-taken section_line (λ x zs. section x ≡ section_of (plain zs)) refl refl (λ v x e. e.1) c.line.ensures.says
