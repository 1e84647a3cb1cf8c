-- The line by what is taken of its numbers. Assumes nothing.
use Rattle.std.proofs.Common.{refl, ◌≡◌}
use Rattle.sheet.specs.Shown.{water}
use Rattle.document.specs.Schema.{plain}
use Rattle.document.specs.Document01.{water_line}
use Rattle.document.specs.Rows.{water_of}
use Rattle.due.proofs.Quantities.{line-taken}
use Rattle.head.proofs.drying.water_line.Goals as goal

pub returns : goal.returns
returns c = line-taken water_line (λ x zs. water x ≡ water_of (plain zs)) refl refl (λ v x e. e.1) c.line.ensures.says
