-- The line by what is taken of its numbers. Assumes nothing.
use Rattle.std.proofs.Common.{refl, ◌≡◌}
use Rattle.sheet.specs.Shown.{fuel}
use Rattle.document.specs.Schema.{plain}
use Rattle.document.specs.Document01.{fuel_line}
use Rattle.document.specs.Rows.{fuel_of}
use Rattle.due.proofs.Quantities.{line-taken}
use Rattle.fuel.proofs.fuel_line.Goals as goal

pub returns : goal.returns
returns c = line-taken fuel_line (λ x zs. fuel x ≡ fuel_of (plain zs)) refl refl (λ v x e. e.1) c.line.ensures.says
