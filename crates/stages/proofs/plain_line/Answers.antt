-- The line by what is taken of its numbers. Assumes nothing.
use Rattle.std.proofs.Common.{refl, ◌≡◌, false}
use Rattle.document.specs.Schema.{plain}
use Rattle.document.specs.Document01.{stage_line}
use Rattle.stages.specs.Stages.{held_by}
use Rattle.due.proofs.Quantities.{line-taken}
use Rattle.stages.proofs.plain_line.Goals as goal

pub returns : goal.returns
returns c = line-taken stage_line (λ x zs. x ≡ held_by false (plain zs)) refl refl (λ v x e. e.1) c.line.ensures.says
