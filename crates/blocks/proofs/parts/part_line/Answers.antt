-- The line by what is taken of its numbers, and the rule on material and c. Assumes nothing.
use Rattle.std.proofs.Common.{refl, ◌≡◌, ap, sym, Bool, []}
use mathlib.Core.Path.{◌∙◌}
use Rattle.sheet.specs.declared.Refusal.TheVariants.{Material}
use Rattle.sheet.specs.Firing.{Part}
use Rattle.sheet.specs.Shown.{part}
use Rattle.document.specs.Schema.{plain}
use Rattle.document.specs.Tests.{when, material-rule}
use Rattle.document.specs.Document01.{part_line}
use Rattle.document.specs.Rows.{part_of}
use Rattle.due.specs.Taking.{unsuited}
use Rattle.due.proofs.Quantities.{line-taken, then-ruled}
use Rattle.blocks.proofs.parts.part_line.Goals as goal

pub returns : goal.returns
returns c =
    then-ruled part_line (λ row. part c.line-part.result.said ≡ part_of row) (material-rule 1 []) c.unsuited.result (Material 2)
    (line-taken part_line (λ x zs. part x ≡ part_of (plain zs)) refl refl (λ v x e. e.1) c.line-part.ensures.says)
    (λ row h. sym (ap (λ (t : Bool). when t (Material 2)) (c.unsuited.ensures ∙ ap (λ (x : Part). unsuited x.stuff) h))) c.ruled.ensures
