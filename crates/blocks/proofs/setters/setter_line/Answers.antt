-- The line by what is taken of its numbers, and the rule on material and c. Assumes nothing.
use Rattle.std.proofs.Common.{refl, ◌≡◌, ap, sym, Bool, []}
use mathlib.Core.Path.{◌∙◌}
use Rattle.sheet.specs.declared.Refusal.TheVariants.{Material}
use Rattle.sheet.specs.Firing.{Setter}
use Rattle.sheet.specs.Shown.{setter}
use Rattle.document.specs.Schema.{plain}
use Rattle.document.specs.Tests.{when, material-rule}
use Rattle.document.specs.Document01.{setter_line}
use Rattle.document.specs.Rows.{setter_of}
use Rattle.due.specs.Taking.{unsuited}
use Rattle.due.proofs.Quantities.{line-taken, then-ruled}
use Rattle.blocks.proofs.setters.setter_line.Goals as goal

pub returns : goal.returns
returns c =
    then-ruled setter_line (λ row. setter c.line-setter.result.said ≡ setter_of row) (material-rule 2 []) c.unsuited.result (Material 3)
    (line-taken setter_line (λ x zs. setter x ≡ setter_of (plain zs)) refl refl (λ v x e. e.1) c.line-setter.ensures.says)
    (λ row h. sym (ap (λ (t : Bool). when t (Material 3)) (c.unsuited.ensures ∙ ap (λ (x : Setter). unsuited x.stuff) h))) c.ruled.ensures
