-- The line by what is taken of its numbers, and the rule on material and c. Assumes nothing.
use Rattle.std.proofs.Common.{refl, ◌≡◌, ap, sym, Bool, []}
use mathlib.Core.Path.{◌∙◌}
use Rattle.sheet.specs.declared.Refusal.TheVariants.{Material}
use Rattle.sheet.specs.Firing.{Ware}
use Rattle.sheet.specs.Shown.{ware}
use Rattle.document.specs.Schema.{plain}
use Rattle.document.specs.Tests.{when, material-rule}
use Rattle.document.specs.Document01.{ware_line}
use Rattle.document.specs.Rows.{ware_of}
use Rattle.due.specs.Taking.{unsuited}
use Rattle.due.proofs.Quantities.{line-taken, then-ruled}
use Rattle.head.proofs.drying.ware_line.Goals as goal

pub returns : goal.returns
returns c =
    then-ruled ware_line (λ row. ware c.line-ware.result.said ≡ ware_of row) (material-rule 3 []) c.unsuited.result (Material 4)
    (line-taken ware_line (λ x zs. ware x ≡ ware_of (plain zs)) refl refl (λ v x e. e.1) c.line-ware.ensures.says)
    (λ row h. sym (ap (λ (t : Bool). when t (Material 4)) (c.unsuited.ensures ∙ ap (λ (x : Ware). unsuited x.stuff) h))) c.ruled.ensures
