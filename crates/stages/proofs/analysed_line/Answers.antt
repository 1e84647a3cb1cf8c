-- The line by what is taken of its numbers, and the rule on what dry flue can have. Assumes nothing.
use Rattle.std.proofs.Common.{refl, ◌≡◌, ap, sym, Bool, true, [], ℤ, pos}
use mathlib.Core.Path.{◌∙◌}
use lib.Signed.{lt_z}
use Rattle.sheet.specs.declared.Refusal.TheVariants.{Analysis}
use Rattle.sheet.specs.declared.Stage.{Stage as Stageˢ}
use Rattle.sheet.specs.Quantities.{analysis_most}
use Rattle.document.specs.Schema.{plain}
use Rattle.document.specs.Tests.{when, analysis-rule}
use Rattle.document.specs.Sheet2.{analysed_line}
use Rattle.due.proofs.Quantities.{line-taken, then-ruled}
use Rattle.stages.specs.Stages.{held_by, dry_sum}
use Rattle.stages.proofs.analysed_line.Goals as goal

pub returns : goal.returns
returns c =
    let over = ap (λ (z : ℤ). lt_z (pos analysis_most) z) c.together-sum.ensures in
    let told : Stageˢ → Bool = λ x. lt_z (pos analysis_most) (dry_sum x.co.0 x.analysis) in
    then-ruled analysed_line (λ row. c.line-stage.result.said ≡ held_by true row) (analysis-rule []) c.crowded.result Analysis
    (line-taken analysed_line (λ x zs. x ≡ held_by true (plain zs)) refl refl (λ v x e. e.1) c.line-stage.ensures.says)
    (λ row h. sym (ap (λ (t : Bool). when t Analysis) (c.crowded.ensures ∙ over ∙ ap told h))) c.ruled.ensures
