-- The definition goes by the same two tests. Assumes nothing.
use mathlib.Core.Path.{sym, ap, ◌∙◌}
use mathlib.Core.Bool.{not}
use lib.Dec.{eqb}
use borrow.Author.Rules.{rules}
use borrow.Author.Tests.{ne_eqb, eq-eqb}
use Rattle.sheet.specs.declared.Refusal.TheVariants.{Outside}
use Rattle.due.specs.Place.{good}
use Rattle.due.proofs.Places.{is-good, is-bad}
use Rattle.due.proofs.Lines.{met-both, not-met, not_good}
use Rattle.due.proofs.ranged.Statement.{statement}
use Rattle.due.proofs.ranged.Tie as tie

returns : tie.Need-returns-then-fault-ne0
returns c =
    let a = c.args in
    c.refused.ensures
    ∙ sym (met-both a.line a.q (Outside a.fault) (good a.q) (not (eqb a.fault 0)) (is-good a.q c.if-q-eq0.true)
    (ap not (ne_eqb a.fault 0 c.if-fault-ne0.true)))

returns-2 : tie.Need-returns-else-fault-ne0
returns-2 c =
    let a = c.args in
    sym (not-met a.line a.q (Outside a.fault) (good a.q) (not (eqb a.fault 0)) (ap not (eq-eqb a.fault 0 c.if-fault-ne0.false)))

returns-3 : tie.Need-returns-else-q-eq0
returns-3 c =
    let a = c.args in
    sym (not_good a.line a.q (Outside a.fault) (good a.q) (not (eqb a.fault 0)) (is-bad a.q c.if-q-eq0.false))

pub ranged_spec : {M : Type 1} → statement M
ranged_spec = tie.close (tie.spec (λ c κs. search rules) returns returns-2 returns-3)
