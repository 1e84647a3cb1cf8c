-- The definition goes by the same two tests. Assumes nothing.
use mathlib.Core.Path.{sym, ◌∙◌}
use borrow.Author.Rules.{rules}
use Rattle.due.specs.Place.{good}
use Rattle.due.proofs.Places.{is-good, is-bad}
use Rattle.due.proofs.Lines.{met-both, not-met, not_good}
use Rattle.due.proofs.ruled.Statement.{statement}
use Rattle.due.proofs.ruled.Tie as tie

returns : tie.Need-returns-then-broken
returns c =
    let a = c.args in
    c.refused.ensures
    ∙ sym (met-both a.line a.q a.why (good a.q) a.broken (is-good a.q c.if-q-eq0.true) c.if-broken.true)

returns-2 : tie.Need-returns-else-broken
returns-2 c =
    let a = c.args in
    sym (not-met a.line a.q a.why (good a.q) a.broken c.if-broken.false)

returns-3 : tie.Need-returns-else-q-eq0
returns-3 c =
    let a = c.args in
    sym (not_good a.line a.q a.why (good a.q) a.broken (is-bad a.q c.if-q-eq0.false))

pub ruled_spec : {M : Type 1} → statement M
ruled_spec = tie.close (tie.spec (λ c κs. search rules) returns returns-2 returns-3)
