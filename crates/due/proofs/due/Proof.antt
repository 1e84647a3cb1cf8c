-- The numbers are taken out of the array. Assumes nothing.
use mathlib.Core.Path.{◌∙◌}
use borrow.Author.Rules.{rules}
use Rattle.due.proofs.Formed.{due_form}
use Rattle.due.proofs.due.Statement.{statement}
use Rattle.due.proofs.due.Tie as tie

returns : tie.Need-returns
returns c =
    let formed = c.before in
    let a = formed.before.before.before.before in
    let f = formed.read_form-q.ensures in
    record {
      after = due_form a.args.s.now a.args.p a.args.key.now a.args.n formed.read_form-q.result _ c.numbers-said.result a.requires.0
          c.numbers-said.ensures f;
      whole = c.numbers-said.ensures ∙ f.whole;
    }

pub due_spec : {M : Type 1} → statement M
due_spec = tie.close (tie.spec (λ c κs. search rules) (λ c κs. search rules) returns)
