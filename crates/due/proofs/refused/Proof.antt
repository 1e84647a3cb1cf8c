-- The refusal by its number and its field. Assumes nothing.
use borrow.Author.Rules.{rules}
use Rattle.due.proofs.refused.Statement.{statement}
use Rattle.due.proofs.refused.Tie as tie

returns : tie.Need-returns
returns c = rw (c.refusal_number.ensures, c.refusal_field.ensures)

pub refused_spec : {M : Type 1} → statement M
refused_spec = tie.close (tie.spec (λ c κs. search rules) (λ c κs. search rules) returns)
