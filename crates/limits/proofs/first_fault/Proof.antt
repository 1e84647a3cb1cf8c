-- Both arms are the definition's, by the test that leads to them. Assumes nothing.
use borrow.Author.Tests.{eq-eqb, ne_eqb}
use Rattle.limits.specs.Checked.{first_fault}
use Rattle.limits.proofs.first_fault.Statement.{statement}
use Rattle.limits.proofs.first_fault.Tie as tie

returns : tie.Need-returns-then-fault-eq0
unfolding first_fault
returns c = rw (eq-eqb _ _ c.if-fault-eq0.true)

returns-2 : tie.Need-returns-else-fault-eq0
unfolding first_fault
returns-2 c = rw (ne_eqb _ _ c.if-fault-eq0.false)

pub first_fault_spec : {M : Type 1} → statement M
first_fault_spec = tie.close (tie.spec returns returns-2)
