-- The form and the one number are the line that is due, and the number lies within its limits. Assumes nothing.
use lib.Dec.{le→leb}
use Rattle.limits.proofs.Laws.{count-within}
use Rattle.due.proofs.Quantities.{heard, heard_ready}
use Rattle.due.proofs.counted_line.Goals as goal

pub returns-clause-says : goal.returns-clause-says
returns-clause-says g c = λ l e f. heard l e f c.due-d.ensures c.checked-number.ensures c.ranged.ensures

pub returns-clause-within : goal.returns-clause-within
returns-clause-within g c = (count-within c.checked-number.ensures (le→leb _ _ g.met.Q.Count.ordered)).high

pub returns-clause-ready : goal.returns-clause-ready
returns-clause-ready g c = heard_ready _ _ _ c.requires c.due-d.ensures.after c.ranged.ensures
