-- The form and the one number are the line that is due. Assumes nothing.
use Rattle.due.proofs.Quantities.{heard, heard_ready}
use Rattle.due.proofs.measured_line.Goals as goal

pub returns-clause-says : goal.returns-clause-says
returns-clause-says g c = λ l e f. heard l e f c.due-d.ensures c.checked-units.ensures c.ranged.ensures

pub returns-clause-ready : goal.returns-clause-ready
returns-clause-ready g c = heard_ready _ _ _ c.requires c.due-d.ensures.after c.ranged.ensures
