-- A place behind the line is one from which is read on. Assumes nothing.
use Rattle.due.proofs.Quantities.{heard_ready}
use Rattle.due.proofs.line.Goals as goal

pub returns-clause-ready : goal.returns-clause-ready
returns-clause-ready g c = heard_ready _ _ _ c.requires.ready c.due-d.ensures.after c.ranged.ensures
