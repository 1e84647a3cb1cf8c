-- The line is what the careful reader says, and its numbers are laid into the array, zeros where it is refused. Assumes nothing.
use Rattle.std.proofs.Common.{sym, ◌∙◌}
use Rattle.due.proofs.Formed.{form_refused, form_read}
use Rattle.due.proofs.careful.Goals as goal

pub returns-in-Ok : goal.returns-in-Ok
returns-in-Ok c =
    let a = c.args in
    rw c.onward.ensures (form_read a.s.now a.p a.key.now a.n c.requires.ready c.requires.p_value c.in-Ok.l (sym c.in-Ok.is ∙ c.judged.ensures))

pub returns-in-Err : goal.returns-in-Err
returns-in-Err c =
    let a = c.args in
    rw c.refused.ensures (form_refused a.s.now a.p a.key.now a.n c.requires.ready c.requires.p_value c.in-Err.why (sym c.in-Err.is ∙ c.judged.ensures))
