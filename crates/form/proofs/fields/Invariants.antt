-- Reading on from each place, with the numbers stored before it, gives what reading the whole gives. Assumes nothing.
use Rattle.std.proofs.Common.{◌≡◌, ◌+◌, length}
use Rattle.document.specs.Schema.{pieces}
use Rattle.form.specs.Formed.{zeros}
use Rattle.form.specs.Fields.{fields_of}
use Rattle.form.proofs.Pieces.{left}
use Rattle.form.proofs.fields.Given as goal

abbrev pub invariant-loop-i : goal.invariant-loop-i
invariant-loop-i l = record {
  rest : fields_of l.n l.next l.i l.values (left l.v l.at) ≡ fields_of l.n l.next 0 zeros (pieces 44 l.v);
  many : l.i + length (left l.v l.at) ≡ l.n;
}
