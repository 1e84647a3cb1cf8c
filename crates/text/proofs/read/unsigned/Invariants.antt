-- Reading on from each place, behind what was read before it, gives what reading the whole gives. Assumes nothing.
use Rattle.std.proofs.Common.{◌≡◌, ◌^◌, ◌<◌, ◌≤◌, length, drop}
use Rattle.text.specs.Number.{digits_read, unsigned}
use Rattle.text.proofs.read.unsigned.Given as goal

abbrev pub invariant-loop-b : goal.invariant-loop-b
invariant-loop-b l = record {
  rest : digits_read l.n (drop l.b-index l.f) ≡ unsigned l.most l.f;
  below : l.n < 10 ^ l.b-index;
  short : length l.f ≤ 18;
}
