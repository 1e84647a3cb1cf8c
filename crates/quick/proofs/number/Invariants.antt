-- Reading on up to the byte c, behind what was read before, gives what reading from the number's beginning gives. Assumes nothing.
use Rattle.std.proofs.Common.{◌≡◌, ◌-◌, ◌^◌, ◌<◌, drop}
use Rattle.text.specs.Number.{digits_read}
use Rattle.text.specs.Scanning.{up_to, find}
use Rattle.quick.proofs.number.Given as goal

abbrev pub invariant-loop-k : goal.invariant-loop-k
invariant-loop-k l = record {
  same_end : find l.s l.k l.c ≡ find l.s l.at l.c;
  rest : digits_read l.m (up_to l.c (drop l.k l.s)) ≡ digits_read 0 (up_to l.c (drop l.at l.s));
  below : l.m < 10 ^ (l.k - l.at);
}
