-- What is read lies in the part of the room that was lent for it, so the room is never overfilled, and each turn fills more of it.
-- Assumes nothing.
use Rattle.std.proofs.Common.{length, ◌-◌, ◌≤◌, ◌≡◌}
use Rattle.streams.proofs.read_all.Given as goal

abbrev pub invariant-loop-length : goal.invariant-loop-length
invariant-loop-length l = (l.length ≤ length l.room) × (length l.room ≡ length l.initial.room)

abbrev pub decreases-loop-length : goal.decreases-loop-length
decreases-loop-length l = length l.initial.room - l.length
