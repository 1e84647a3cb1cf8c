-- Each number, with a sign or without, is the one that is due. Assumes nothing.
use Rattle.std.proofs.Common.{◌≡◌, w64}
use mir.ValLaws.{to_z-of_z}
use Rattle.quick.specs.Number.{Number}
use Rattle.quick.proofs.Numbers.{number_fits}
use Rattle.quick.proofs.Rows.{declined, more, last}
use Rattle.quick.proofs.row.Goals.{then-i-n, else-i-n, then-at-s+then-not-is_ascii_digit+in_ok-q, else-at-s+in_ok-q-2}
use Rattle.quick.proofs.row.Goals as goal

pub returns-in_err-q : goal.returns-in_err-q
returns-in_err-q c = rw c.from_residual.ensures (declined c.loop-i.invariant)

pub returns-in_err-q-2 : goal.returns-in_err-q-2
returns-in_err-q-2 c = rw c.from_residual-in_err-q-2.ensures (declined c.loop-i.invariant)

pub returns-then-i-n-2 : goal.returns-then-i-n-2
returns-then-i-n-2 c =
    let l = c.loop-i in
    let q = c.if-at-s.q in
    let feed : c.if-i-n.c ≡ 10 = elim c.if-i-n.branch [ then-i-n w ↦ w.c-is | else-i-n w ↦ absurd (w.if-i-n.false c.if-i-n-2.true) ] in
    let read : Number c.args.s.now l.at c.if-i-n.c q.value q.next =
    elim c.if-at-s.branch [ then-at-s+then-not-is_ascii_digit+in_ok-q w ↦ rw w.q-is w.in_ok-q.ensures | else-at-s+in_ok-q-2 w ↦ rw w.q-is w.in_ok-q-2.ensures ] in
    rw (to_z-of_z w64 q.value (number_fits _ q.value read.says).0) (last l.invariant c.loop-i-test.true _ c.if-i-n-2.true (rw feed at read))

pub loop-i-preserved : goal.loop-i-preserved
loop-i-preserved c =
    let l = c.loop-i in
    let q = c.if-at-s.q in
    let comma : c.if-i-n.c ≡ 44 = elim c.if-i-n.branch [ then-i-n w ↦ absurd (c.if-i-n-2.false w.if-i-n.true) | else-i-n w ↦ w.c-is ] in
    let read : Number c.args.s.now l.at c.if-i-n.c q.value q.next =
    elim c.if-at-s.branch [ then-at-s+then-not-is_ascii_digit+in_ok-q w ↦ rw w.q-is w.in_ok-q.ensures | else-at-s+in_ok-q-2 w ↦ rw w.q-is w.in_ok-q-2.ensures ] in
    rw (to_z-of_z w64 q.value (number_fits _ q.value read.says).0) (more l.invariant c.loop-i-test.true _ (rw comma at read))
