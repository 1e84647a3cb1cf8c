-- `number` says what stands behind the sign, and that it is small. Assumes nothing.
use Rattle.std.proofs.Common.{◌≡◌, pos, neg_ℤ, ◌-ℤ◌, w64, to_z, of_z}
use lib.IntN.{+ℤ_idl}
use lib.Signed.{lt_z}
use mir.ValLaws.{to_z-of_z}
use Rattle.quick.proofs.Numbers.{behind-sign, number_fits, where_true}
use Rattle.quick.proofs.below_zero.Goals as goal

pub returns : goal.returns
returns c =
    let a = c.args in
    let q = c.in_ok-q.q in
    let z = q.value in
    let f = number_fits _ z c.in_ok-q.ensures.says in
    let same = to_z-of_z w64 z f.0 in
    let turned : to_z w64 (of_z w64 (pos 0 -ℤ to_z w64 (of_z w64 z))) ≡ neg_ℤ z = rw (same, +ℤ_idl (neg_ℤ z)) (to_z-of_z w64 (neg_ℤ z) f.1) in
    rw (c.then_some.ensures, turned, same)
    (where_true _ (lt_z (pos 0) z) _ (λ t. behind-sign a.s.now a.at a.c z q.next c.requires.at_in_bounds c.if-s-at-ne45.false c.requires.c_bound t c.in_ok-q.ensures))

pub overflow_sub-q : goal.overflow_sub-q
overflow_sub-q c =
    let z = c.in_ok-q.q.value in
    let f = number_fits _ z c.in_ok-q.ensures.says in
    rw (to_z-of_z w64 z f.0, +ℤ_idl (neg_ℤ z)) f.1
