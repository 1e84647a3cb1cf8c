-- The digits that the loop sees are read as the definition reads them, and so few fit. Assumes nothing.
use Rattle.std.proofs.Common.{◌≡◌, ◌+◌, ◌-◌, ◌*◌, ◌≤◌, ◌<◌, suc, get_or, length, pow-suc, ◌∙◌, arith, w64, nat_eq, eqb-true}
use mir.ValLaws.{to_z_pos}
use Rattle.quick.proofs.Numbers.{digit-more, few, digits_seen, where_true}
use Rattle.quick.proofs.number.Goals.{then-first-eq0, else-first-eq0}
use Rattle.quick.proofs.number.Goals as goal

pub loop-k-init : goal.loop-k-init
loop-k-init c =
    let a = c.args in
    let first = c.from-m.result in
    let h : a.at < length a.s.now = omega arith in
    let digit : get_or a.s.now a.at 0 ≡ first + 48 = omega (arith, c.from-m.ensures, c.if-first-gt9.false, c.type_inv.s a.at) in
    let d = digit-more a.s.now a.c a.at h 0 first digit (omega (arith, c.from-m.ensures, c.if-first-gt9.false)) c.requires in
    let z : 0 * 10 + first ≡ first = omega arith in
    let q : a.at + 1 - a.at ≡ 1 = omega arith in
    record { same_end = d.0; rest = rw z at d.1; below = rw q (omega (arith, c.from-m.ensures, c.if-first-gt9.false)) }

pub returns-then-d-gt9 : goal.returns-then-d-gt9
returns-then-d-gt9 c =
    let a = c.args in
    let s = a.s.now in
    let l = c.loop-k in
    -- as many bytes as the loop may see: ten at most, and two where the first is a 0
    let most : (c.if-first-eq0.most ≤ 10) × (get_or s a.at 0 ≡ 48 → c.if-first-eq0.most ≡ 2) =
    elim c.if-first-eq0.branch [
      | then-first-eq0 w ↦ (omega (arith, w.most-is), λ e. w.most-is)
      | else-first-eq0 w ↦ (omega (arith, w.most-is), λ e. absurd (w.if-first-eq0.false (omega (arith, e))))
    ] in
    let close : l.k ≤ a.at + 9 = omega (arith, most.0, c.min.ensures) in
    let small = few (l.k - a.at) l.m l.invariant.below (omega arith) in
    rw (c.then_some.ensures, to_z_pos w64 l.m (omega (arith, small)))
    (where_true _ (nat_eq (get_or s l.k 0) a.c) _
    (λ e. digits_seen s a.at a.c l.k l.m (omega arith) (omega (arith, c.min.ensures)) (eqb-true _ _ e) close
    (λ o z. omega (arith, o, most.1 z, c.min.ensures)) l.invariant.same_end l.invariant.rest))

pub loop-k-preserved : goal.loop-k-preserved
loop-k-preserved c =
    let a = c.args in
    let l = c.loop-k in
    let d = c.from.result in
    let h : l.k < length a.s.now = omega arith in
    let digit : get_or a.s.now l.k 0 ≡ d + 48 = omega (arith, c.from.ensures, c.if-d-gt9.false, c.type_inv.s l.k) in
    let low : d ≤ 9 = omega (arith, c.from.ensures, c.if-d-gt9.false) in
    let r = digit-more a.s.now a.c l.k h l.m d digit low c.requires in
    let q : l.k + 1 - a.at ≡ suc (l.k - a.at) = omega arith in
    record {
      same_end = r.0 ∙ l.invariant.same_end;
      rest = r.1 ∙ l.invariant.rest;
      below = rw (q, pow-suc) (omega (arith, l.invariant.below, low));
    }
