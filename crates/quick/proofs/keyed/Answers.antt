-- The key stands where the library finds it, with no LF in it. Assumes nothing.
use Rattle.std.proofs.Common.{refl, sym, ◌∙◌}
use Rattle.quick.proofs.Keys.{standing_by_tests}
use Rattle.quick.proofs.keyed.Goals as goal

pub returns-then-starts_with : goal.returns-then-starts_with
returns-then-starts_with c =
    let a = c.args in
    let e = standing_by_tests a.s.now a.at a.key.now c.requires _ _ c.starts_with.ensures.value c.contains.ensures.value in
    sym (rw c.if-starts_with.true at e)

pub returns-else-starts_with : goal.returns-else-starts_with
returns-else-starts_with c =
    let a = c.args in
    let no = c.if-starts_with.false in
    let e = standing_by_tests a.s.now a.at a.key.now c.requires _ _ c.starts_with.ensures.value refl in
    no ∙ sym (rw no at e)
