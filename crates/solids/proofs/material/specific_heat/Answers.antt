-- Code 0 uses c, and any other the line that `row` finds, whose coefficients are small. Assumes nothing.
use Rattle.std.proofs.Common.{◌≡◌, ap, ◌∙◌, false, [], ◌∷◌, arith, pos, ◌*ℤ◌, ◌+ℤ◌}
use borrow.Author.Tests.{ne_eqb}
use lib.Dec.{eqb}
use Rattle.arith.proofs.Machine.{raw, num, ◌⟨*⟩◌}
use Rattle.formulas.specs.declared.Straight.{Straight}
use Rattle.formulas.specs.Tables.{row_of}
use Rattle.formulas.specs.Formulas.{specific_heat, by_table}
use Rattle.formulas.proofs.Sizes.{limits, most}
use Rattle.solids.proofs.Straight.{straight-fits, straight-size}
use Rattle.solids.proofs.material.specific_heat.Goals as goal

pub returns-then-material-eq0 : goal.returns-then-material-eq0
unfolding specific_heat
returns-then-material-eq0 c =
    let zero : c.args.stuff.material.0 ≡ 0 = omega arith in
    let e = c.given.ensures in
    record { is = rw (zero, e); size = rw e (most (limits c.requires.stuff.c ∷ []) (raw 0 ⟨*⟩ num (pos 1000)) tt) }

pub along-requires : goal.along-requires
along-requires c = straight-fits c.row.result c.requires.at

pub returns : goal.returns
unfolding specific_heat
returns c =
    let m = c.args.stuff.material.0 in
    let T = c.args.at.0 in
    let other : eqb m 0 ≡ false = ne_eqb m 0 (λ e. omega arith) in
    let e : c.along.result.0 ≡ by_table (row_of m T) T = c.along.ensures ∙ ap (λ (x : Straight). x.a *ℤ pos 100000 +ℤ x.b *ℤ T) c.row.ensures.same in
    record { is = rw other e; size = rw e (straight-size (row_of m T) c.requires.at) }
