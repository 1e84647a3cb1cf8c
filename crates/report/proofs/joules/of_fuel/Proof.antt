-- What `arith::nearest` promises, read back from its bits. Assumes nothing.
use borrow.Author.Rules.{rules, sfits_of}
use mathlib.Core.Path.{◌∙◌}
use mir.Facts.{to_z-of_z}
use mir.Syntax.{w64}
use Rattle.report.proofs.joules.of_fuel.Statement.{statement}
use Rattle.report.proofs.joules.of_fuel.Tie as tie

mul-nearest : tie.Need-overflow_mul-heat
mul-nearest c = search rules

nearest-requires : tie.Need-nearest-requires
nearest-requires c κs = search rules

returns : tie.Need-returns
returns c =
    let s = c.before in
    to_z-of_z {w = w64} (sfits_of c.nearest.type_inv) ∙ (simp (to_z-of_z {w = w64} s.ranges.heat, to_z-of_z {w = w64} s.ranges.q1, to_z-of_z {w = w64} s.requires.fits) at c.nearest.ensures)

pub of_fuel_spec : {M : Type 1} → statement M
of_fuel_spec = tie.close (tie.spec mul-nearest nearest-requires returns)
