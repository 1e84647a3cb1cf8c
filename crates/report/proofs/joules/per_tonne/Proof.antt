-- What `arith::nearest` promises, read back from its bits; the product is widened. Assumes nothing.
use borrow.Author.Rules.{rules, sfits_of}
use mathlib.Core.Path.{◌∙◌}
use mir.Syntax.{w32}
use mir.Val.{SFits}
use mir.Facts.{to_z-of_z}
use mir.Syntax.{w64}
use Rattle.quantity.proofs.Casts.{widened, widens}
use Rattle.report.proofs.joules.per_tonne.Statement.{statement}
use Rattle.report.proofs.joules.per_tonne.Tie as tie

narrow : (c : tie.After-struct_told-1) → SFits w32 c.args.product.0
narrow c = search rules

mul-nearest : tie.Need-overflow_mul-heat
mul-nearest c = search rules

cast-nearest : tie.Need-overflow_cast-product
cast-nearest c = widens (narrow c)

nearest-requires : tie.Need-nearest-requires
nearest-requires c κs = rw (widened (narrow c)) (search rules)

returns : tie.Need-returns
returns c =
    let s = c.before.before.before in
    to_z-of_z {w = w64} (sfits_of c.nearest.type_inv) ∙ (rw (to_z-of_z {w = w64} s.ranges.heat, widened (narrow c.before), to_z-of_z {w = w64} s.requires.fits) at c.nearest.ensures)

pub per_tonne_spec : {M : Type 1} → statement M
per_tonne_spec = tie.close (tie.spec mul-nearest cast-nearest nearest-requires returns)
