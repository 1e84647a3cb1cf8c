-- The rise is not negative, so it goes over into a size; `units` rounds its term, which is small. Assumes nothing.
use mathlib.Core.Path.{refl}
use native.Mathlib.Nat.{lt_of_le_of_lt}
use borrow.Author.Rules.{rules}
use lib.Dec.{lit<}
use lib.Signed.{yes_non_neg}
use mir.Syntax.{w64}
use mir.Val.{SFits}
use mir.Facts.{to_z-of_z}
use Rattle.arith.specs.Nearest.{nearest}
use Rattle.arith.proofs.Order.{abs≤⁺}
use Rattle.formulas.proofs.Sizes.{placed-most}
use Rattle.surface.proofs.Terms.{term_most}
use Rattle.surface.proofs.convection.Statement.{statement}
use Rattle.surface.proofs.convection.Tie as tie

-- the start, from where the rise is read
abbrev start : tie.After-struct_told-1 → tie.Start
start c = c.before.before

rise-fits : (c : tie.After-struct_told-1) → SFits w64 (start c).args.rise.0
rise-fits c = search rules

cast-size : tie.Need-overflow_cast-size
cast-size c =
    let p = (start c).requires in
    rw (to_z-of_z (rise-fits c)) (yes_non_neg p.low, record { fits = lt_of_le_of_lt (abs≤⁺ p.low p.high) (lit< tt) })

mul-first-term : tie.Need-offset_bounds-at
mul-first-term c = search rules

array-read-first-term : tie.Need-bounds-at
array-read-first-term c = search rules

first-term-requires : tie.Need-first_term-requires
first-term-requires c κs =
    let p = (start c.before.before).requires in
    rw (to_z-of_z (rise-fits c.before.before)) (placed-most (start c.before.before).args.place.0, abs≤⁺ p.low p.high)

units-requires : tie.Need-units-requires
units-requires c κs = rw c.first_term.ensures (search rules)

returns : tie.Need-returns
unfolding nearest
returns told =
    let c = told.before in
    let read = c.before.before in
    let p = (start read.before.before).requires in
    let fits : SFits w64 c.units.result.0 = search rules in
    let term = rw (to_z-of_z (rise-fits read.before.before)) at c.first_term.ensures in
    rw (to_z-of_z fits, c.units.ensures, term)
    (record { is = refl; size = record { size = term_most (placed-most (start read.before.before).args.place.0) (abs≤⁺ p.low p.high) } })

pub convection_spec : {M : Type 1} → statement M
convection_spec = tie.close (tie.spec cast-size mul-first-term array-read-first-term first-term-requires units-requires returns)
