-- The greatest product fits 64 bits, and comes back as it is. Assumes nothing.
use Prim.Native.Nat.{◌*◌, ◌≤◌}
use native.Mathlib.Nat.{mul-le-mul}
use native.Mathlib.Omega.{arith}
use mir.Facts.{to_z-of_z}
use Rattle.formulas.specs.Sizes.{placed_most, warmer_most, fourth_root_most}
use Rattle.surface.proofs.Terms.{product-most}
use Rattle.surface.proofs.first_term.Statement.{statement}
use Rattle.surface.proofs.first_term.Tie as tie

product : (c : tie.After-known) → c.args.a * c.args.rise * c.known.result ≤ placed_most * warmer_most * fourth_root_most
product c = rw c.known.ensures (product-most c.requires.0 c.requires.1)

small : tie.Need-overflow_cast-result
small c = record { sfits = omega (arith, product c) }

pub first_term_spec : {M : Type 1} → statement M
first_term_spec =
    tie.close
    (tie.spec
    (λ c. record { fits = omega (arith, mul-le-mul c.requires.0 c.requires.1) })
    (λ c κs. c.requires.1)
    (λ c. record { fits = omega (arith, product c) })
    small
    (λ c. rw (to_z-of_z (small c), c.known.ensures)))
