-- Both radicands fit 64 bits, since the first root is small. Assumes nothing.
use Prim.Native.Nat.{◌≤◌}
use native.Mathlib.Omega.{arith}
use borrow.Author.Rules.{rules}
use Rattle.formulas.specs.Sizes.{square_root_most}
use Rattle.surface.proofs.Terms.{first-root-most}
use Rattle.surface.proofs.fourth_root.Statement.{statement}
use Rattle.surface.proofs.fourth_root.Tie as tie

first-root : (c : tie.After-floor_root) → c.floor_root.result ≤ square_root_most
first-root c = rw c.floor_root.ensures (first-root-most (omega (arith, c.requires)))

pub fourth_root_spec : {M : Type 1} → statement M
fourth_root_spec =
    tie.close
    (tie.spec (λ c. record { fits = omega (arith, c.requires) }) (λ c κs. search rules)
    (λ c. record { fits = omega (arith, first-root c) }) (λ c κs. search rules) (λ c. rw (c.floor_root-2.ensures, c.floor_root.ensures)))
