-- The comparison that the code makes is the rule for ties (`goes_up`, `stays`). Assumes nothing.
use borrow.Author.Rules.{rules}
use Prim.Native.Nat.{◌/◌, ◌%◌, ◌≤◌, ◌<◌}
use native.Mathlib.Nat.{mod-lt, div-add-mod, mul-le-mul_right}
use native.Mathlib.Omega.{arith}
use lib.Dec.{lit<}
use Rattle.arith.proofs.Ties.{goes_up, stays}
use Rattle.arith.proofs.nearest_size.Statement.{statement}
use Rattle.arith.proofs.nearest_size.Tie as places

two : 0 < 2
two = lit< tt

sub-if1 : places.Need-overflow_sub-by
sub-if1 c = omega (arith, mod-lt c.args.size c.requires.0)

add-if1 : places.Need-overflow_add-over
add-if1 c =
    let q = c.args.size / c.args.by in
    record { fits = omega (arith, mod-lt c.args.size c.requires.0, mod-lt q two, c.requires.1) }

-- a quotient that goes up is one by 2 or more, so that there is room for it
add-result : places.Need-overflow_add-result
add-result c =
    let s = c.before in
    let n = s.args.size in
    let k = s.args.by in
    let more : 2 ≤ k = omega (arith, c.if-by-over.true, mod-lt n s.requires.0, mod-lt (n / k) two, mod-lt (n % k) two) in
    record { fits = omega (arith, div-add-mod n k, mul-le-mul_right (n / k) more, s.ranges.size.fits) }

returns : places.Need-returns-then-by-over
returns c = let s = c.before in goes_up s.args.size s.args.by c.if-by-over.true

returns-2 : places.Need-returns-else-by-over
returns-2 c = let s = c.before in stays s.args.size s.args.by c.if-by-over.false

pub nearest_size_spec : {M : Type 1} → statement M
nearest_size_spec = places.close (places.spec (λ c. search rules) (λ c. search rules) sub-if1 add-if1 add-result returns returns-2)
