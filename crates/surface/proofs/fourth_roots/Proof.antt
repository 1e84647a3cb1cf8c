-- Both products are as large as those of a rise can be. Assumes nothing.
use Prim.Native.Nat.{◌*◌, ◌^◌, ◌≤◌}
use mathlib.Core.Path.{◌≡◌, ap, ◌∙◌}
use native.Mathlib.Nat.{lt_of_le_of_lt, mul-le-mul_right}
use native.Mathlib.Omega.{arith}
use lib.Dec.{lit<}
use lib.ListN.{get_or}
use Rattle.roots.specs.Root.{root}
use Rattle.roots.proofs.Sides.{root-at}
use Rattle.surface.proofs.Terms.{first-root-most}
use Rattle.surface.proofs.fourth_roots.Statement.{statement}
use Rattle.surface.proofs.fourth_roots.Tie as tie

first-requires : tie.Need-floor_roots-first-requires
first-requires c κs = (omega arith, omega arith, λ k h. lt_of_le_of_lt (c.each_times.ensures k h).1 (lit< tt))

second-requires : tie.Need-floor_roots-requires
second-requires c κs = (omega arith, omega arith, λ k h. lt_of_le_of_lt (c.each_times-2.ensures k h).1 (lit< tt))

returns : tie.Need-returns
returns c =
    let second = c.before in
    let first = second.before in
    let start = first.before in
    λ k h.
    record {
      is =
          λ most.
          let rise = get_or start.args.rises k 0 in
          let square : get_or first.floor_roots-first.result k 0 ≡ root (rise * 10 ^ 15) =
          rw first.floor_roots-first.ensures (root-at start.each_times.result k ∙ ap root ((start.each_times.ensures k h).0 (omega (arith, most)))) in
          let small : get_or first.floor_roots-first.result k 0 ≤ 2 * 10 ^ 9 = rw square (omega (arith, first-root-most (mul-le-mul_right (10 ^ 15) most))) in
          rw c.floor_roots.ensures (root-at second.each_times-2.result k ∙ ap root (rw square at ((second.each_times-2.ensures k h).0 small)));
    }

pub fourth_roots_spec : {M : Type 1} → statement M
fourth_roots_spec = tie.close (tie.spec (λ c κs. lit< tt) first-requires (λ c κs. lit< tt) second-requires returns)
