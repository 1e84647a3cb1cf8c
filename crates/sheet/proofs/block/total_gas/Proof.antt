-- The loop's invariant: what is summed so far is the gas of the first i stages, each of which fits 32 bits. Assumes nothing.
use Prim.Native.Nat.{ℕ, ◌*◌, ◌-◌, ◌^◌, ◌≤◌, min}
use mathlib.Core.Path.{◌≡◌, refl, sym, ap, ◌∙◌}
use mathlib.Core.List.{List, [], ◌∷◌, map}
use native.Mathlib.Numerals.{add-one}
use native.Mathlib.Omega.{arith}
use borrow.Author.Rules.{rules}
use lib.IntN.{ℤ, nat_abs, ◌+ℤ◌}
use lib.ListN.{length, get_or, take}
use mir.Syntax.{w32, w64}
use mir.Val.{SFits}
use Rattle.arith.proofs.Order.{bound-add, abs_sfits}
use Rattle.arith.proofs.Machine.{Known, small, whole, arg, from, ◌⟨+⟩◌, fits, result}
use Rattle.sheet.specs.declared.Stage.{Stage as Stageˢ}
use Rattle.sheet.specs.Firing.{Stage}
use Rattle.sheet.specs.Shown.{stage}
use Rattle.sheet.specs.Block.{sum}
use Rattle.sheet.proofs.Sums.{first, next, unmapped, held, stage_beyond}
use Rattle.sheet.proofs.block.total_gas.Statement.{statement}
use Rattle.sheet.proofs.block.total_gas.Tie as tie
use Rattle.sheet.specs.Quantities.{stages_most}

abbrev gas : Stage → ℤ
gas x = x.gas

abbrev invariant-loop : tie.invariant-loop-i
invariant-loop lines count sum₀ i₀ sum i = (sum.0 ≡ first gas stage lines i) × (i ≤ count) × (nat_abs sum.0 ≤ i * 2 ^ 31)

abbrev decreases-loop : tie.decreases-loop-i
decreases-loop lines count sum₀ i₀ sum i = count - i

held-requires : tie.Need-held-count-requires invariant-loop decreases-loop
held-requires c κs = search rules

loop-holds : tie.Need-loop-i-init invariant-loop decreases-loop
unfolding sum
loop-holds c = (refl, omega arith, omega arith)

mul-stage : tie.Need-offset_bounds-lines-i invariant-loop decreases-loop
mul-stage c = omega arith

array-copy-out-stage : tie.Need-bounds-lines-i invariant-loop decreases-loop
array-copy-out-stage c = omega arith

-- the start from the loop, and the loop from where a stage's gas is read
abbrev start : tie.At-loop-i invariant-loop decreases-loop → tie.Start invariant-loop decreases-loop
start c = c.before.before.before

abbrev turn : tie.After-struct_told-1 invariant-loop decreases-loop → tie.At-loop-i invariant-loop decreases-loop
turn c = let gas = c.before.before in gas.before.before.before

abbrev line : tie.After-struct_told-1 invariant-loop decreases-loop → Stageˢ
line c = get_or (start (turn c)).args.stages.lines (turn c).loop-i.i stage_beyond

narrow : (c : tie.After-struct_told-1 invariant-loop decreases-loop) → SFits w32 (line c).gas.0
narrow c = search rules

abbrev known : tie.After-struct_told-1 invariant-loop decreases-loop → List Known
known c = whole (narrow c) ∷ small (turn c).loop-i.sum.0 {B = stages_most * 2 ^ 31} (omega (arith, (turn c).loop-i.invariant.2)) ∷ []

cast-t13 : tie.Need-overflow_cast-sum invariant-loop decreases-loop
cast-t13 c = fits (known c) w64 (from w32 (arg 0)) tt

add-t14 : tie.Need-overflow_add-sum invariant-loop decreases-loop
add-t14 c = fits (known c.before.before) w64 (arg 1 ⟨+⟩ from w32 (arg 0)) tt

add-i : tie.Need-overflow_step-i invariant-loop decreases-loop
add-i c = search rules

loop-less : tie.Need-loop-i-smaller invariant-loop decreases-loop
loop-less c = search rules

long : (s : tie.Start invariant-loop decreases-loop) → length s.args.stages.lines ≡ stages_most
long s = search (rules, unmapped)

loop-again : tie.Need-loop-i-preserved invariant-loop decreases-loop
loop-again c =
    let told = c.before.before in
    let at = (turn told).loop-i in
    let s = start (turn told) in
    let more = next gas stage s.args.stages.lines at.i stage_beyond (omega (arith, long s)) in
    rw (result (known told) w64 (arg 1 ⟨+⟩ from w32 (arg 0)) tt) (
      ap (λ (y : ℤ). y +ℤ (line told).gas.0) at.invariant.0 ∙ sym (ap (first gas stage s.args.stages.lines) (add-one at.i) ∙ more),
      omega arith,
      omega (arith, bound-add at.sum.0 (line told).gas.0 at.invariant.2 (abs_sfits (narrow told))),
    )

returns : tie.Need-returns invariant-loop decreases-loop
returns c =
    let at = c.before.loop-i in
    let lines = (start c.before).args.stages.lines in
    let n = (start c.before).args.stages.count.0 in
    let e : at.i ≡ min n stages_most = omega arith in
    let all = ap (λ (j : ℕ). take j lines) e ∙ held lines n (long (start c.before)) in
    at.invariant.0 ∙ ap (λ (l : List Stageˢ). sum gas (map stage l)) all

pub total_gas_spec : {M : Type 1} → statement M
total_gas_spec =
    tie.close
    (tie.spec
    invariant-loop
    decreases-loop
    held-requires
    loop-holds
    mul-stage
    array-copy-out-stage
    cast-t13
    add-t14
    add-i
    loop-less
    loop-again
    returns)
