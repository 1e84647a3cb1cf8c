-- The line by the shares that are taken of its numbers, and the rule on their sum and their air. Assumes nothing.
use Prim.Native.Nat.{ℕ, zero, suc, ◌≤◌}
use mathlib.Core.Path.{◌≡◌, refl, sym, ap, ◌∙◌}
use mathlib.Core.Bool.{Bool, cond, not, ◌&&◌}
use mathlib.Core.List.{List, [], ◌∷◌}
use lib.IntN.{ℤ, pos, nat_abs}
use lib.ListN.{get_or, replicate}
use lib.Signed.{lt_z, le_z_yes}
use Rattle.arith.proofs.Machine.{range, arg, bound}
use Rattle.limits.specs.declared.Number.{Number}
use Rattle.limits.proofs.Laws.{within as between}
use Rattle.quantity.specs.declared.gas.Share.{Share}
use Rattle.sheet.specs.declared.Refusal.TheVariants.{Shares}
use Rattle.sheet.specs.Shown.{same}
use Rattle.sheet.specs.Block.{sum}
use Rattle.document.specs.Tests.{when, weigh, air_weights, gas-rule}
use Rattle.document.specs.Schema.{within}
use Rattle.sheet.specs.Quantities.{share, gases}
use Rattle.document.specs.Document01.{gas_line}
use Rattle.document.specs.Rules.{Every}
use Rattle.document.proofs.Lists.{every_made}
use Rattle.due.specs.Taking.{from, held_to}
use Rattle.due.proofs.Ranges.{held_measured}
use Rattle.fuel.specs.Fuel.{shares}
use Rattle.due.proofs.Quantities.{line-taken, then-ruled}
use Rattle.fuel.proofs.gas.gas_line.Goals as goal

abbrev Small : ℤ → Type 0
Small z = nat_abs z ≤ 10000

-- whatever the line said, each share is held to its range
share-small : (z : ℤ) → Small (cond (within share z) z share.least)
share-small z = let b = between (held_measured share z _ refl) (le_z_yes tt) in bound (range b.low b.high ∷ []) (arg 0) tt

all_small : (v : List Number) (i n : ℕ) → Every Small (held_to (replicate n share) (from i n v))
unfolding held_to
all_small v i zero = tt
all_small v i (suc n) = (share-small (get_or v i (record { 0 = pos 0 })).0, all_small v (suc i) n)

pub unburnable-requires : goal.unburnable-requires
unburnable-requires c =
    let t = c.line-gas.ensures.says in
    every_made (λ (x : Share). x.0) Small c.line-gas.result.said (rw (t.said, t.taken.1.shown) (all_small t.form.said 0 gases))

pub returns : goal.returns
returns c =
    let whole : List ℤ → Bool = λ zs. not (same (sum (λ z. z) zs) (pos 10000) && lt_z (pos 0) (weigh air_weights zs)) in
    then-ruled gas_line (λ row. shares c.line-gas.result.said ≡ row.numbers) (gas-rule []) c.unburnable.result Shares
    (line-taken gas_line (λ x zs. shares x ≡ zs) refl refl (λ v x e. e.1) c.line-gas.ensures.says)
    (λ row h. sym (ap (λ (t : Bool). when t Shares) (c.unburnable.ensures ∙ ap whole h))) c.ruled.ensures
