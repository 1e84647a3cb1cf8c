-- The size is rounded and the sign stays, as the definition has it. Assumes nothing.
use borrow.Author.Rules.{rules}
use mathlib.Core.Path.{◌≡◌, refl, sym, ap, ap₂, ◌∙◌, subst}
use Prim.Native.Nat.{ℕ, zero, suc, ◌^◌, ◌≤◌, ◌<◌, zero-le}
use native.Mathlib.Nat.{le_of_suc-le-suc}
use native.Mathlib.Omega.{arith}
use lib.Dec.{T, ltb→lt}
use lib.IntN.{ℤ, pos, negsuc, neg_ℤ, nat_abs}
use lib.Signed.{mag, ◌<ℤ◌, non_neg}
use mir.Syntax.{w64}
use mir.Val.{SFits}
use mir.ValLaws.{sfits_le, to_z-of_z}
use Rattle.arith.specs.Nearest.{nearest_ℕ, nearest, with_sign}
use Rattle.arith.proofs.NearestLaws.{small_ℕ}
use Rattle.arith.proofs.Signed.{W}
use Rattle.arith.proofs.nearest.Statement.{statement}
use Rattle.arith.proofs.nearest.Tie as tie

parted : (n : ℤ) (d : ℕ) → with_sign n (nearest_ℕ (nat_abs n) d) ≡ nearest n d
unfolding nearest
parted (pos n) d = refl
parted (negsuc n) d = refl

-- it is no larger than the dividend, and so fits
minus-mag : (r : ℕ) {a : ℕ} → r ≤ suc a → mag (neg_ℤ (pos r)) ≤ a
minus-mag zero h = zero-le
minus-mag (suc r) h = le_of_suc-le-suc h

nearest-mag : (n : ℤ) {d : ℕ} → 0 < d → mag (nearest n d) ≤ mag n
unfolding nearest
nearest-mag (pos a) h = small_ℕ a h
nearest-mag (negsuc a) {d} h = minus-mag (nearest_ℕ (suc a) d) (small_ℕ (suc a) h)

-- the divisor as a size
record Divides (d : ℤ) : Type 0 where
  plain : T (non_neg d)
  some : 0 < nat_abs d
  small : nat_abs d < 2 ^ 63

divides : (d : ℤ) → pos 0 <ℤ d → SFits w64 d → Divides d
divides (pos k) h f = record { plain = tt; some = ltb→lt 0 k h.lt; small = f.sfits }
divides (negsuc k) h f = absurd h.lt

divisor : (s : tie.Start) → Divides (W s.args.d)
divisor s = subst Divides (sym (to_z-of_z w64 s.args.d s.ranges.d)) (divides s.args.d s.requires s.ranges.d)

cast-nearest-size : tie.Need-overflow_cast-d
cast-nearest-size c = let k = divisor c.before in (k.plain, record { fits = omega (arith, k.small) })

-- what the two calls give together
given : (c : tie.After-nearest_size) → let a = c.before.before.args in with_sign (W a.n) c.nearest_size.result ≡ nearest a.n (nat_abs a.d)
given c =
    let s = c.before.before in
    let back = to_z-of_z w64 s.args.n s.ranges.n in
    let by = ap nat_abs (to_z-of_z w64 s.args.d s.ranges.d) in
    let size = c.nearest_size.ensures ∙ ap₂ nearest_ℕ (c.before.magnitude.ensures ∙ ap nat_abs back) by in
    ap₂ with_sign back size ∙ parted s.args.n (nat_abs s.args.d)

fitting : (s : tie.Start) → SFits w64 (nearest s.args.n (nat_abs s.args.d))
fitting s = sfits_le (nearest-mag s.args.n (divides s.args.d s.requires s.ranges.d).some) s.ranges.n

with-sign-requires : tie.Need-with_sign-requires
with-sign-requires c κs =
    let s = c.before.before in
    subst (SFits w64) (sym (given c)) (fitting s)

returns : tie.Need-returns
returns c =
    let s = c.before.before.before in
    ap W (c.with_sign.ensures ∙ given c.before) ∙ to_z-of_z w64 (nearest s.args.n (nat_abs s.args.d)) (fitting s)

pub nearest_spec : {M : Type 1} → statement M
nearest_spec =
    tie.close
    (tie.spec
    (λ c κs. search rules)
    cast-nearest-size
    (λ c κs. let k = divisor c.before in (k.some, k.small))
    with-sign-requires
    returns)
