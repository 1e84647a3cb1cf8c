-- One number more is wrapped. Assumes nothing.
use Prim.Native.Nat.{ℕ, ◌+◌, ◌<◌}
use mathlib.Core.Path.{◌≡◌, sym, ap, ◌∙◌}
use mathlib.Core.List.{List, [], ◌∷◌, map-append}
use native.Mathlib.Numerals.{add-one}
use native.Mathlib.Omega.{arith}
use lib.IntN.{ℤ, pos}
use lib.ListN.{length, take, get_or, set, length-set}
use lib.Seq.{take-suc, take-suc-set, take_all}
use mir.Facts.{to_z-of_z}
use mir.Syntax.{w64}
use mir.Val.{SFits}
use borrow.Author.Rules.{rules}
use Rattle.limits.specs.declared.Number.{Number}
use Rattle.due.specs.Taking.{plain_numbers}
use Rattle.due.proofs.numbers.Goals as goal

one_more : (r : List Number) (v : List ℤ) (i : ℕ) (x : ℤ) → i < length r → i < length v → x ≡ get_or v i (pos 0) → plain_numbers (take i r) ≡ take i v
    → plain_numbers (take (i + 1) (set r i (record { 0 = x }))) ≡ take (i + 1) v
one_more r v i x h k e q =
    rw (add-one i, take-suc-set r i (record { 0 = x }) h, take-suc v i (pos 0) k, ← q, ← e)
    (map-append (λ n. n.0) (take i r) (record { 0 = x } ∷ []))

pub loop-i-preserved : goal.loop-i-preserved
loop-i-preserved c =
    let fits : SFits w64 (get_or c.args.v c.loop-i.i (pos 0)) = search rules in (
      simp length-set c.loop-i.invariant.0,
      one_more _ _ _ _ (omega (arith, c.loop-i.invariant.0)) (omega arith) (to_z-of_z {w = w64} fits) c.loop-i.invariant.1,
    )

pub returns : goal.returns
returns c =
    let at = c.loop-i in
    sym (ap plain_numbers (take_all at.i at.r (omega (arith, at.invariant.0)))) ∙ at.invariant.1 ∙ take_all at.i c.args.v (omega arith)
