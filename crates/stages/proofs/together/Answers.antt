-- Three shares, each widened: no sum of them leaves 64 bits. Assumes nothing.
use Rattle.std.proofs.Common.{rules, [], ◌∷◌, w16, w64}
use mir.Val.{SFits}
use Rattle.arith.proofs.Machine.{whole, arg, from, ◌⟨+⟩◌, result}
use Rattle.stages.proofs.together.Goals as goal

pub returns-in-Some : goal.returns-in-Some
returns-in-Some c =
    let co : SFits w16 c.args.x.co.0 = search rules in
    let pair : SFits w16 c.in-Some.analysis.pair.0 = search rules in
    let oxygen : SFits w16 c.in-Some.analysis.oxygen.0 = search rules in
    rw c.in-Some.is (result (whole co ∷ whole pair ∷ whole oxygen ∷ []) w64 (from w16 (arg 0) ⟨+⟩ from w16 (arg 1) ⟨+⟩ from w16 (arg 2)) tt)
