-- What the library finds behind the place is what the definition finds. Assumes nothing.
use Rattle.std.proofs.Common.{◌-◌, take, drop, length, rules, tests, List, ℕ, eqb}
use Rattle.std.proofs.lemmas.Iterator.{YieldsList-from_slice}
use Rattle.std.proofs.lemmas.Iterator.Search.{position_from_yields_List}
use Rattle.text.proofs.Scanning.{find_by_position}
use Rattle.text.proofs.scan.find.Goals as goal

pub returns : goal.returns
returns c =
    let s : List ℕ = c.args.s.now in
    let m : ℕ = c.min.result in
    let rest : List ℕ = take (length s - m) (drop m s) in
    let e = position_from_yields_List (λ x. eqb x c.args.c) _ _ _ c.position.ensures.ran (YieldsList-from_slice rest cc) (λ x b q k. search (rules, tests)) in
    rw c.unwrap_or.ensures (find_by_position s c.args.at c.args.c m c.min.ensures _ e)
