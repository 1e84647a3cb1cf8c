-- One line more is heard and laid behind those before it. Assumes nothing.
use Rattle.std.proofs.Common.{◌≡◌, [], ◌∷◌, ◌++◌, arith}
use native.Mathlib.Numerals.{add-one}
use Rattle.due.specs.Block.RowsHeard.{none_heard, one_heard}
use Rattle.due.proofs.Laid.{laid_none, laid_next, heard_length}
use Rattle.due.proofs.rows.Goals as goal

pub loop-i-init : goal.loop-i-init
loop-i-init g c = (c.requires.first, ([], none_heard, laid_none _ _))

pub loop-i-preserved : goal.loop-i-preserved
loop-i-preserved g c =
    let (first, (xs, heard, said)) = c.loop-i.invariant in (
      c.requires.next _ _ first c.line-heard.ensures,
      (xs ++ (c.line-heard.result.said ∷ []), rw add-one (one_heard heard c.line-heard.ensures), rw said (laid_next _ _ xs _ _ (heard_length heard) (omega arith))),
    )

pub returns : goal.returns
returns g c =
    let e : c.loop-i.i ≡ c.args.k = omega (arith, c.requires.k_le_most) in
    rw (← e) c.loop-i.invariant.1
