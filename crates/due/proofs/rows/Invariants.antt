-- The lines up to i have been heard and laid into the array.
use Rattle.std.proofs.Common.{◌≡◌, ◌-◌, ◌++◌, List, replicate}
use Rattle.due.specs.Block.{RowsHeard}
use Rattle.due.proofs.rows.Given as goal

abbrev pub invariant-loop-i : goal.invariant-loop-i
invariant-loop-i g l =
    goal.F-pre g l.line l.place
    × ((xs : List g.row.T.Denot) × RowsHeard (goal.F-post g l.line) l.i l.fn.start l.place xs × (l.said ≡ xs ++ replicate (g.row.N - l.i) l.fn.blank))
