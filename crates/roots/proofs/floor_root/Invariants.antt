-- The pairs that are brought down are a number m; `root` is the root of m and `rest` what is left of it.
use Rattle.roots.specs.Steps.{Brought}
use Rattle.roots.proofs.floor_root.Given as goal

abbrev pub invariant-loop-behind : goal.invariant-loop-behind
invariant-loop-behind l = Brought l.n l.behind l.work.root l.work.rest
