-- The lengths of the lines, added up. Assumes nothing.
use lib.ListN.{length}
use Rattle.std.specs.Iterator.Adapters.{zip_first, zip_second}
use Rattle.std.specs.Slice.Iter.{iter_rest}
use Rattle.formulas.specs.Items.{shuttle}
use Rattle.formulas.specs.Report.{keys, lines_text}
use Rattle.report.proofs.Going.{Counted}
use Rattle.report.proofs.writing.length.Given as goal

abbrev pub invariant-loop-key : goal.invariant-loop-key
invariant-loop-key l = Counted (length (lines_text (keys shuttle) l.figures)) l.n (iter_rest (zip_first l.key-iterator)) (iter_rest (zip_second l.key-iterator))
