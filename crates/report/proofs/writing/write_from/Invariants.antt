-- One line behind the other. Assumes nothing.
use lib.ListN.{drop}
use Rattle.std.specs.Iterator.Adapters.{zip_first, zip_second}
use Rattle.std.specs.Slice.Iter.{iter_rest}
use Rattle.formulas.specs.Items.{shuttle}
use Rattle.formulas.specs.Report.{keys, lines_text}
use Rattle.report.proofs.Going.{Going}
use Rattle.report.proofs.writing.write_from.Given as goal

abbrev pub invariant-loop-key : goal.invariant-loop-key
invariant-loop-key l = Going (lines_text (drop l.first (keys shuttle)) l.figures) l.initial.out l.out l.at (iter_rest (zip_first l.key-iterator)) (iter_rest (zip_second l.key-iterator))
