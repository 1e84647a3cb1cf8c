-- What the code's steps know beyond their answers.
use Rattle.std.specs.Prelude.{ℕ, ◌≤◌, ◌≡◌, List, length}
use Rattle.document.specs.Reader.{Sheet, Good, read_of}
use Rattle.document.specs.Editions.{document}
use Rattle.document.specs.Rows.{firing_of}
use Rattle.formulas.specs.Report.{report}
use Rattle.report.specs.Lengths.{report_most}

-- the report of an accepted sheet is no longer than the longest
abbrev pub Short : List ℕ → Type 0
Short s = (sheet : Sheet) → read_of document s ≡ Good sheet → length (report (firing_of sheet)) ≤ report_most
