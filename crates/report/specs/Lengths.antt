-- How long the text of a report can be, whatever its figures.
use Rattle.std.specs.Prelude.{ℕ, ◌+◌, ◌*◌}
use Rattle.formulas.specs.Items.{shuttle, heat_count}
use Rattle.formulas.specs.Report.{line_count}

-- a key; its line, with `=`, 20 bytes of an i64 and LF
abbrev pub key_most : ℕ
key_most = 8

abbrev pub line_most : ℕ
line_most = key_most + 22

-- all lines; those of the heats
abbrev pub report_most : ℕ
report_most = line_count shuttle * line_most

abbrev pub heats_most : ℕ
heats_most = heat_count shuttle * line_most
