-- A key has at most as many bytes as the longest, and a figure at most 20. Assumes nothing.
use native.Mathlib.Omega.{arith}
use mathlib.Core.Path.{◌≡◌, ap, ◌∙◌}
use lib.IntN.{ℤ}
use lib.ListN.{length}
use mir.Facts.{to_z-of_z}
use Rattle.text.specs.Decimal.{decimal}
use Rattle.text.proofs.Decimal.{length-line, i64_width}
use Rattle.report.proofs.writing.line_length.Goals as goal

wide : (c : goal.After-width) → c.width.result ≡ length (decimal c.args.figure)
wide c = c.width.ensures ∙ ap (λ (x : ℤ). length (decimal x)) (to_z-of_z c.ranges.figure)

pub overflow_add-result : goal.overflow_add-result
overflow_add-result c = record { fits = omega (arith, c.requires, wide c, i64_width c.args.figure c.ranges.figure) }

pub overflow_add-result-2 : goal.overflow_add-result-2
overflow_add-result-2 c = record { fits = omega (arith, c.requires, wide c, i64_width c.args.figure c.ranges.figure) }

pub returns-clause-value : goal.returns-clause-value
returns-clause-value c = omega (arith, wide c, length-line c.args.key.now c.args.figure)

pub returns-clause-upper_bound : goal.returns-clause-upper_bound
returns-clause-upper_bound c = omega (arith, c.requires, wide c, i64_width c.args.figure c.ranges.figure)
