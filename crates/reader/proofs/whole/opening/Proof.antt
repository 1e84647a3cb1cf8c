-- The test on the number of bytes is the definition's. Assumes nothing.
use mathlib.Core.Path.{refl}
use borrow.Author.Rules.{rules}
use borrow.Author.Tests.{lt-ltb, le-ltb}
use Rattle.sheet.specs.Quantities.{sheet_most}
use Rattle.reader.proofs.whole.opening.Statement.{statement}
use Rattle.reader.proofs.whole.opening.Tie as tie

returns : tie.Need-returns-then-n-gt-SHEET_MOST
returns c = rw (lt-ltb sheet_most c.args.n c.if-n-gt-SHEET_MOST.true) c.refused.ensures

returns-2 : tie.Need-returns
returns-2 c = rw (le-ltb sheet_most c.args.n c.if-n-gt-SHEET_MOST.false) refl

pub opening_spec : {M : Type 1} → statement M
opening_spec = tie.close (tie.spec (λ c κs. search rules) returns returns-2)
