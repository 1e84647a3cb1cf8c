-- The greatest report is known, and the length of any other. Assumes nothing.
use mathlib.Core.Path.{sym, ap}
use native.Mathlib.Omega.{arith}
use borrow.Author.Rules.{rules}
use borrow.Author.Tests.{le-leb}
use lib.ListN.{length}
use lib.Dec.{leb}
use Prim.Native.Nat.{ℕ}
use Rattle.formulas.specs.Items.{shuttle}
use Rattle.formulas.specs.Report.{keys, lines_text}
use Rattle.report.proofs.Room.{in_room}
use Rattle.report.proofs.writing.fits.Statement.{statement}
use Rattle.report.proofs.writing.fits.Tie as tie

returns : tie.Need-returns-then-room-ge-MOST
returns c =
    let a = c.args in
    let most = in_room a.figures.now c.requires in
    (sym (le-leb (length (lines_text (keys shuttle) a.figures.now)) a.room (omega (arith, most))), most)

returns-2 : tie.Need-returns
returns-2 c =
    let a = c.args in
    (ap (λ (n : ℕ). leb n a.room) c.length.ensures.0, omega (arith, c.length.ensures.0, c.length.ensures.1))

pub fits_spec : {M : Type 1} → statement M
fits_spec = tie.close (tie.spec returns (λ c κs. search rules) returns-2)
