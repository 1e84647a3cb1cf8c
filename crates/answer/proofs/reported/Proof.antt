-- The length is known before anything is written. Assumes nothing.
use borrow.Author.Rules.{rules}
use Prim.Native.Nat.{ℕ}
use mathlib.Core.Path.{sym, ap, ◌∙◌}
use native.Mathlib.Nat.{zero-add}
use native.Mathlib.Omega.{arith}
use borrow.Author.Tests.{leb-true, leb-false}
use lib.ListN.{length}
use Rattle.formulas.specs.Items.{shuttle}
use Rattle.formulas.specs.Report.{keys, lines_text}
use Rattle.answer.specs.Answer.{refused_as}
use Rattle.answer.proofs.Fitting.{too_little, enough, untouched, at_front}
use Rattle.answer.proofs.reported.Statement.{statement}
use Rattle.answer.proofs.reported.Tie as tie

-- the start, from where the length is known, and where the report fits, from behind its writing
abbrev start : tie.After-fits → tie.Start
start c = c.before.before

abbrev fitting : tie.After-slice_known-then-fits-1 → tie.Then-fits
fitting c = c.before.before.before.before

write-requires : tie.Need-write-length-requires
write-requires c κs = leb-true _ _ (sym c.before.before.fits.ensures.0 ∙ c.if-fits.true)

returns : tie.Need-returns-then-fits
returns c =
    let n = (fitting c).before.fits in
    let s = start (fitting c).before in
    let text = lines_text (keys shuttle) s.args.figures.now in
    let w = c.write-length.ensures in
    let most = leb-true (length text) (length s.args.room.now) (sym n.ensures.0 ∙ (fitting c).if-fits.true) in
    (enough text (length s.args.room.now) most (w.ends ∙ zero-add (length text)), (at_front text s.args.room.now most w.holds, n.ensures.1))

refused-requires : tie.Need-refused-requires
refused-requires c κs = (omega (arith, c.refusal_number-number.ensures), omega arith, omega arith)

returns-2 : tie.Need-returns
returns-2 c =
    let left = c.before.before in
    let n = left.before.fits in
    let s = start left.before in
    let text = lines_text (keys shuttle) s.args.figures.now in
    let less = leb-false (length text) (length s.args.room.now) (sym n.ensures.0 ∙ left.if-fits.false) in
    let why = c.refused.ensures ∙ ap (λ (k : ℕ). refused_as k 0 0) c.refusal_number-number.ensures in
    (why ∙ too_little text (length s.args.room.now) less, (untouched text s.args.room.now less, n.ensures.1))

pub reported_spec : {M : Type 1} → statement M
reported_spec =
    tie.close
    (tie.spec (λ c κs. search rules) write-requires (λ c. search rules) returns (λ c κs. search rules) refused-requires returns-2)
