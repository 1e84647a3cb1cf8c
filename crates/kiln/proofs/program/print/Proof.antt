-- The answer for this room is the report or a refusal of the sheet, whose text then goes over the room as it was. Assumes nothing.
use borrow.Author.Rules.{rules}
use mathlib.Core.Path.{sym, ap, subst}
use mathlib.Core.List.{List}
use native.Mathlib.Omega.{arith}
use Prim.Native.Nat.{ℕ, ◌≤◌}
use lib.ListN.{length}
use lib.Seq.{length-take-le}
use Rattle.pen.specs.Writing.{Written}
use Rattle.report.specs.Lengths.{report_most}
use Rattle.answer.specs.Answer.{refused_text}
use Rattle.kiln.proofs.Telling.{report-told, refusal-told}
use Rattle.kiln.proofs.program.print.Statement.{statement}
use Rattle.kiln.proofs.program.print.Tie as tie

abbrev start : tie.After-answered-a → tie.Start
start c = c.before.before.before

size : (c : tie.After-answered-a) → report_most ≤ length (start c).args.out.now
size c = omega arith

returns : tie.Need-returns-then-a-eq0
returns c =
    let read = c.before.before in
    let r = read.answered-a in
    let told = report-told _ _ _ r.result r.ensures.1.1 (size read) r.ensures.0 r.ensures.1.0 (omega arith) in
    (told.0, omega (arith, told.1, size read, r.auto.room))

returns-2 : tie.Need-returns
returns-2 c =
    let read = c.before.before.before.before in
    let r = read.answered-a in
    let told = refusal-told _ _ _ r.result r.ensures.1.1 (size read) r.ensures.0 r.ensures.1.0 (omega arith) in
    let w = c.refusal_text in
    let refusal = refused_text r.result.refusal r.result.line r.result.field in
    let over = subst (λ (old : List ℕ). Written 0 refusal old w.new.out w.result) told.1 w.ensures.0 in
    let text = subst (λ (t : List ℕ). Written 0 t (start read).args.out.now w.new.out w.result) told.0 over in
    (text, omega (arith, w.ensures.1, size read, w.auto.out, ap length told.1))

pub print_spec : {M : Type 1} → statement M
print_spec =
    tie.close
    (tie.spec (λ c. sym (length-take-le _ _ c.requires.1)) (λ c κs. search rules) returns (λ c κs. search rules) returns-2)
