-- The heats of the firing that the sheet shows, or its refusal. Assumes nothing.
use borrow.Author.Rules.{rules}
use mathlib.Core.Path.{sym, ap, ◌∙◌, subst}
use mathlib.Core.List.{List}
use native.Mathlib.Omega.{arith}
use lib.ListN.{take}
use lib.Seq.{length-take-le}
use Prim.Native.Nat.{ℕ}
use Rattle.pen.specs.Writing.{Written}
use Rattle.document.specs.Rows.{firing_of}
use Rattle.formulas.specs.Items.{shuttle}
use Rattle.formulas.specs.Report.{heat_keys, lines_text, joules_text}
use Rattle.heat.specs.Balance.{Kept}
use Rattle.report.proofs.Printing.{joules_are}
use Rattle.reader.proofs.Answering.{Firm, firm, firm_lawful, Denied, denied, denied-small}
use Rattle.answer.specs.declared.Answer.{Answer}
use Rattle.answer.specs.Answer.{refused_text}
use Rattle.joules.proofs.Telling.{heats-told, refusal-told}
use Rattle.sheet.specs.declared.Sheet.{Sheet}
use Rattle.joules.proofs.program.print.Goals as goal

kept : {s : List ℕ} {x : Sheet} (a : Firm s x) → Kept x (firing_of a.sheet)
kept a = record { shows = a.shows; rules = firm_lawful a }

pub balance-requires : goal.balance-requires
balance-requires c =
    let a = firm (take c.args.n c.args.room.now) c.in-Ok.sheet c.in-Ok.ensures in
    (firing_of a.sheet, kept a)

pub returns-in-Ok-clause-written : goal.returns-in-Ok-clause-written
unfolding joules_text
returns-in-Ok-clause-written c =
    let s = take c.args.n c.args.room.now in
    let a = firm s c.in-Ok.sheet c.in-Ok.ensures in
    let f = firing_of a.sheet in
    let w = c.write_heats in
    let heats = joules_are f c.balance.result (c.balance.ensures f (kept a)) in
    let text = ap (lines_text (heat_keys shuttle)) heats ∙ heats-told s c.in-Ok.sheet a in
    subst (λ (x : List ℕ). Written 0 x c.args.out.now w.new.out w.result) text w.ensures.written

pub refused-a-requires : goal.refused-a-requires
refused-a-requires c =
    let small = denied-small (denied (take c.args.n c.args.room.now) c.in-Err.e c.in-Err.ensures) in
    (omega (arith, small.number), omega (arith, small.line), omega (arith, small.field))

pub returns-in-Err-clause-written : goal.returns-in-Err-clause-written
returns-in-Err-clause-written c =
    let s = take c.args.n c.args.room.now in
    let w = c.refusal_text in
    let numbers = ap (λ (a : Answer). refused_text a.refusal a.line a.field) c.refused-a.ensures in
    let text = numbers ∙ refusal-told s c.in-Err.e (denied s c.in-Err.e c.in-Err.ensures) in
    subst (λ (x : List ℕ). Written 0 x c.args.out.now w.new.out w.result) text w.ensures.written
