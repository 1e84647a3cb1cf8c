-- A line more, and at the end all of them. Assumes nothing.
use borrow.Author.Rules.{sfits_of}
use mathlib.Core.Path.{◌≡◌, refl, ap, ◌∙◌}
use lib.ListN.{drop}
use Rattle.std.specs.Slice.Iter.{iter_rest}
use Rattle.formulas.specs.Items.{shuttle, heats}
use Rattle.formulas.specs.Report.{lines, keys}
use mathlib.Core.Logic.{⊎_elim}
use native.Mathlib.Omega.{arith}
use mir.Syntax.{w64}
use mir.Facts.{to_z-of_z}
use Rattle.report.proofs.Keys.{texts, keys-from}
use Rattle.report.proofs.Going.{going-first, going-room, going-next, no-keys, no-figures}
use Rattle.report.proofs.writing.write_from.Goals as goal

keys-are : (c : goal.After-into_iter-key-iterator) → texts (iter_rest c.iter.result) ≡ drop c.args.first (keys shuttle)
unfolding keys lines heats
keys-are c = ap texts c.iter.ensures.rest ∙ keys-from c.args.first _ _ 20 (omega arith) refl

pub loop-key-init : goal.loop-key-init
loop-key-init c =
    rw (c.into_iter-key-iterator.ensures.into_iter_gives, c.zip-key-items.ensures.first, c.zip-key-items.ensures.second.0)
    (going-first _ _ _ _ (keys-are c))

pub line_at-at-requires : goal.line_at-at-requires
line_at-at-requires c =
    let e = to_z-of_z {w = w64} {z = c.in-Some.figure.now} (sfits_of c.line_at-arg-in-loop-key-1.given) in
    rw e (going-room c.loop-key.invariant c.in-Some.ensures.steps.0 c.in-Some.ensures.steps.1 c.requires.figures_in_bounds c.loop-key.auto.out)

pub loop-key-preserved : goal.loop-key-preserved
loop-key-preserved c =
    let e = to_z-of_z {w = w64} {z = c.in-Some.figure.now} (sfits_of c.line_at-arg-in-loop-key-1.given) in
    going-next c.loop-key.invariant c.in-Some.ensures.steps.0 c.in-Some.ensures.steps.1 (rw e at c.line_at-at.ensures)

pub returns : goal.returns
returns c =
    ⊎_elim
    (λ h. no-keys c.loop-key.invariant h.1.0)
    (λ h. no-figures c.loop-key.invariant h.1.0)
    c.in-None.ensures.steps
