-- A line more, and at the end all of them. Assumes nothing.
use borrow.Author.Rules.{sfits_of}
use mathlib.Core.Path.{◌≡◌, ap}
use mathlib.Core.Logic.{⊎_elim}
use native.Mathlib.Omega.{arith}
use mir.Syntax.{w64}
use mir.Facts.{to_z-of_z}
use Rattle.std.specs.Slice.Iter.{iter_rest}
use Rattle.formulas.specs.Items.{shuttle, heats}
use Rattle.formulas.specs.Report.{lines, keys}
use Rattle.report.proofs.Keys.{texts}
use Rattle.report.proofs.Going.{counted-first, key-short, counted-next, counted-keys, counted-figures}
use Rattle.report.proofs.writing.length.Goals as goal

keys-are : (c : goal.After-into_iter-key-iterator) → texts (iter_rest c.iter.result) ≡ keys shuttle
unfolding keys lines heats
keys-are c = ap texts c.iter.ensures.rest

pub loop-key-init : goal.loop-key-init
loop-key-init c =
    rw (c.into_iter-key-iterator.ensures.into_iter_gives, c.zip-key-items.ensures.first, c.zip-key-items.ensures.second.0)
    (counted-first _ _ (keys-are c))

pub line_length-n-requires : goal.line_length-n-requires
line_length-n-requires c = key-short c.loop-key.invariant c.in-Some.ensures.steps.0 c.in-Some.ensures.steps.1

pub overflow_add-n : goal.overflow_add-n
overflow_add-n c = record { fits = omega (arith, c.loop-key.invariant.most, c.line_length-n.ensures.upper_bound) }

pub loop-key-preserved : goal.loop-key-preserved
loop-key-preserved c =
    let e = to_z-of_z {w = w64} {z = c.in-Some.figure.now} (sfits_of c.line_length-arg-1.given) in
    counted-next c.loop-key.invariant c.in-Some.ensures.steps.0 c.in-Some.ensures.steps.1 _ (rw e at c.line_length-n.ensures.value) c.line_length-n.ensures.upper_bound

pub returns-clause-value : goal.returns-clause-value
returns-clause-value c =
    ⊎_elim
    (λ h. counted-keys c.loop-key.invariant h.1.0)
    (λ h. counted-figures c.loop-key.invariant h.1.0)
    c.in-None.ensures.steps

pub returns-clause-upper_bound : goal.returns-clause-upper_bound
returns-clause-upper_bound c = omega (arith, c.loop-key.invariant.most)
