-- The rules of the whole sheet, by the functions that look at them. Assumes nothing.
use Prim.Native.Nat.{ℕ, ◌≤◌, ◌<◌}
use mathlib.Core.Path.{◌≡◌, refl, sym, ◌∙◌, subst}
use mathlib.Core.Bool.{Bool, true, false, cond}
use native.Mathlib.Omega.{arith}
use borrow.Author.Rules.{rules}
use borrow.Author.Tests.{lt-ltb, le-ltb}
use lib.IntN.{ℤ, pos}
use Rattle.limits.specs.Checked.{Measured, in_range, first_fault}
use Rattle.sheet.specs.declared.Sheet.{Sheet}
use Rattle.sheet.specs.declared.Refusal.TheVariants.{Surplus, Missing, GasTotal}
use Rattle.document.specs.Schema.{within}
use Rattle.sheet.specs.Quantities.{gas_total}
use Rattle.walls.specs.Cells.{all_read}
use Rattle.due.specs.declared.Place.{Place}
use Rattle.due.specs.Place.{good, refused_at}
use Rattle.due.proofs.Places.{is-good, is-bad}
use Rattle.reader.specs.Whole.{gas_of, whole_as, verdict_as}
use Rattle.reader.proofs.whole.verdict.Statement.{statement}
use Rattle.reader.proofs.whole.verdict.Tie as tie

-- a fault is there exactly where the sum is out of its range
fault-within : (z value : ℤ) (fault : ℕ) → Measured (pos 100) (pos 200000) z 0 1 value fault → fault ≡ cond (within gas_total z) 0 1
unfolding in_range first_fault
fault-within z value fault m = m.first

clean : (t : Bool) (fault : ℕ) → fault ≡ cond t 0 1 → fault ≡ 0 → t ≡ true
clean true fault e f = refl
clean false fault e f = absurd (omega arith)

faulty : (t : Bool) (fault : ℕ) → fault ≡ cond t 0 1 → ¬ (fault ≡ 0) → t ≡ false
faulty true fault e f = absurd (f e)
faulty false fault e f = refl

summed : {a b : ℤ} {t : Bool} → a ≡ b → within gas_total a ≡ t → within gas_total b ≡ t
summed {t = t} e h = subst (λ (z : ℤ). within gas_total z ≡ t) e h

-- the cases of the verdict
module _ (n : ℕ) (p : Place) (x : Sheet) where
  passed : good p ≡ false → verdict_as n p x ≡ p
  passed e = rw e

  module _ (e : good p ≡ true) where
    more-below : p.at < n → verdict_as n p x ≡ refused_at Surplus p.line
    more-below h = rw (e, lt-ltb p.at n h)

    all-passed : n ≤ p.at → verdict_as n p x ≡ whole_as p x
    all-passed h = rw (e, le-ltb p.at n h)

too_much : (p : Place) (x : Sheet) → within gas_total (gas_of x) ≡ false → whole_as p x ≡ refused_at GasTotal 0
too_much p x e = rw e

by-reading : (p : Place) (x : Sheet) (t : Bool) → within gas_total (gas_of x) ≡ true
    → all_read x.readings x.sections.count.0 x.stages.count.0 ≡ t → whole_as p x ≡ cond t p (refused_at Missing 0)
by-reading p x t e f = rw (e, f)

returns : tie.Need-returns-then-p-ne0
returns c =
    let a = c.args in
    sym (passed a.n a.p a.sheet (is-bad a.p c.if-p-ne0.true))

returns-2 : tie.Need-returns-then-p-n
returns-2 c =
    let d = c.before.before.before in
    let a = d.args in
    c.refused.ensures ∙ sym (more-below a.n a.p a.sheet (is-good a.p d.if-p-ne0.false) c.if-p-n.true)

-- the start, from where all bytes were read, and this place, from where the gas was summed
abbrev start : tie.Else-p-n → tie.Start
start c = c.before.before.before.before

abbrev read_up : tie.After-total_gas → tie.Else-p-n
read_up c = c.before.before.before

-- where the gas was found within its limits, from where the walls were looked at
abbrev gas-good : tie.After-all_read → tie.Else-t-ne0
gas-good c = c.before.before.before.before

-- all bytes were read
all-read-up : (c : tie.Else-p-n) → let a = (start c).args in verdict_as a.n a.p a.sheet ≡ whole_as a.p a.sheet
all-read-up c =
    let d = c.before.before in
    let a = (start c).args in
    all-passed a.n a.p a.sheet (is-good a.p d.if-p-ne0.false) c.if-p-n.false

returns-3 : tie.Need-returns-then-t-ne0
returns-3 c =
    let d = c.before.before.before in
    let g = d.before in
    let a = (start (read_up g)).args in
    let w = summed g.total_gas.ensures (faulty _ _ (fault-within _ _ _ d.checked-t.ensures) c.if-t-ne0.true) in
    c.refused-then-t-ne0.ensures ∙ sym (all-read-up (read_up g) ∙ too_much a.p a.sheet w)

-- the gas is within its limits, and each wall has been looked at
by-walls : (r : tie.After-all_read) (t : Bool) → r.all_read.result ≡ t
    → let a = (start (read_up (gas-good r).before.before.before)).args in
    cond t a.p (refused_at Missing 0) ≡ verdict_as a.n a.p a.sheet
by-walls r t e =
    let d = (gas-good r).before.before in
    let g = d.before in
    let a = (start (read_up g)).args in
    let w = summed g.total_gas.ensures (clean _ _ (fault-within _ _ _ d.checked-t.ensures) (gas-good r).if-t-ne0.false) in
    sym (all-read-up (read_up g) ∙ by-reading a.p a.sheet t w (sym r.all_read.ensures ∙ e))

returns-4 : tie.Need-returns-then-all_read
returns-4 c = by-walls c.before true c.if-all_read.true

returns-5 : tie.Need-returns
returns-5 c = c.refused-2.ensures ∙ by-walls c.before.before false c.if-all_read.false

pub verdict_spec : {M : Type 1} → statement M
verdict_spec =
    tie.close
    (tie.spec
    returns
    (λ c κs. search rules)
    returns-2
    (λ c κs. search rules)
    (λ c κs. search rules)
    (λ c κs. search rules)
    returns-3
    (λ c κs. search rules)
    returns-4
    (λ c κs. search rules)
    returns-5)
