-- Each piece is the one that is due, and is read as the definition reads it. Assumes nothing.
use Rattle.std.proofs.Common.{◌≡◌, ℕ, ◌-◌, ◌+◌, length, take, drop, refl, sym, ap, ◌∙◌, arith, Some, None, w64, SFits, rules}
use mir.ValLaws.{to_z-of_z}
use Rattle.std.proofs.lemmas.Result.{err_from_is_err_and}
use Rattle.sheet.specs.declared.Refusal.TheVariants.{NotANumber}
use Rattle.text.specs.Number.{number_of}
use Rattle.text.specs.Scanning.{up_to}
use Rattle.text.proofs.Scanning.{piece}
use Rattle.document.specs.Schema.{pieces}
use Rattle.document.proofs.Pieces.{pieces-count}
use Rattle.form.proofs.Pieces.{left-all, next-piece}
use Rattle.form.proofs.Steps.{fields_wrong, fields-done, fields-bad, fields-more}
use Rattle.form.proofs.fields.Goals.{then-n-eq0-via-then-n-eq0, then-n-eq0-via-else-n-eq0+then-count-n}
use Rattle.form.proofs.fields.Goals as goal

pub returns-then-n-eq0 : goal.returns-then-n-eq0
returns-then-n-eq0 c =
    let v = c.args.v.now in
    let other : 0 + length (pieces 44 v) ≡ c.args.n → ⊥ = λ e.
    elim c.then-n-eq0.branch [
      | then-n-eq0-via-then-n-eq0 w ↦ omega (arith, e, w.if-n-eq0.true, pieces-count 44 v)
      | then-n-eq0-via-else-n-eq0+then-count-n w ↦ w.if-count-n.true (omega (arith, e, pieces-count 44 v, w.count.ensures))
    ] in
    sym (fields_wrong _ _ 0 _ (pieces 44 v) other)

pub loop-i-init : goal.loop-i-init
loop-i-init c =
    let v = c.args.v.now in
    rw (left-all v) (record { rest = refl; many = omega (arith, pieces-count 44 v, c.count.ensures, c.if-count-n.false) })

pub slice_bounds-number-end : goal.slice_bounds-number-end
slice_bounds-number-end c = omega (arith, next-piece _ _ _ c.find-e.ensures (omega arith))

pub returns-in_err-values : goal.returns-in_err-values
returns-in_err-values c =
    let l = c.loop-i in
    let v = c.args.v.now in
    let s = (next-piece v l.at c.find-e.result c.find-e.ensures (omega arith)).first in
    let none : c.number.result ≡ None = c.in_err-values.ensures.ok_part in
    let text : c.number.result ≡ number_of (up_to 44 (drop l.at v)) =
    c.number.ensures ∙ ap number_of (ap (λ (e : ℕ). take (e - l.at) (drop l.at v)) c.find-e.ensures ∙ piece v l.at 44) in
    let p = err_from_is_err_and c.from_residual.result c.from_residual.ensures.1 in
    let named : c.in_err-values.field-0.0 ≡ NotANumber (l.i + 1) = cc (rw none at c.in_err-values.ensures.value) in
    rw (p.1, p.2, named) (sym (fields-bad _ _ _ _ _ _ (rw s at l.invariant.many) (sym text ∙ none)) ∙ rw s at l.invariant.rest)

pub overflow_add-at : goal.overflow_add-at
overflow_add-at c = omega (arith, next-piece _ _ _ c.find-e.ensures (omega arith))

pub loop-i-preserved : goal.loop-i-preserved
loop-i-preserved c =
    let l = c.loop-i in
    let v = c.args.v.now in
    let s = (next-piece v l.at c.find-e.result c.find-e.ensures (omega arith)).first in
    let z = c.in_ok-values.field-0 in
    let some : c.number.result ≡ Some z = c.in_ok-values.ensures.ok_part in
    let text : c.number.result ≡ number_of (up_to 44 (drop l.at v)) =
    c.number.ensures ∙ ap number_of (ap (λ (e : ℕ). take (e - l.at) (drop l.at v)) c.find-e.ensures ∙ piece v l.at 44) in
    let fits : SFits w64 z = search rules in
    rw (to_z-of_z w64 z fits)
    (record { rest = sym (fields-more _ _ _ _ _ _ z (sym text ∙ some)) ∙ rw s at l.invariant.rest; many = omega (arith, ap length s) })

pub returns : goal.returns
returns c =
    let l = c.loop-i in
    sym (fields-done _ _ _ _ _ (omega arith) (omega arith)) ∙ l.invariant.rest
