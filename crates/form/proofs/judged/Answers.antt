-- Each of the definition's cases by its test. Assumes nothing.
use Rattle.std.proofs.Common.{◌≡◌, ◌<◌, ℕ, ◌-◌, Bool, true, false, List, length, take, drop, eqb, Some, None, sym, ◌∙◌, arith}
use Rattle.std.specs.Cmp.Lexicographic.{pointwise}
use Rattle.std.proofs.lemmas.Option.{MatchOption-at_some, MatchOption-at_none}
use Rattle.std.proofs.lemmas.Result.{err_from_is_err_and}
use Rattle.sheet.specs.declared.Refusal.TheVariants.{WrongKey}
use Rattle.text.specs.Scanning.{up_to, find, begins}
use Rattle.text.proofs.Scanning.{piece, begins_by_prefix}
use Rattle.form.proofs.Lines.{endless, unkeyed, line-keyed, line-fields}
use Rattle.form.proofs.judged.Goals as goal

-- the part that is looked at is the line's text
line : (s : List ℕ) (at e : ℕ) → e ≡ find s at 10 → take (e - at) (drop at s) ≡ up_to 10 (drop at s)
line s at e h = rw h (piece s at 10)

begun : (s key : List ℕ) (at e : ℕ) (t : Bool) → e ≡ find s at 10 → pointwise eqb (take (length key) (take (e - at) (drop at s))) key ≡ t
    → begins key (up_to 10 (drop at s)) ≡ t
begun s key at e t h q = begins_by_prefix key (up_to 10 (drop at s)) ∙ rw (line s at e h) at q

pub returns-then-s-e : goal.returns-then-s-e
returns-then-s-e c = sym (endless _ _ _ _ (omega (arith, c.find-e.ensures)))

pub returns-in_err-v : goal.returns-in_err-v
returns-in_err-v c =
    let a = c.args in
    let none : c.strip_prefix.result ≡ None = c.in_err-v.ensures.ok_part in
    let other = MatchOption-at_none _ _ none c.strip_prefix.ensures.cases in
    let p = err_from_is_err_and c.from_residual.result c.from_residual.ensures.1 in
    let named : c.in_err-v.field-0.0 ≡ WrongKey = cc (rw none at c.in_err-v.ensures.value) in
    rw (p.1, p.2, named)
    (sym (unkeyed a.s.now a.at a.key.now a.n (omega (arith, c.find-e.ensures)) (begun a.s.now a.key.now a.at c.find-e.result false c.find-e.ensures other)))

pub returns : goal.returns
returns c =
    let a = c.args in
    let some : c.strip_prefix.result ≡ Some c.in_ok-v.v = c.in_ok-v.ensures.ok_part in
    let same = MatchOption-at_some _ _ _ some c.strip_prefix.ensures.cases in
    let h : find a.s.now a.at 10 < length a.s.now = omega (arith, c.find-e.ensures) in
    let k = line-keyed a.s.now a.at a.key.now h (begun a.s.now a.key.now a.at c.find-e.result true c.find-e.ensures same.0) in
    rw (same.1, line a.s.now a.at c.find-e.result c.find-e.ensures, c.find-e.ensures) at c.fields.ensures ∙ sym (line-fields a.s.now a.at a.key.now a.n k h)
