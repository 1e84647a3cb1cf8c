-- Three pieces, one behind the other. Assumes nothing.
use borrow.Author.Rules.{rules}
use Prim.Native.Nat.{ℕ, ◌^◌, ◌≤◌, ◌<◌}
use mathlib.Core.Path.{◌≡◌, subst}
use mathlib.Core.List.{List, ◌++◌, append_assoc}
use native.Mathlib.Omega.{arith}
use lib.IntN.{pos}
use lib.ListN.{length}
use Rattle.text.specs.Bytes.{bytes}
use Rattle.text.specs.Decimal.{decimal}
use Rattle.pen.specs.Writing.{Written}
use Rattle.pen.specs.Refused.{behind_comma, refused_at, refused_at_most}
use Rattle.pen.proofs.Writing.{next}
use Rattle.pen.proofs.Numbers.{short}
use Rattle.answer.specs.Answer.{refused_text, refused_most}
use Rattle.answer.proofs.refusal_text.Statement.{statement}
use Rattle.answer.proofs.refusal_text.Tie as tie

grouped : (a b c : List ℕ) → (a ++ b) ++ c ≡ a ++ (b ++ c)
grouped a b c = simp append_assoc

pieces : (n l f : ℕ) → (refused_at n l ++ behind_comma f) ++ bytes "\n" ≡ refused_text n l f
pieces n l f = grouped (refused_at n l) (behind_comma f) (bytes "\n")

-- the places where the number with its line, and the field, are put
abbrev line : tie.After-behind_comma-field → tie.After-refused_at-line
line c = c.before.before.before.before

abbrev field : tie.After-bytes_at → tie.After-behind_comma-field
field c = let lent = c.before.before in lent.before.before.before.before

abbrev start : tie.After-refused_at-line → tie.Start
start c = c.before.before.before

-- line and field are numbers of 32 bits, so the text of each is short, whichever is put last
record Short (l f : ℕ) : Type 0 where
  line : length (decimal (pos l)) ≤ 11
  field : length (decimal (pos f)) ≤ 11

both-short : (c : tie.After-refused_at-line) → let a = (start c).args.answer in Short a.line a.field
both-short c =
    let a = (start c).args.answer in
    let g = (start c).well_formed in
    record { line = short a.line (omega (arith, g)); field = short a.field (omega (arith, g)) }

behind-comma-requires : tie.Need-behind_comma-field-requires
behind-comma-requires c κs =
    let l = c.before.before.before in
    let q = both-short l in
    omega (arith, (start l).requires, q.line, q.field, l.refused_at-line.ensures.1, l.refused_at-line.auto.out)

bytes-at-requires : tie.Need-bytes_at-requires
bytes-at-requires c κs =
    let f = c.before.before.before.before in
    let l = line f.before in
    let b = f.behind_comma-field in
    let q = both-short l in
    omega (arith, (start l).requires, q.line, q.field, l.refused_at-line.ensures.1, l.refused_at-line.auto.out, b.ensures.ends, b.auto.out)

returns : tie.Need-returns
returns c =
    let e = c.before.before in
    let f = field e in
    let l = line f in
    let s = start l in
    let a = s.args.answer in
    let three = next (next l.refused_at-line.ensures.0 f.behind_comma-field.ensures) e.bytes_at.ensures in
    let text = pieces a.refusal a.line a.field in
    let whole = subst (λ (t : List ℕ). Written 0 t s.args.out.now e.bytes_at.new.out e.bytes_at.result) text three in
    (whole, omega (arith, (both-short l).field, l.refused_at-line.ensures.1, f.behind_comma-field.ensures.ends, e.bytes_at.ensures.ends))

pub refusal_text_spec : {M : Type 1} → statement M
refusal_text_spec =
    tie.close
    (tie.spec (λ c. search rules) behind-comma-requires bytes-at-requires (λ c. search rules) returns)
