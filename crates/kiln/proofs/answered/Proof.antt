-- An accepted sheet shows a firing that keeps the rules; a refused one has document 01's refusal. Assumes nothing.
use borrow.Author.Rules.{rules}
use Prim.Native.Nat.{ℕ}
use mathlib.Core.Path.{◌≡◌, sym, ap, ap₂, ◌∙◌}
use mathlib.Core.List.{List}
use native.Mathlib.Omega.{arith}
use lib.ListN.{length}
use Rattle.sheet.specs.declared.Sheet.{Sheet}
use Rattle.document.specs.Rows.{firing_of}
use Rattle.formulas.specs.Items.{shuttle}
use Rattle.formulas.specs.Report.{keys, lines_text, report}
use Rattle.heat.specs.Balance.{Kept}
use Rattle.heat.proofs.Kept.{field}
use Rattle.report.specs.Figures.{Found}
use Rattle.report.proofs.Room.{each_fits}
use Rattle.due.proofs.Places.{is-good, is-bad}
use Rattle.reader.proofs.Answering.{Firm, firm-judged, firm_lawful, Denied, denied-judged, denied-small}
use Rattle.answer.specs.Answer.{refused_as, fitted, placed}
use Rattle.kiln.proofs.Answering.{answer-good, buffer_good, short-good, answer-bad, buffer_bad, short-bad}
use Rattle.kiln.proofs.answered.Statement.{statement}
use Rattle.kiln.proofs.answered.Tie as tie

judged-requires : tie.Need-judged-l-requires
judged-requires c κs = search rules

-- where the sheet has been accepted, where it has been read, and its bytes
abbrev accepted : tie.After-head-1 → tie.Then-p-eq0
accepted c = c.before.before

abbrev J : tie.After-head-1 → tie.After-judged-l
J c = (accepted c).before.before.before

abbrev bytes : tie.After-judged-l → List ℕ
bytes c = c.args.sheet.now

-- where the figures have been found, from behind the writing of the report
abbrev figured : tie.After-reported → tie.After-figures-figures
figured c = c.before.before.before

-- what was accepted
abbrev firing : (c : tie.After-head-1) → Firm (bytes (J c)) (J c).judged-l.result.said
firing c = let j = (J c).judged-l in firm-judged _ j.result j.ensures (is-good j.result.place (accepted c).if-p-eq0.true)

-- what was refused
abbrev refusal : (c : tie.Else-p-eq0) →
    let j = c.before.before.before in
    Denied (bytes j) j.judged-l.result.place.number j.judged-l.result.place.line j.judged-l.result.place.field
refusal c =
    let j = c.judged-l in
    denied-judged _ j.result j.ensures (is-bad j.result.place c.if-p-eq0.false)

kept : {s : List ℕ} {x : Sheet} (a : Firm s x) → Kept x (firing_of a.sheet)
kept a = record { shows = a.shows; rules = firm_lawful a }

balance-requires : tie.Need-balance-heats-requires
balance-requires c κs = (firing_of (firing c).sheet, kept (firing c))

-- its number, product and heats
found : (c : tie.After-balance-heats) →
    let head = (J c.before).judged-l.result.said.head in
    Found (firing_of (firing c.before).sheet) head.firing.0 head.product.0 c.balance-heats.result
found c =
    let k = kept (firing c.before) in
    record { is_number = sym (field k (λ f. f.number)); is-product = sym (field k (λ f. f.product)); balanced = c.balance-heats.ensures _ k; rules = k.rules }

figures-requires : tie.Need-figures-figures-requires
figures-requires c κs = (firing_of (firing c.before.before.before).sheet, found c.before.before)

reported-requires : tie.Need-reported-requires
reported-requires c κs =
    let f = c.figures-figures in
    each_fits f.result f.type_inv.0 f.type_inv.1.1

same_length : tie.Need-shape_of-room-then-p-eq0
same_length c = search rules

returns : tie.Need-returns-then-p-eq0
unfolding report
returns c =
    let w = c.reported.ensures in
    let d = figured c.before.before in
    let j = J d.before.before.before.before in
    let s = bytes j in
    let room = j.args.room.now in
    let a = firing d.before.before.before.before in
    let f = firing_of a.sheet in
    let text : lines_text (keys shuttle) d.figures-figures.result ≡ report f = ap (lines_text (keys shuttle)) (d.figures-figures.ensures f (found d.before.before.before)) in
    let answer = w.0 ∙ ap (λ (t : List ℕ). fitted t (length room)) text ∙ answer-good s a.good (length room) in
    let buffer = w.1.0 ∙ ap (λ (t : List ℕ). placed t room) text ∙ buffer_good s a.good room in
    (answer, (buffer, short-good s a.good (rw text at w.1.1)))

refused-requires : tie.Need-refused-requires
refused-requires c κs = let small = denied-small (refusal c) in (omega (arith, small.number), omega (arith, small.line), omega (arith, small.field))

returns-2 : tie.Need-returns
returns-2 c =
    let d = refusal c.before in
    let j = c.before.before.before.before in
    let s = bytes j in
    let room = j.args.room.now in
    let why = ap₂ (λ (n i : ℕ). refused_as n j.judged-l.result.place.line i) d.numbers d.fields in
    (c.refused.ensures ∙ why ∙ answer-bad s d.is (length room), (buffer_bad s d.is room, short-bad s d.is))

pub answered_spec : {M : Type 1} → statement M
answered_spec =
    tie.close
    (tie.spec
    judged-requires
    balance-requires
    figures-requires
    reported-requires
    same_length
    returns
    refused-requires
    returns-2)
