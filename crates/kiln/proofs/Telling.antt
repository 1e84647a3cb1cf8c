-- What the program prints, by the answer where there is room for any report. Assumes nothing.
use Prim.Native.Nat.{ℕ, ◌≤◌, ◌<◌}
use mathlib.Core.Path.{◌≡◌, refl, sym, ap, ◌∙◌}
use mathlib.Core.List.{List}
use native.Mathlib.Nat.{le_trans, zero-add}
use native.Mathlib.Omega.{arith}
use lib.ListN.{length}
use Rattle.pen.specs.Writing.{over, Written}
use Rattle.document.specs.Reader as lines
use Rattle.document.specs.Reader.{Sheet, Refused, Good, read_of}
use Rattle.document.specs.Editions.{document}
use Rattle.document.specs.Rows.{firing_of}
use Rattle.document.proofs.Numbering.{refuses}
use Rattle.formulas.specs.Report.{report}
use Rattle.report.specs.Lengths.{report_most}
use Rattle.answer.specs.declared.Answer.{Answer}
use Rattle.answer.specs.Answer.{answer_of, buffer_of, refused_text, printed_of}
use Rattle.kiln.specs.Steps.{Short}
use Rattle.answer.proofs.Fitting.{enough, at_front}
use Rattle.kiln.proofs.Answering.{answer-good, buffer_good, printed-good, answer-bad, buffer_bad, printed-bad}

module _ (s old new : List ℕ) (a : Answer) (short : Short s) (room : report_most ≤ length old)
    (is-answer : a ≡ answer_of s (length old)) (is-buffer : new ≡ buffer_of s old) where
  -- an accepted sheet's report has room
  good-answer : (sheet : Sheet) → read_of document s ≡ Good sheet → a ≡ record { refusal = 0; line = 0; field = 0; length = length (report (firing_of sheet)) }
  good-answer sheet e = is-answer ∙ sym (enough (report (firing_of sheet)) (length old) (le_trans (short sheet e) room) refl ∙ answer-good s e (length old))

  pub report-told : a.refusal ≡ 0 → Written 0 (printed_of s) old new a.length × (a.length ≤ report_most)
  report-told zero = here (read_of document s) refl
    where
      here : (r : lines.Answer) → read_of document s ≡ r → Written 0 (printed_of s) old new a.length × (a.length ≤ report_most)
      here (Refused x n) e =
          let named = ap (λ (y : Answer). y.refusal) (is-answer ∙ sym (answer-bad s e (length old))) in
          absurd (omega (arith, zero, named, (refuses s x n e).named))
      here (Good sheet) e =
          let size = ap (λ (y : Answer). y.length) (good-answer sheet e) in
          let fits = le_trans (short sheet e) room in
          let holds : new ≡ over 0 (report (firing_of sheet)) old = is-buffer ∙ sym (at_front (report (firing_of sheet)) old fits refl ∙ buffer_good s e old) in
          let ends = size ∙ sym (zero-add (length (report (firing_of sheet)))) in
          (rw (← printed-good s e) (record { ends = ends; holds = holds }), omega (arith, size, short sheet e))

  pub refusal-told : 0 < a.refusal → (refused_text a.refusal a.line a.field ≡ printed_of s) × (new ≡ old)
  refusal-told some = here (read_of document s) refl
    where
      here : (r : lines.Answer) → read_of document s ≡ r → (refused_text a.refusal a.line a.field ≡ printed_of s) × (new ≡ old)
      here (Refused x n) e =
          let numbers = ap (λ (y : Answer). refused_text y.refusal y.line y.field) (is-answer ∙ sym (answer-bad s e (length old))) in
          (numbers ∙ printed-bad s e, is-buffer ∙ sym (buffer_bad s e old))
      here (Good sheet) e = absurd (omega (arith, some, ap (λ (y : Answer). y.refusal) (good-answer sheet e)))
