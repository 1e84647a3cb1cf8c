-- Laws of the answer, and that it is the only one. Assumes nothing.
use Prim.Native.Nat.{ℕ, ◌≤◌}
use mathlib.Core.Path.{◌≡◌, refl, sym, ◌∙◌, subst}
use mathlib.Core.List.{List}
use lib.ListN.{length}
use Rattle.sheet.specs.declared.Refusal.{Refusal}
use Rattle.sheet.specs.Refusals.{number, field}
use Rattle.document.specs.Reader.{Sheet, Refused, Good, read_of}
use Rattle.document.specs.Editions.{document}
use Rattle.document.specs.Rows.{firing_of}
use Rattle.document.proofs.Cases.{clash}
use Rattle.formulas.specs.Report.{report}
use Rattle.report.specs.Lengths.{report_most}
use Rattle.answer.specs.declared.Answer.{Answer}
use Rattle.answer.specs.Answer.{refused_as, fitted, placed, answer_of, buffer_of, refused_text, printed_of}
use Rattle.kiln.specs.Steps.{Short}

-- NO SECOND ANSWER AND NO SECOND BUFFER FITS
pub one_answer : (s : List ℕ) (room : ℕ) (a b : Answer) → a ≡ answer_of s room → b ≡ answer_of s room → a ≡ b
one_answer s room a b p q = p ∙ sym q

pub one_buffer : (s old a b : List ℕ) → a ≡ buffer_of s old → b ≡ buffer_of s old → a ≡ b
one_buffer s old a b p q = p ∙ sym q

-- A SHEET THAT IS ACCEPTED
module _ (s : List ℕ) {sheet : Sheet} (good : read_of document s ≡ Good sheet) where
  pub answer-good : (room : ℕ) → fitted (report (firing_of sheet)) room ≡ answer_of s room
  unfolding answer_of
  answer-good room = rw good refl

  pub buffer_good : (old : List ℕ) → placed (report (firing_of sheet)) old ≡ buffer_of s old
  unfolding buffer_of
  buffer_good old = rw good refl

  pub printed-good : report (firing_of sheet) ≡ printed_of s
  unfolding printed_of
  printed-good = rw good refl

  pub short-good : length (report (firing_of sheet)) ≤ report_most → Short s
  short-good h other e = let p : sheet ≡ other = cc in subst (λ (x : Sheet). length (report (firing_of x)) ≤ report_most) p h

-- A SHEET THAT IS REFUSED
module _ (s : List ℕ) {x : Refusal} {n : ℕ} (bad : read_of document s ≡ Refused x n) where
  pub answer-bad : (room : ℕ) → refused_as (number x) n (field x) ≡ answer_of s room
  unfolding answer_of
  answer-bad room = rw bad refl

  pub buffer_bad : (old : List ℕ) → old ≡ buffer_of s old
  unfolding buffer_of
  buffer_bad old = rw bad refl

  pub printed-bad : refused_text (number x) n (field x) ≡ printed_of s
  unfolding printed_of
  printed-bad = rw bad refl

  pub short-bad : Short s
  short-bad other e = clash cc
