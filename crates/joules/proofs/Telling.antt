-- What the program prints, by what the reader answered. Assumes nothing.
use Prim.Native.Nat.{ℕ}
use mathlib.Core.Path.{◌≡◌, refl, ap₂}
use mathlib.Core.List.{List}
use Rattle.document.specs.Rows.{firing_of}
use Rattle.formulas.specs.Report.{joules_text}
use Rattle.sheet.specs.declared.Sheet.{Sheet}
use Rattle.reader.specs.declared.whole.Rejection.{Rejection}
use Rattle.reader.proofs.Answering.{Firm, Denied}
use Rattle.answer.specs.Answer.{refused_text, joules_of}

module _ (s : List ℕ) where
  -- an accepted sheet's heats
  pub heats-told : (x : Sheet) (a : Firm s x) → joules_text (firing_of a.sheet) ≡ joules_of s
  unfolding joules_of
  heats-told x a = rw a.good refl

  -- a refused one's refusal
  pub refusal-told : (e : Rejection) (d : Denied s e.number e.line e.field) → refused_text e.number e.line e.field ≡ joules_of s
  unfolding joules_of
  refusal-told e d = rw d.is (ap₂ (λ (n i : ℕ). refused_text n e.line i) d.numbers d.fields)
