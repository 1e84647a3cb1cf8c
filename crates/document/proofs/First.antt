-- The first refusal that applies is the one that is heard, and none else: where reading stops a line is due, and what its judgement says is
-- wrong with it. Assumes nothing.
use Prim.Native.Nat.{ℕ, ◌≤◌}
use mathlib.Core.Path.{◌≡◌, refl, ap, subst, ◌∙◌}
use mathlib.Core.List.{List, [], ◌∷◌}
use mathlib.Core.Option.{Option, none, some}
use mathlib.Core.Bool.{Bool, true, false, cond}
use native.Mathlib.Omega.{arith}
use lib.ListN.{length}
use lib.Dec.{ltb}
use borrow.Author.Tests.{ltb-true, ltb-false}
use Rattle.sheet.specs.declared.Refusal.{Refusal}
use Rattle.sheet.specs.declared.Refusal.TheVariants.{TooLong, Surplus}
use Rattle.sheet.specs.Quantities.{sheet_most}
use Rattle.sheet.specs.Refusals.{number, field}
use Rattle.document.specs.Schema.{on}
use Rattle.document.specs.Reader.{Sheet, Read, stopped, got, read_lines, judged_whole, Refused, Good, read_of}
use Rattle.document.specs.Editions.{document}
use Rattle.document.specs.Rows.{stages_in, sections_in, walls_in}
use Rattle.document.specs.Order.{Looked, AllGood, last, First, too_long, of_line, of_rule, surplus, of_all, Exactly}
use Rattle.document.proofs.Cases.{clash}
use Rattle.document.proofs.Rules.{whole-said, whole-field}
use Rattle.document.proofs.Whole.{lines-got}
use Rattle.document.proofs.KeyRules.{row-said}
use Rattle.document.proofs.GoodLines.{lines-good}
use Rattle.document.proofs.Stopping.{Fault, unfit, ruled_out, stops_fault}
use Rattle.document.proofs.Order.{due-sound, good-read, first-heard}
use Rattle.document.proofs.Causes.{lines-stopped}

-- THE LAW: whatever is heard is the first that applies
good-line : (s : List ℕ) (sheet : Sheet) (n : ℕ) (left : List ℕ) → read_lines document 1 s ≡ got sheet n left → AllGood s sheet left × (n ≡ last sheet)
good-line s sheet n left e =
    let a = lines-got document sheet s n left e in
    let b : read_lines document 1 s ≡ got sheet (last sheet) left = ap (read_lines document 1) a.whole ∙ good-read sheet left a.kept in
    (record { good = (lines-good sheet).to a.kept; whole = a.whole }, cc)

fault_first : (s : List ℕ) (x : Refusal) (n : ℕ) (a : Looked s) → n ≡ a.at.number → Fault a.at x → First s (number x) n (field x)
fault_first s x n a f (unfit h) = of_line a f h
fault_first s x n a f (ruled_out row h q) = of_rule a f row h (row-said a.at.line.key (length a.at.line.fields) a.at.above row x q)

pub heard-first : (s : List ℕ) (x : Refusal) (n : ℕ) → read_of document s ≡ Refused x n → First s (number x) n (field x)
unfolding read_of
heard-first s x n e = here (ltb sheet_most (length s)) refl e
  where
    wholly : (sheet : Sheet) → AllGood s sheet [] → (o : Option Refusal) → document.whole sheet ≡ o
        → on o (Good sheet) (λ r. Refused r 0) ≡ Refused x n → First s (number x) n (field x)
    wholly sheet g none q e = clash cc
    wholly sheet g (some y) q e =
        let z : y ≡ x = cc in
        let w : n ≡ 0 = cc in
        of_all w (whole-field (stages_in sheet) (sections_in sheet) (walls_in sheet) x (q ∙ ap some z)) sheet g
        (whole-said (stages_in sheet) (sections_in sheet) (walls_in sheet) x (q ∙ ap some z))

    lines : (r : Read Sheet) → read_lines document 1 s ≡ r → length s ≤ sheet_most → judged_whole document r ≡ Refused x n → First s (number x) n (field x)
    lines (stopped y m) q short e =
        let f : read_lines document 1 s ≡ stopped x n = q ∙ cc in
        let a = lines-stopped n s x f in
        let fault = stops_fault a.place x (due-sound s a.place a.due) a.stops in
        fault_first s x n (record { short = short; at = a.place; due = a.due }) a.line fault
    lines (got sheet m (b ∷ left)) q short e =
        let g = good-line s sheet m (b ∷ left) q in
        let z : x ≡ Surplus = cc in
        surplus (ap number z) (ap field z) short sheet b left g.0 cc
    lines (got sheet m []) q short e = wholly sheet (good-line s sheet m [] q).0 (document.whole sheet) refl e

    here : (t : Bool) → ltb sheet_most (length s) ≡ t → cond t (Refused TooLong 0) (judged_whole document (read_lines document 1 s)) ≡ Refused x n
        → First s (number x) n (field x)
    here true q e = let z : x ≡ TooLong = cc in let w : n ≡ 0 = cc in too_long (ap number z) w (ap field z) (ltb-true sheet_most (length s) q)
    here false q e = lines (read_lines document 1 s) refl (ltb-false sheet_most (length s) q) e

-- and it is given exactly then
pub exactly : (s : List ℕ) (k n i : ℕ) → Exactly s k n i
exactly s k n i = record {
  first = λ h.
      subst (λ (j : ℕ). First s k n j) h.fielded (subst (λ (j : ℕ). First s j n (field h.refusal)) h.numbered (heard-first s h.refusal n h.is));
  heard = first-heard;
}
