-- Demands 1 and 2, from the laws of the reader and of the answer. Assumes nothing.
use Prim.Native.Nat.{ℕ, ◌+◌, ◌≤◌, ◌<◌}
use mathlib.Core.Path.{◌≡◌, refl, sym, ap, ap₂, ◌∙◌}
use mathlib.Core.Bool.{Bool, true, false, cond}
use mathlib.Core.List.{List}
use mathlib.Core.Logic.{◌⊎◌, inl, inr}
use native.Mathlib.Omega.{arith}
use lib.Dec.{ltb}
use lib.ListN.{length}
use borrow.Author.Tests.{ltb-false}
use Rattle.pen.specs.Writing.{over}
use Rattle.sheet.specs.Refusals.{number, field}
use Rattle.sheet.proofs.Refusals.{numbered}
use Rattle.sheet.specs.Firing.{Firing}
use Rattle.sheet.specs.Quantities.{sheet_most, fields_most}
use Rattle.document.specs.Reader as reader
use Rattle.document.specs.Reader.{Sheet, Good, read_of}
use Rattle.document.specs.Editions.{document, sheet_of}
use Rattle.document.specs.Rows.{firing_of}
use Rattle.document.specs.Lawful.{Lawful}
use Rattle.document.specs.Order.{Hears}
use Rattle.document.proofs.Rows.{firing-back}
use Rattle.document.proofs.Editions.{firing-accepted, firing-kept, firing_lawful}
use Rattle.document.proofs.Plain.{lawful_keeps}
use Rattle.document.proofs.Numbering.{refuses, first-number}
use Rattle.document.proofs.First.{heard-first, exactly}
use Rattle.formulas.specs.Report.{report}
use Rattle.answer.specs.declared.Answer.{Answer}
use Rattle.answer.specs.Answer.{refused_as, fitted, placed, answered, left, answer_of, buffer_of}
use Rattle.answer.proofs.Fitting.{too_little, enough, untouched, at_front}
use Rattle.demands.specs.Demands.{text, Kept, accepted, Reported, Declined, Refused, Demand1, Demand2}

-- WHAT THE READER SAID decides the answer and the room
module _ (s room : List ℕ) {a : reader.Answer} (said : read_of document s ≡ a) where
  answer-is : answer_of s (length room) ≡ answered a (length room)
  unfolding answer_of
  answer-is = ap (λ (x : reader.Answer). answered x (length room)) said

  room-is : buffer_of s room ≡ left a room
  unfolding buffer_of
  room-is = ap (λ (x : reader.Answer). left x room) said

-- a report at the front of a room, and one that has no room
module _ (s room : List ℕ) (f : Firing) {sheet : Sheet} (good : read_of document s ≡ Good sheet) (its : firing_of sheet ≡ f) where
  its-answer : answer_of s (length room) ≡ fitted (report f) (length room)
  its-answer = answer-is s room good ∙ ap (λ (g : Firing). fitted (report g) (length room)) its

  its-room : buffer_of s room ≡ placed (report f) room
  its-room = room-is s room good ∙ ap (λ (g : Firing). placed (report g) room) its

  fits : length (report f) ≤ length room → Reported s room f
  unfolding over
  fits h = record {
    fits = h;
    answer = its-answer ∙ sym (enough (report f) (length room) h refl);
    lent = its-room ∙ sym (at_front (report f) room h refl);
  }

  no_room_lem : length room < length (report f) → Declined s room 11 0 0
  no_room_lem h = record { answer = its-answer ∙ sym (too_little (report f) (length room) h); lent = its-room ∙ sym (untouched (report f) room h) }

-- the text of a firing that keeps the rules is read as itself, and an accepted text is that of such a firing
read_back : (f : Firing) → Lawful f → read_of document (text f) ≡ Good (sheet_of f)
read_back f k = firing-accepted f (lawful_keeps f k)

abbrev kept : (s : List ℕ) (sheet : Sheet) → read_of document s ≡ Good sheet → Kept s
kept s sheet good = record { firing = firing_of sheet; rules = firing_lawful s sheet good; its = (firing-kept s sheet good).its }

-- DEMAND 1
either : (s : List ℕ) (a : reader.Answer) → read_of document s ≡ a → Kept s ⊎ Refused s
either s (Good sheet) said = inl (kept s sheet said)
either s (reader.Refused x n) said =
    let r = refuses s x n said in
    inr (record {
      number = number x;
      line = n;
      field = field x;
      least = r.named;
      most = (numbered x).most;
      of_sheet = first-number (heard-first s x n said);
      within = r.within;
      fields = r.fields;
      first = heard-first s x n said;
      told = λ room. record { answer = answer-is s room said; lent = room-is s room said };
    })

apart : (s : List ℕ) → Kept s → ¬ Refused s
apart s k r =
    let f = k.firing in
    let good = ap (read_of document) k.its ∙ read_back f k.rules in
    let a = (fits s (report f) f good (firing-back f k.rules.own) (omega arith)).answer in
    let e : 0 ≡ r.number = ap (λ (y : Answer). y.refusal) (sym a ∙ (r.told (report f)).answer) in
    absurd (let z : ⊥ = omega (arith, r.least) in z)

-- the numbers of an answer are small
record Small (a : Answer) : Type 0 where
  refusal : a.refusal ≤ 14
  line : a.line ≤ sheet_most + 1
  field : a.field ≤ fields_most

fitted-small : (t : List ℕ) (room : ℕ) → Small (fitted t room)
fitted-small t room = here (ltb room (length t))
  where
    here : (b : Bool) → Small (cond b (refused_as 11 0 0) (accepted (length t)))
    here true = record { refusal = omega arith; line = omega arith; field = omega arith }
    here false = record { refusal = omega arith; line = omega arith; field = omega arith }

small : (s : List ℕ) (room : ℕ) (a : reader.Answer) → read_of document s ≡ a → Small (answered a room)
small s room (reader.Refused x n) said = let r = refuses s x n said in record { refusal = (numbered x).most; line = r.within; field = r.fields }
small s room (Good sheet) said = fitted-small (report (firing_of sheet)) room

heard : (s room : List ℕ) (k n i : ℕ) → Hears s k n i → Declined s room k n i
heard s room k n i h = record {
  answer = answer-is s room h.is ∙ ap₂ (λ (a b : ℕ). refused_as a n b) h.numbered h.fielded;
  lent = room-is s room h.is;
}

pub demand1 : Demand1
unfolding answer_of
demand1 = record {
  either = λ s. either s (read_of document s) refl;
  apart = apart;
  numbers = λ s room. (small s room (read_of document s) refl).refusal;
  lines = λ s room. (small s room (read_of document s) refl).line;
  fields = λ s room. (small s room (read_of document s) refl).field;
  heard = heard;
  exactly = exactly;
}

-- DEMAND 2
only : (s room : List ℕ) → (answer_of s (length room)).refusal ≡ 0 → (a : reader.Answer) → read_of document s ≡ a → (k : Kept s) × Reported s room k.firing
only s room zero (reader.Refused x n) said =
    let e : number x ≡ 0 = sym (ap (λ (y : Answer). y.refusal) (answer-is s room said)) ∙ zero in
    absurd (let z : ⊥ = omega (arith, (refuses s x n said).named) in z)
only s room zero (Good sheet) said = fit (ltb (length room) (length (report (firing_of sheet)))) refl
  where
    fit : (t : Bool) → ltb (length room) (length (report (firing_of sheet))) ≡ t → (k : Kept s) × Reported s room k.firing
    fit true q =
        let e = ap (λ (y : Answer). y.refusal) (answer-is s room said) in
        let z : ◌≡◌ {A = ℕ} 0 11 = sym zero ∙ e ∙ rw q refl in
        absurd (omega arith)
    fit false q = (kept s sheet said, fits s room (firing_of sheet) said refl (ltb-false (length room) (length (report (firing_of sheet))) q))

good-one : {a b : Sheet} → Good a ≡ Good b → a ≡ b
good-one e = cc

one : (f g : Firing) → Lawful f → Lawful g → text f ≡ text g → f ≡ g
one f g a b e =
    let sheets = good-one (sym (read_back f a) ∙ ap (read_of document) e ∙ read_back g b) in
    sym (firing-back f a.own) ∙ ap firing_of sheets ∙ firing-back g b.own

pub demand2 : Demand2
demand2 = record {
  reported = λ f k room h. fits (text f) room f (read_back f k) (firing-back f k.own) h;
  no_room = λ f k room h. no_room_lem (text f) room f (read_back f k) (firing-back f k.own) h;
  only = λ s room zero. only s room zero (read_of document s) refl;
  one = one;
}
