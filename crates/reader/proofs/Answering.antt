-- From the place after the last line to document 01's answer. Assumes nothing.
use Prim.Native.Nat.{ℕ, ◌+◌, ◌≤◌, ◌<◌}
use mathlib.Core.Path.{◌≡◌, refl, sym, ap, ap₂, ◌∙◌, subst}
use mathlib.Core.Bool.{Bool, true, false, cond, not}
use mathlib.Core.List.{List, [], ◌∷◌}
use native.Mathlib.Omega.{arith}
use lib.Dec.{ltb, lit≤}
use lib.ListN.{length, length-drop}
use borrow.Author.Tests.{clash, lt-ltb, le-ltb, ltb-true, ltb-false, eqb-true}
use Rattle.sheet.specs.declared.SectionReadings.{SectionReadings}
use Rattle.sheet.specs.declared.Refusal.{Refusal}
use Rattle.sheet.specs.declared.Refusal.TheVariants.{TooLong, Surplus, Missing, GasTotal}
use Rattle.sheet.specs.declared.Sheet.{Sheet as Sheetˢ}
use Rattle.sheet.specs.Refusals.{number, field}
use Rattle.sheet.specs.Firing.{Firing}
use Rattle.sheet.specs.Shown.{Shows}
use Rattle.sheet.specs.Block.{total_gas}
use Rattle.sheet.proofs.Refusals.{numbered}
use Rattle.document.specs.Schema.{on, within}
use Rattle.sheet.specs.Quantities.{gas_total, sections_most, stages_most, sheet_most, fields_most}
use Rattle.document.specs.Reader.{Sheet, Read, stopped, got, read_lines, Answer, Refused, Good, judged_whole, read_of}
use Rattle.document.specs.Tests.{all, counted, is_read, when, ◌else◌}
use Rattle.document.specs.Editions.{document}
use Rattle.document.specs.Rows.{stages_in, sections_in, walls_in, firing_of}
use Rattle.document.specs.Lawful.{Lawful}
use Rattle.document.proofs.Editions.{firing_lawful}
use Rattle.document.proofs.Numbering.{refuses}
use Rattle.walls.specs.Cells.{all_read}
use Rattle.walls.proofs.Missing.{all-read-is}
use Rattle.due.specs.declared.Place.{Place}
use Rattle.due.specs.declared.Heard.{Heard}
use Rattle.lines.specs.All.{Held, Sized}
use Rattle.std.specs.Prelude.{Result, Ok, Err}
use Rattle.reader.specs.declared.whole.Rejection.{Rejection}
use Rattle.due.specs.Place.{good, refused_at, Fair, Ready, Stands, Meets, After}
use Rattle.reader.specs.Whole.{top, line_ended, bottom, opening_as, gas_of, whole_as, verdict_as, Judged, Answers}
use Rattle.due.proofs.Places.{not-both, refused-bad}

-- rule 10's sum, and rule 8's test, by the struct
gas-same : {x : Sheetˢ} {sheet : Sheet} → Held x sheet → total_gas (stages_in sheet) ≡ gas_of x
gas-same h = ap (λ (f : Firing). total_gas f.stages) h.shows.lines

read_same : {x : Sheetˢ} {sheet : Sheet} → Held x sheet → Sized x
    → all (λ y. all (is_read (walls_in sheet) y.number) (counted (length (stages_in sheet)))) (sections_in sheet) ≡ all_read x.readings
    x.sections.count.0 x.stages.count.0
read_same {x} {sheet} h z =
    let few : length (sections_in sheet) ≤ sections_most = omega (arith, h.sections_are, z.sections) in
    let short : length (stages_in sheet) ≤ stages_most = omega (arith, h.stages_are, z.stages) in
    sym (all-read-is (sections_in sheet) (walls_in sheet) (length (stages_in sheet)) few short h.distinct h.placed)
    ∙ ap (λ (c : List SectionReadings). all_read c (length (sections_in sheet)) (length (stages_in sheet))) (sym h.shows.readings)
    ∙ ap₂ (all_read x.readings) h.sections_are h.stages_are

module _ {x : Sheetˢ} {sheet : Sheet} (h : Held x sheet) (z : Sized x) (s : List ℕ) (q : Place) (is : q ≡ bottom s) where
  abbrev said_of : Bool → Bool → Answer
  said_of gas read = on (when (not gas) GasTotal else when (not read) Missing) (Good sheet) (λ r. Refused r 0)

  rules : (gas read : Bool) → Judged s (said_of gas read) (record { place = cond gas (cond read q (refused_at Missing 0)) (refused_at GasTotal 0); said = x })
  rules true true = (is, h.shows, h.trimmed)
  rules true false = refl
  rules false read = refl

  whole-judged : Judged s (on (document.whole sheet) (Good sheet) (λ r. Refused r 0)) (record { place = whole_as q x; said = x })
  whole-judged =
      let gas = ap (within gas_total) (gas-same h) in
      let read = read_same h z in
      subst (λ (a : Answer). Judged s a (record { place = whole_as q x; said = x })) (sym (ap₂ said_of gas read))
      (rules (within gas_total (gas_of x)) (all_read x.readings x.sections.count.0 x.stages.count.0))

module _ (s : List ℕ) (q : Place) (x : Sheetˢ) (z : Sized x) where
  -- nothing is left behind the last line
  at-bottom : (sheet : Sheet) (n : ℕ) → read_lines document 1 s ≡ got sheet n [] → Stands s q n [] → Fair s q → q ≡ bottom s
  unfolding bottom
  at-bottom sheet n e m f =
      let line = m.line ∙ sym (ap line_ended e) in
      let at : q.at ≡ length s = omega (arith, f.within, length-drop q.at s, ap length m.left) in
      λ i. record { number = eqb-true q.number 0 m.sound i; field = f.field i; line = line i; at = at i }

  -- the rules of the whole sheet, after the lines
  lines-judged : (r : Read Sheet) → read_lines document 1 s ≡ r → (good q ≡ true → Fair s q) → Meets s r q (Held x)
      → Judged s (judged_whole document r) (record { place = verdict_as (length s) q x; said = x })
  lines-judged (stopped y n) o f m = rw (ap good m ∙ refused-bad y n) m
  lines-judged (got sheet n []) o f m =
      let e : length s ≤ q.at = omega (arith, length-drop q.at s, ap length m.0.left) in
      rw (m.0.sound, le-ltb q.at (length s) e) (whole-judged m.1 z s q (at-bottom sheet n o m.0 (f m.0.sound)))
  lines-judged (got sheet n (b ∷ bs)) o f m =
      let e : q.at < length s = omega (arith, length-drop q.at s, ap length m.0.left) in
      rw (m.0.sound, lt-ltb q.at (length s) e) (ap (refused_at Surplus) m.0.line)

-- k of n bytes are looked at
pub record Looked (n k : ℕ) : Type 0 where
  pub inside : k ≤ n
  pub few : k ≤ sheet_most
  pub whole : n ≤ sheet_most → k ≡ n

-- WHERE THE READING BEGINS, and that no more than a sheet may have is looked at
module _ (n : ℕ) (p : Place) (e : p ≡ opening_as n) where
  opened : {t : Bool} → ltb sheet_most n ≡ t → p ≡ cond t (refused_at TooLong 0) top
  opened f = subst (λ (t : Bool). p ≡ cond t (refused_at TooLong 0) top) f e

  opened-short : p.number ≡ 0 → n ≤ sheet_most
  opened-short h = here (ltb sheet_most n) refl
    where
      here : (b : Bool) → ltb sheet_most n ≡ b → n ≤ sheet_most
      here true f = absurd (omega (arith, h, ap (λ (q : Place). q.number) (opened f), (numbered TooLong).some))
      here false f = ltb-false sheet_most n f

  opened-long : ¬ (p.number ≡ 0) → sheet_most < n
  opened-long h = here (ltb sheet_most n) refl
    where
      here : (b : Bool) → ltb sheet_most n ≡ b → sheet_most < n
      here true f = ltb-true sheet_most n f
      here false f = absurd (h (ap (λ (q : Place). q.number) (opened f)))

  pub opened_ready : (t : List ℕ) → length t ≤ sheet_most → Ready t p
  opened_ready t short = record { short = short; fair = λ g. here (ltb sheet_most n) refl g }
    where
      here : (b : Bool) → ltb sheet_most n ≡ b → good p ≡ true → Fair t p
      here true f g = not-both (good p) g (ap good (opened f))
      here false f g = subst (Fair t) (sym (opened f)) (record { field = refl; line = lit≤ tt; within = omega arith })

  pub looked-all : {k : ℕ} → p.number ≡ 0 → k ≡ n → Looked n k
  looked-all h f = let short = opened-short h in record { inside = omega arith; few = omega arith; whole = λ g. f }

  pub looked-none : {k : ℕ} → ¬ (p.number ≡ 0) → k ≡ 0 → Looked n k
  looked-none h f = let long = opened-long h in record { inside = omega arith; few = omega arith; whole = λ g. absurd (omega arith) }

-- THE JUDGEMENT: t is what was looked at, all that a sheet of good length has
module _ (s t : List ℕ) (all-of-it : length s ≤ sheet_most → t ≡ s) (q : Place) (x : Sheetˢ)
    (after : After t (opening_as (length s)) (read_lines document) q (Held x)) (z : Sized x) where
  abbrev found : Heard Sheetˢ
  found = record { place = verdict_as (length s) q x; said = x }

  too_long : ltb sheet_most (length s) ≡ true → Judged s (read_of document s) found
  unfolding read_of
  too_long e =
      let opened : opening_as (length s) ≡ refused_at TooLong 0 = rw e in
      let ended : q ≡ refused_at TooLong 0 = after.passes (ap good opened) ∙ opened in
      rw (e, ended) refl

  of-good-length : ltb sheet_most (length s) ≡ false → Judged s (read_of document s) found
  unfolding read_of
  of-good-length e =
      let opened : opening_as (length s) ≡ top = rw e in
      let same = all-of-it (ltb-false sheet_most (length s) e) in
      let read = (subst (λ (p : Place). After t p (read_lines document) q (Held x)) opened after).reads refl in
      let m : Meets s (read_lines document 1 s) q (Held x) = subst (λ (u : List ℕ). Meets u (read_lines document 1 u) q (Held x)) same read in
      rw e (lines-judged s q x z (read_lines document 1 s) refl (subst (λ (u : List ℕ). good q ≡ true → Fair u q) same after.fair) m)

  pub judgement : Judged s (read_of document s) found
  judgement = here (ltb sheet_most (length s)) refl
    where
      here : (b : Bool) → ltb sheet_most (length s) ≡ b → Judged s (read_of document s) found
      here true e = too_long e
      here false e = of-good-length e

-- a place behind the last line is not refused
behind-good : (s : List ℕ) (p : Place) → p ≡ bottom s → good p ≡ true
unfolding bottom
behind-good s p e = ap good e

-- THE ANSWER from it
pub answer-refused : (s : List ℕ) (r : Heard Sheetˢ) → Judged s (read_of document s) r → good r.place ≡ false
    → Answers (read_of document s) (Err (record { number = r.place.number; field = r.place.field; line = r.place.line }))
answer-refused s r h e = here (read_of document s) h
  where
    rejected : Place → Result Sheetˢ Rejection
    rejected p = Err (record { number = p.number; field = p.field; line = p.line })

    here : (a : Answer) → Judged s a r → Answers a (rejected r.place)
    here (Refused x n) k = ap rejected k
    here (Good sheet) k = not-both (good r.place) (behind-good s r.place k.0) e

pub answer-good : (s : List ℕ) (r : Heard Sheetˢ) → Judged s (read_of document s) r → good r.place ≡ true
    → Answers (read_of document s) (Ok r.said)
answer-good s r h e = here (read_of document s) h
  where
    here : (a : Answer) → Judged s a r → Answers a (Ok r.said)
    here (Refused x n) k = not-both (good r.place) e (ap good k ∙ refused-bad x n)
    here (Good sheet) k = (r.said, refl, k.1, k.2)

-- AN ACCEPTED SHEET: its struct shows the firing of a sheet that was read, which keeps every rule
pub record Firm (s : List ℕ) (x : Sheetˢ) : Type 0 where
  pub sheet : Sheet
  pub good : read_of document s ≡ Good sheet
  pub shows : Shows x (firing_of sheet)

abbrev is_accepted : Result Sheetˢ Rejection → Bool
is_accepted (Ok x) = true
is_accepted (Err e) = false

pub firm : (s : List ℕ) (x : Sheetˢ) → Answers (read_of document s) (Ok x) → Firm s x
firm s x h = here (read_of document s) refl h
  where
    held : Result Sheetˢ Rejection → Sheetˢ
    held (Ok y) = y
    held (Err e) = x

    here : (a : Answer) → read_of document s ≡ a → Answers a (Ok x) → Firm s x
    here (Refused y n) g k = absurd (clash (sym (ap is_accepted k)))
    here (Good sheet) g k = record { sheet = sheet; good = g; shows = subst (λ (y : Sheetˢ). Shows y (firing_of sheet)) (sym (ap held k.1)) k.2 }

-- the same by the judgement
pub firm-judged : (s : List ℕ) (r : Heard Sheetˢ) → Judged s (read_of document s) r → good r.place ≡ true → Firm s r.said
firm-judged s r h e = here (read_of document s) refl h
  where
    here : (a : Answer) → read_of document s ≡ a → Judged s a r → Firm s r.said
    here (Refused x n) g k = not-both (good r.place) e (ap good k ∙ refused-bad x n)
    here (Good sheet) g k = record { sheet = sheet; good = g; shows = k.1 }

pub firm_lawful : {s : List ℕ} {x : Sheetˢ} (a : Firm s x) → Lawful (firing_of a.sheet)
firm_lawful {s} a = firing_lawful s a.sheet a.good

-- A REFUSED SHEET: a number, a line and a field are those of the refusal that document 01 asks for
pub record Denied (s : List ℕ) (n line i : ℕ) : Type 0 where
  pub why : Refusal
  pub is : read_of document s ≡ Refused why line
  pub numbers : n ≡ number why
  pub fields : i ≡ field why

pub denied : (s : List ℕ) (e : Rejection) → Answers (read_of document s) (Err e) → Denied s e.number e.line e.field
denied s e h = here (read_of document s) refl h
  where
    held : Result Sheetˢ Rejection → Rejection
    held (Ok y) = e
    held (Err f) = f

    here : (a : Answer) → read_of document s ≡ a → Answers a (Err e) → Denied s e.number e.line e.field
    here (Refused x n) g k = record {
      why = x;
      is = g ∙ ap (Refused x) (sym (ap (λ (o : Result Sheetˢ Rejection). (held o).line) k));
      numbers = ap (λ (o : Result Sheetˢ Rejection). (held o).number) k;
      fields = ap (λ (o : Result Sheetˢ Rejection). (held o).field) k;
    }
    here (Good sheet) g k = absurd (clash (ap is_accepted k.1))

-- the same by the judgement
pub denied-judged : (s : List ℕ) (r : Heard Sheetˢ) → Judged s (read_of document s) r → good r.place ≡ false
    → Denied s r.place.number r.place.line r.place.field
denied-judged s r h e = here (read_of document s) refl h
  where
    here : (a : Answer) → read_of document s ≡ a → Judged s a r → Denied s r.place.number r.place.line r.place.field
    here (Refused x n) g k = record {
      why = x;
      is = g ∙ ap (Refused x) (sym (ap (λ (p : Place). p.line) k));
      numbers = ap (λ (p : Place). p.number) k;
      fields = ap (λ (p : Place). p.field) k;
    }
    here (Good sheet) g k = not-both (good r.place) (behind-good s r.place k.0) e

-- all three are small
pub record Small (n m i : ℕ) : Type 0 where
  pub number : n ≤ 14
  pub line : m ≤ sheet_most + 1
  pub field : i ≤ fields_most

pub denied-small : {s : List ℕ} {n line i : ℕ} → Denied s n line i → Small n line i
denied-small {s} {n} {line} d =
    let r = refuses s d.why line d.is in
    record { number = omega (arith, d.numbers, (numbered d.why).most); line = r.within; field = omega (arith, d.fields, r.fields) }
