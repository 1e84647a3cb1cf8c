-- What the judgement on a line says is wrong with it, and whatever is wrong with it is said: each test of the judgement is a plain sentence
-- about the text. Assumes nothing.
use Prim.Native.Nat.{ℕ, zero, suc, ◌+◌, ◌<◌}
use mathlib.Core.Path.{◌≡◌, refl, sym, ap, ◌∙◌, subst}
use mathlib.Core.List.{List, [], ◌∷◌, ◌++◌}
use mathlib.Core.Option.{Option, none, some}
use mathlib.Core.Bool.{Bool, true, false, cond}
use native.Mathlib.Omega.{arith}
use lib.ListN.{length, drop, length-append}
use lib.Seq.{drop-append_seam}
use lib.Dec.{eqb, ltb}
use lib.IntN.{ℤ}
use borrow.Author.Tests.{eq-eqb, lt-ltb, eqb-true, ltb-true}
use Rattle.std.specs.Prelude as std
use Rattle.text.specs.Bytes.{bytes}
use Rattle.text.specs.Number.{number_of}
use Rattle.text.specs.Scanning.{up_to, count, begins}
use Rattle.text.proofs.Scanning.{up_to-clear, up_to-next, up_to_until, begins-key, key-begins}
use Rattle.text.proofs.Reading.{read_back, only-text, only-small}
use Rattle.sheet.specs.declared.Refusal.{Refusal}
use Rattle.sheet.specs.declared.Refusal.TheVariants.{NoLineFeed, WrongKey, WrongCount, NotANumber, Outside}
use Rattle.sheet.specs.Refusals.{number, field}
use Rattle.sheet.specs.Quantities.{Field}
use Rattle.document.specs.Schema.{on, Line, Row, plain, joined, within, sound, Judged, refused, values, unless, push, pieces, Numbers, none-at, all_are, on_number, on_numbers, numbers_of, formed_by, formed, outside_of, ranged, judge}
use Rattle.document.specs.Rules.{Every}
use Rattle.document.specs.Faults.{Closed, Fielded, IsNumber, Says, FirstNot, Leftmost, asked, Inside, LineFault, torn, unkeyed, unnumbered, outside}
use Rattle.document.proofs.Cases.{clash}
use Rattle.document.proofs.Pieces.{pieces-joined, joined-pieces}
use Rattle.document.proofs.Judged.{is-sound}
use Rattle.document.proofs.Fields.{is_within, within-is}
use Rattle.document.proofs.Said.{says-formed, formed-says}

-- 12: THE LEFTMOST FIELD that is no number, where the fields are counted from k
record Counted (P : ℕ → Type 0) (k i : ℕ) : Type 0 where
  before : ℕ
  place : i ≡ k + before
  first : P before

is_number : (p : List ℕ) (z : ℤ) → number_of p ≡ std.Some z → IsNumber p
is_number p z e = record { number = z; small = only-small 9 p z e; its = only-text 9 p z e }

number_is : (p : List ℕ) (n : IsNumber p) → number_of p ≡ std.Some n.number
number_is p n = rw n.its (read_back 9 n.number (omega arith) n.small)

numbers-first : (k : ℕ) (ps : List (List ℕ)) (i : ℕ) → numbers_of k ps ≡ none-at i → Counted (FirstNot IsNumber ps) k i
unfolding numbers_of
numbers-first k [] i e = clash cc
numbers-first k (p ∷ ps) i e = here (number_of p) refl e (numbers-first (suc k) ps i)
  where
    rest : (z : ℤ) (x : Numbers) → numbers_of (suc k) ps ≡ x → IsNumber p → on_numbers x none-at (λ zs. all_are (z ∷ zs)) ≡ none-at i
        → (numbers_of (suc k) ps ≡ none-at i → Counted (FirstNot IsNumber ps) (suc k) i) → Counted (FirstNot IsNumber (p ∷ ps)) k i
    rest z (none-at m) q is e rec =
        let c = rec (q ∙ e) in
        record { before = suc c.before; place = c.place ∙ omega arith; first = (is, c.first) }
    rest z (all_are zs) q is e rec = clash cc

    here : (x : std.Option ℤ) → number_of p ≡ x → on_number x (none-at k) (λ z. on_numbers (numbers_of (suc k) ps) none-at (λ zs. all_are (z ∷ zs))) ≡ none-at i
        → (numbers_of (suc k) ps ≡ none-at i → Counted (FirstNot IsNumber ps) (suc k) i) → Counted (FirstNot IsNumber (p ∷ ps)) k i
    here std.None q e rec =
        let same : k ≡ i = cc in
        record { before = 0; place = sym same ∙ omega arith; first = λ n. let v = number_is p n in clash cc }
    here (std.Some z) q e rec = rest z (numbers_of (suc k) ps) refl (is_number p z q) e rec

first-numbers : (k : ℕ) (ps : List (List ℕ)) (before : ℕ) → FirstNot IsNumber ps before → numbers_of k ps ≡ none-at (k + before)
unfolding numbers_of
first-numbers k [] before f = absurd f
first-numbers k (p ∷ ps) zero f = here (number_of p) refl
  where
    here : (x : std.Option ℤ) → number_of p ≡ x → on_number x (none-at k) (λ z. on_numbers (numbers_of (suc k) ps) none-at (λ zs. all_are (z ∷ zs))) ≡ none-at (k + 0)
    here std.None q = ap none-at (omega arith)
    here (std.Some z) q = absurd (f (is_number p z q))
first-numbers k (p ∷ ps) (suc before) f =
    let e : suc k + before ≡ k + suc before = omega arith in
    rw (number_is p f.0, first-numbers (suc k) ps before f.1) (ap none-at e)

-- 3: THE LEFTMOST FIELD outside its range
outside-first : (k : ℕ) (fs : List Field) (zs : List ℤ) (i : ℕ) → outside_of k fs zs ≡ some i → Counted (FirstNot Inside (asked fs zs)) k i
unfolding outside_of
outside-first k [] zs i e = clash cc
outside-first k (f ∷ fs) [] i e = clash cc
outside-first k (f ∷ fs) (z ∷ zs) i e = here (within f z) refl e (outside-first (suc k) fs zs i)
  where
    here : (t : Bool) → within f z ≡ t → cond t (outside_of (suc k) fs zs) (some k) ≡ some i
        → (outside_of (suc k) fs zs ≡ some i → Counted (FirstNot Inside (asked fs zs)) (suc k) i) → Counted (FirstNot Inside (asked (f ∷ fs) (z ∷ zs))) k i
    here true q e rec =
        let c = rec e in
        record { before = suc c.before; place = c.place ∙ omega arith; first = (is_within f z q, c.first) }
    here false q e rec =
        let same : k ≡ i = cc in
        record { before = 0; place = sym same ∙ omega arith; first = λ h. let w = within-is f z h in clash cc }

first-outside : (k : ℕ) (fs : List Field) (zs : List ℤ) (before : ℕ) → FirstNot Inside (asked fs zs) before → outside_of k fs zs ≡ some (k + before)
unfolding outside_of
first-outside k [] zs before h = absurd h
first-outside k (f ∷ fs) [] before h = absurd h
first-outside k (f ∷ fs) (z ∷ zs) zero h = here (within f z) refl
  where
    here : (t : Bool) → within f z ≡ t → cond t (outside_of (suc k) fs zs) (some k) ≡ some (k + 0)
    here true q = absurd (h (is_within f z q))
    here false q = ap some (omega arith)
first-outside k (f ∷ fs) (z ∷ zs) (suc before) h =
    let e : suc k + before ≡ k + suc before = omega arith in
    rw (within-is f z h.0, first-outside (suc k) fs zs before h.1) (ap some e)

-- counted from 1
leftmost : {A : Type 0} (P : A → Type 0) (xs : List A) (i : ℕ) → Counted (FirstNot P xs) 1 i → Leftmost P xs i
leftmost P xs i c = record { before = c.before; counted = c.place ∙ omega arith; first = c.first }

-- no piece has the byte between the pieces
pieces-clear : (c : ℕ) (v : List ℕ) → Every (λ p. count p c ≡ 0) (pieces c v)
unfolding pieces count
pieces-clear c [] = (refl, tt)
pieces-clear c (b ∷ v) = here (eqb b c) refl (pieces c v) (pieces-clear c v)
  where
    pushed : eqb b c ≡ false → (ps : List (List ℕ)) → Every (λ p. count p c ≡ 0) ps → Every (λ p. count p c ≡ 0) (push b ps)
    pushed q [] h = (rw q refl, tt)
    pushed q (p ∷ ps) h = (rw q h.0, h.1)

    here : (t : Bool) → eqb b c ≡ t → (ps : List (List ℕ)) → Every (λ p. count p c ≡ 0) ps → Every (λ p. count p c ≡ 0) (cond t ([] ∷ ps) (push b ps))
    here true q ps h = (refl, h)
    here false q ps h = pushed q ps h

-- THE TESTS OF A LINE'S FORM, each with what it says of the text
module _ (l : Line) (s : List ℕ) where
  abbrev body : List ℕ
  body = up_to 10 s

  abbrev key : List ℕ
  key = l.key ++ bytes "="

  abbrev value : List ℕ
  value = drop (length key) body

  abbrev closed_test : Bool
  closed_test = ltb (length body) (length s)

  abbrev key_test : Bool
  key_test = begins key body

  abbrev count_test : Bool
  count_test = eqb (length (pieces 44 value)) (length l.fields)

  abbrev is-closed : closed_test ≡ true → Closed s
  is-closed t = record { body = body; more = drop (suc (length body)) s; clear = up_to-clear 10 s; whole = up_to-next 10 s (ltb-true (length body) (length s) t) }

  body_is : (c : Closed s) → body ≡ c.body
  body_is c = ap (up_to 10) c.whole ∙ up_to_until 10 c.body c.more c.clear

  closed_is : Closed s → closed_test ≡ true
  closed_is c =
      let sizes : length c.body < length s = omega (arith, ap length c.whole, length-append c.body (10 ∷ c.more)) in
      rw (body_is c) (lt-ltb (length c.body) (length s) sizes)

  abbrev is-fielded : key_test ≡ true → count_test ≡ true → Fielded l body
  is-fielded t u = record {
    pieces = pieces 44 value;
    many = eqb-true (length (pieces 44 value)) (length l.fields) u;
    clear = pieces-clear 44 value;
    whole = begins-key key body t ∙ ap (λ (x : List ℕ). key ++ x) (sym (joined-pieces value));
  }

  module _ (some : 0 < length l.fields) (b : List ℕ) (its : body ≡ b) (f : Fielded l b) where
    keyed-is : key_test ≡ true
    keyed-is = ap (begins key) (its ∙ f.whole) ∙ key-begins key (joined f.pieces)

    pieces_are : pieces 44 value ≡ f.pieces
    pieces_are = ap (λ (x : List ℕ). pieces 44 (drop (length key) x)) (its ∙ f.whole)
        ∙ ap (pieces 44) (drop-append_seam key (joined f.pieces))
        ∙ apart f.pieces f.many f.clear
      where
        apart : (ps : List (List ℕ)) → length ps ≡ length l.fields → Every (λ p. count p 44 ≡ 0) ps → pieces 44 (joined ps) ≡ ps
        apart [] e h = absurd (omega (arith, some))
        apart (p ∷ ps) e h = pieces-joined p ps h

    counted_is : count_test ≡ true
    counted_is = eq-eqb (length (pieces 44 value)) (length l.fields) (ap length pieces_are ∙ f.many)

  -- what follows each test, where it passes
  abbrev numbered : Numbers → Judged
  numbered ns = on_numbers ns (λ i. refused (NotANumber i)) (λ zs. values (plain zs) (suc (length body)))

  abbrev counted : Bool → Judged
  counted t = unless t WrongCount (numbered (numbers_of 1 (pieces 44 value)))

  abbrev keyed : Bool → Judged
  keyed t = unless t WrongKey (counted count_test)

  -- WHAT IS SAID OF THE FORM is wrong with the line: 13, then 2, then 12
  module _ (some : 0 < length l.fields) (r : Refusal) where
    form_fault : formed l s ≡ refused r → LineFault l s (number r) (field r)
    unfolding formed_by
    form_fault e = closed closed_test refl e
      where
        numbers : closed_test ≡ true → key_test ≡ true → count_test ≡ true → (ns : Numbers) → numbers_of 1 (pieces 44 value) ≡ ns → numbered ns ≡ refused r
            → LineFault l s (number r) (field r)
        numbers c k n (none-at i) q e =
            let z : r ≡ NotANumber i = cc in
            let first = leftmost IsNumber (pieces 44 value) i (numbers-first 1 (pieces 44 value) i q) in
            unnumbered (ap number z) (is-closed c) (is-fielded k n)
            (subst (λ (x : ℕ). Leftmost IsNumber (pieces 44 value) x) (sym (ap field z)) first)
        numbers c k n (all_are zs) q e = clash cc

        fields : closed_test ≡ true → key_test ≡ true → (t : Bool) → count_test ≡ t → counted t ≡ refused r → LineFault l s (number r) (field r)
        fields c k false q e =
            let z : r ≡ WrongCount = cc in
            unkeyed (ap number z) (ap field z) (is-closed c) (λ f. let y = counted_is some body refl f in clash cc)
        fields c k true q e = numbers c k q (numbers_of 1 (pieces 44 value)) refl e

        key_of : closed_test ≡ true → (t : Bool) → key_test ≡ t → keyed t ≡ refused r → LineFault l s (number r) (field r)
        key_of c false q e =
            let z : r ≡ WrongKey = cc in
            unkeyed (ap number z) (ap field z) (is-closed c) (λ f. let y = keyed-is some body refl f in clash cc)
        key_of c true q e = fields c q count_test refl e

        closed : (t : Bool) → closed_test ≡ t → unless t NoLineFeed (keyed key_test) ≡ refused r → LineFault l s (number r) (field r)
        closed false q e = let z : r ≡ NoLineFeed = cc in torn (ap number z) (ap field z) (λ c. let y = closed_is c in clash cc)
        closed true q e = key_of q key_test refl e

-- WHATEVER IS WRONG IS SAID
pub record JudgedAs (l : Line) (s : List ℕ) (k i : ℕ) : Type 0 where
  pub refusal : Refusal
  pub is : judge l s ≡ refused refusal
  pub numbered : number refusal ≡ k
  pub fielded : field refusal ≡ i

module _ (l : Line) (s : List ℕ) (sounds : sound l ≡ true) where
  abbrev some-field : 0 < length l.fields
  some-field = (is-sound l sounds).some

  -- a refused form refuses the line
  form_judged : (r : Refusal) → formed l s ≡ refused r → judge l s ≡ refused r
  unfolding judge
  form_judged r e = ap (ranged l.fields) e

  torn-said : ¬ Closed s → formed l s ≡ refused NoLineFeed
  unfolding formed_by
  torn-said n = here (closed_test l s) refl
    where
      here : (t : Bool) → closed_test l s ≡ t → unless t NoLineFeed (keyed l s (key_test l s)) ≡ refused NoLineFeed
      here true q = absurd (n (is-closed l s q))
      here false q = refl

  unkeyed-said : (c : Closed s) → ¬ Fielded l c.body → (r : Refusal) × (formed l s ≡ refused r) × (number r ≡ 2) × (field r ≡ 0)
  unfolding formed_by
  unkeyed-said c n = rw (closed_is l s c) (here (key_test l s) refl (count_test l s) refl)
    where
      here : (t : Bool) → key_test l s ≡ t → (u : Bool) → count_test l s ≡ u
          → (r : Refusal) × (unless t WrongKey (counted l s u) ≡ refused r) × (number r ≡ 2) × (field r ≡ 0)
      here false p u q = (WrongKey, refl, refl, refl)
      here true p false q = (WrongCount, refl, refl, refl)
      here true p true q = absurd (n (subst (Fielded l) (body_is l s c) (is-fielded l s p q)))

  unnumbered-said : (c : Closed s) (f : Fielded l c.body) (i : ℕ) → Leftmost IsNumber f.pieces i → formed l s ≡ refused (NotANumber i)
  unfolding formed_by
  unnumbered-said c f i h =
      let its = body_is l s c in
      let key = keyed-is l s some-field c.body its f in
      let many = counted_is l s some-field c.body its f in
      let named : 1 + h.before ≡ i = omega (arith, h.counted) in
      rw (closed_is l s c, key, many, pieces_are l s some-field c.body its f, first-numbers 1 f.pieces h.before h.first)
      (ap (λ (x : ℕ). refused (NotANumber x)) named)

  outside-said : (row : Row) → Says l s row → (i : ℕ) → Leftmost Inside (asked l.fields row.numbers) i → judge l s ≡ refused (Outside i)
  unfolding judge
  outside-said row h i x =
      let named : 1 + x.before ≡ i = omega (arith, x.counted) in
      rw (says-formed l s sounds row h, first-outside 1 l.fields row.numbers x.before x.first) (ap (λ (y : ℕ). refused (Outside y)) named)

  pub fault_judged : (k i : ℕ) → LineFault l s k i → JudgedAs l s k i
  fault_judged k i (torn e f n) = record { refusal = NoLineFeed; is = form_judged NoLineFeed (torn-said n); numbered = sym e; fielded = sym f }
  fault_judged k i (unkeyed e f c n) =
      let x = unkeyed-said c n in
      record { refusal = x.0; is = form_judged x.0 x.1; numbered = x.2 ∙ sym e; fielded = x.3 ∙ sym f }
  fault_judged k i (unnumbered e c f h) =
      record { refusal = NotANumber i; is = form_judged (NotANumber i) (unnumbered-said c f i h); numbered = sym e; fielded = refl }
  fault_judged k i (outside e row h x) = record { refusal = Outside i; is = outside-said row h i x; numbered = sym e; fielded = refl }

  -- AND WHAT IS SAID IS WRONG
  pub judge_fault : (r : Refusal) → judge l s ≡ refused r → LineFault l s (number r) (field r)
  unfolding judge
  judge_fault r e = here (formed l s) refl e
    where
      ranges : (row : Row) (size : ℕ) → formed l s ≡ values row size → (o : Option ℕ) → outside_of 1 l.fields row.numbers ≡ o
          → on o (values row size) (λ i. refused (Outside i)) ≡ refused r → LineFault l s (number r) (field r)
      ranges row size p none q e = clash cc
      ranges row size p (some i) q e =
          let z : r ≡ Outside i = cc in
          let first = leftmost Inside (asked l.fields row.numbers) i (outside-first 1 l.fields row.numbers i q) in
          outside (ap number z) row (formed-says l s row size p)
          (subst (λ (x : ℕ). Leftmost Inside (asked l.fields row.numbers) x) (sym (ap field z)) first)

      here : (j : Judged) → formed l s ≡ j → ranged l.fields j ≡ refused r → LineFault l s (number r) (field r)
      here (refused x) q e = let z : x ≡ r = cc in form_fault l s some-field r (q ∙ ap refused z)
      here (values row size) q e = ranges row size q (outside_of 1 l.fields row.numbers) refl e

  -- 12 AT A FIELD: every field before it is a number of the sheet, and it is none
  pub form_heard : (i : ℕ) → judge l s ≡ refused (NotANumber i) → (c : Closed s) × (f : Fielded l c.body) × Leftmost IsNumber f.pieces i
  form_heard i e = here (judge_fault (NotANumber i) e)
    where
      here : LineFault l s 12 i → (c : Closed s) × (f : Fielded l c.body) × Leftmost IsNumber f.pieces i
      here (torn k n c) = absurd (omega arith)
      here (unkeyed k n c f) = absurd (omega arith)
      here (unnumbered k c f h) = (c, f, h)
      here (outside k row h x) = absurd (omega arith)

  -- 3 AT A FIELD: every number before it is within its range, and it is not
  pub range-heard : (i : ℕ) → judge l s ≡ refused (Outside i) → (row : Row) × Says l s row × Leftmost Inside (asked l.fields row.numbers) i
  range-heard i e = here (judge_fault (Outside i) e)
    where
      here : LineFault l s 3 i → (row : Row) × Says l s row × Leftmost Inside (asked l.fields row.numbers) i
      here (torn k n c) = absurd (omega arith)
      here (unkeyed k n c f) = absurd (omega arith)
      here (unnumbered k c f h) = absurd (omega arith)
      here (outside k row h x) = (row, h, x)
