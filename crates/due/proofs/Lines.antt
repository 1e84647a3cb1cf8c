-- A line's form, then its ranges, then its rule: each step of the code is the definitions' next one. Assumes nothing.
use Prim.Native.Nat.{ℕ, suc, ◌<◌}
use mathlib.Core.Path.{◌≡◌, refl, sym, ap, ◌∙◌, subst}
use mathlib.Core.Bool.{Bool, true, false, cond, not, ◌&&◌}
use mathlib.Core.List.{List, [], ◌++◌}
use mathlib.Core.Option.{Option, none, some}
use native.Mathlib.Omega.{arith}
use lib.ListN.{length, drop}
use lib.Dec.{eqb, ltb}
use lib.IntN.{ℤ}
use borrow.Author.Tests.{eqb-true, ne_eqb}
use Rattle.text.specs.Bytes.{bytes}
use Rattle.text.specs.Scanning.{up_to, begins}
use Rattle.sheet.specs.declared.Refusal.{Refusal}
use Rattle.sheet.specs.declared.Refusal.TheVariants.{NoLineFeed, WrongKey, WrongCount, NotANumber, Outside}
use Rattle.document.specs.Schema.{Line, Row, plain, Judged, refused, values, pieces, Numbers, none-at, all_are, on_numbers, numbers_of, formed_by, formed, outside_of, on, judge}
use Rattle.document.specs.Schema as schema
use Rattle.document.specs.Tests.{when, ◌else◌}
use Rattle.document.specs.Reader.{stopped, got, judged, read_line}
use Rattle.document.proofs.Cases.{unless-values}
use Rattle.form.proofs.Pieces.{numbers-many}
use Rattle.due.specs.declared.Place.{Place}
use Rattle.due.specs.Place.{good, refused_at, Fair, Stands, Meets, After, ranged, ruled}
use Rattle.limits.specs.declared.Number.{Number}
use Rattle.due.specs.Taking.{from, fault_of, Taken}
use Rattle.due.specs.Form.{form_of}
use Rattle.due.proofs.Places.{not-both, refused-bad, after_weaker}
use Rattle.due.proofs.Ranges.{fault_is, outside-some}
use Rattle.due.proofs.Chain.{taken-clean}

-- ---- a line in form
-- what a line in form is: its numbers as many as its fields, and at least its LF long
pub record InForm (n : ℕ) (text : List ℕ) (row : Row) (size : ℕ) : Type 0 where
  pub count : length row.numbers ≡ n
  pub nameless : row.name ≡ []
  pub some : 0 < size
  pub within : ltb (length (up_to 10 text)) (length text) ≡ true
  pub long : size ≡ suc (length (up_to 10 text))

pub in_form : (key : List ℕ) (n : ℕ) (text : List ℕ) (row : Row) (size : ℕ) → formed_by key n text ≡ values row size → InForm n text row size
unfolding formed_by
in_form key n text row size e =
    let body = up_to 10 text in
    let ps = pieces 44 (drop (length key) body) in
    let a = unless-values (ltb (length body) (length text)) NoLineFeed _ row size e in
    let b = unless-values (begins key body) WrongKey _ row size a.1 in
    let c = unless-values (eqb (length ps) n) WrongCount _ row size b.1 in
    here ps (numbers_of 1 ps) refl a.0 (eqb-true (length ps) n c.0) c.1
  where
    here : (ps : List (List ℕ)) (ns : Numbers) → numbers_of 1 ps ≡ ns → ltb (length (up_to 10 text)) (length text) ≡ true → length ps ≡ n
        → on_numbers ns (λ i. refused (NotANumber i)) (λ zs. values (plain zs) (suc (length (up_to 10 text)))) ≡ values row size → InForm n text row size
    here ps (none-at i) q w l e = absurd (let z : ◌≡◌ {A = ℕ} 0 1 = cc in omega arith)
    here ps (all_are zs) q w l e =
        let r : row ≡ plain zs = cc in
        let m : size ≡ suc (length (up_to 10 text)) = cc in
        record {
          count = ap (λ (x : Row). length x.numbers) r ∙ numbers-many 1 ps zs q ∙ l;
          nameless = ap (λ (x : Row). x.name) r;
          some = omega arith;
          within = w;
          long = m;
        }

-- ---- a test after a reading: a place q, or a refusal in line n where q is good and the test is met
abbrev tested : ℕ → Place → Bool → Refusal → Place
tested n q t r = cond (good q && t) (refused_at r n) q

module _ (n : ℕ) (q : Place) (r : Refusal) where
  pub met-both : (a b : Bool) → a ≡ true → b ≡ true → cond (a && b) (refused_at r n) q ≡ refused_at r n
  met-both true true e f = refl
  met-both true false e f = not-both false f refl
  met-both false b e f = not-both false e refl

  pub not-met : (a b : Bool) → b ≡ false → cond (a && b) (refused_at r n) q ≡ q
  not-met true true f = not-both true refl f
  not-met true false f = refl
  not-met false b f = refl

  pub not_good : (a b : Bool) → a ≡ false → cond (a && b) (refused_at r n) q ≡ q
  not_good true b e = not-both true refl e
  not_good false b e = refl

  pub good_test : (s : List ℕ) (u : Bool) → (good q ≡ true → Fair s q) → good (cond u (refused_at r n) q) ≡ true → Fair s (cond u (refused_at r n) q)
  good_test s true h e = not-both (good (refused_at r n)) e (refused-bad r n)
  good_test s false h e = h e

-- a reading whose row is then tested: where the test r is none, the row is kept, and else the line is refused
module _ (s : List ℕ) (q : Place) (n : ℕ) (t : Bool) (x : Refusal) (P : Row → Type 0) where
  test_passed : (row : Row) (m : ℕ) (rest : List ℕ) → t ≡ false → Stands s q m rest → P row → Stands s (tested n q t x) m rest × P row
  test_passed row m rest e w h = subst (λ (y : Place). Stands s y m rest × P row) (sym (not-met n q x (good q) t e)) (w, h)

  test_failed : (m : ℕ) (rest : List ℕ) → t ≡ true → Stands s q m rest → tested n q t x ≡ refused_at x n
  test_failed m rest e w = met-both n q x (good q) t w.sound e

  test_off : (r : Refusal) (m : ℕ) → q ≡ refused_at r m → tested n q t x ≡ refused_at r m
  test_off r m e = not_good n q x (good q) t (ap good e ∙ refused-bad r m) ∙ e

-- ---- ranges
module _ (s : List ℕ) (p q : Place) (l : Line) (P : Row → Type 0) (fault : ℕ) where
  abbrev pub InRange : Row → Type 0
  InRange row = P row × (outside_of 1 l.fields row.numbers ≡ none)

  range-cases : (n : ℕ) (text : List ℕ) (j : Judged) → formed l text ≡ j
      → ((row : Row) → P row → length row.numbers ≡ length l.fields → fault ≡ fault_of 1 l.fields row.numbers)
      → Meets s (judged j (λ row. none) n text) q P → Meets s (judged (schema.ranged l.fields j) (λ row. none) n text) (ranged n q fault) InRange
  range-cases n text (refused r) e f m = test_off s q n (not (eqb fault 0)) (Outside fault) P r n m
  range-cases n text (values row size) e f m =
      here (outside_of 1 l.fields row.numbers) refl
      (f row m.1 (in_form (l.key ++ bytes "=") (length l.fields) text row size e).count ∙ fault_is 1 l.fields row.numbers)
    where
      here : (o : Option ℕ) → outside_of 1 l.fields row.numbers ≡ o → fault ≡ on (outside_of 1 l.fields row.numbers) 0 (λ i. i)
          → Meets s (judged (on o (values row size) (λ i. refused (Outside i))) (λ row. none) n text) (ranged n q fault) InRange
      here none u g =
          let z : fault ≡ 0 = rw u at g in
          test_passed s q n (not (eqb fault 0)) (Outside fault) InRange row (suc n) (drop size text) (ap (λ (k : ℕ). not (eqb k 0)) z) m.0 (m.1, u)
      here (some i) u g =
          let z : fault ≡ i = rw u at g in
          let h = outside-some 0 l.fields row.numbers i u in
          let b : not (eqb fault 0) ≡ true = ap not (ne_eqb fault 0 (λ e. omega arith)) in
          test_failed s q n (not (eqb fault 0)) (Outside fault) InRange (suc n) (drop size text) b m.0 ∙ ap (λ (k : ℕ). refused_at (Outside k) n) z

  -- its form, and then the first field outside its range
  pub ranged-after : ((row : Row) → P row → length row.numbers ≡ length l.fields → fault ≡ fault_of 1 l.fields row.numbers)
      → After s p (form_of l) q P → After s p (read_line l (λ row. none)) (ranged p.line q fault) InRange
  unfolding read_line judge
  ranged-after f a = record {
    reads = λ h. range-cases p.line (drop p.at s) (formed l (drop p.at s)) refl f (a.reads h);
    passes = λ h. let e = a.passes h in not_good p.line q (Outside fault) (good q) (not (eqb fault 0)) (ap (λ (y : Place). good y) e ∙ h) ∙ e;
    fair = good_test p.line q (Outside fault) s (good q && not (eqb fault 0)) a.fair;
  }

-- ---- rules
module _ (s : List ℕ) (p q : Place) (l : Line) (P : Row → Type 0) (above rule : Row → Option Refusal) (broken : Bool) (why : Refusal) where
  abbrev pub Kept : Row → Type 0
  Kept row = P row × (rule row ≡ none)

  rule-cases : (n : ℕ) (text : List ℕ) (j : Judged) → ((row : Row) → P row → rule row ≡ when broken why)
      → Meets s (judged j above n text) q P → Meets s (judged j (λ row. above row else rule row) n text) (ruled n q broken why) Kept
  rule-cases n text (refused r) f m = test_off s q n broken why P r n m
  rule-cases n text (values row size) f m = first (above row) m
    where
      here : Stands s q (suc n) (drop size text) × P row → (t : Bool) → broken ≡ t → (o : Option Refusal) → rule row ≡ o
          → Meets s (on o (got row (suc n) (drop size text)) (λ r. stopped r n)) (ruled n q broken why) Kept
      here m true e o u =
          let w : o ≡ some why = sym u ∙ f row m.1 ∙ ap (λ (t : Bool). when t why) e in
          rw w (test_failed s q n broken why P (suc n) (drop size text) e m.0)
      here m false e o u =
          let w : o ≡ none = sym u ∙ f row m.1 ∙ ap (λ (t : Bool). when t why) e in
          rw w (test_passed s q n broken why Kept row (suc n) (drop size text) e m.0 (m.1, u ∙ w))

      first : (o : Option Refusal) → Meets s (on o (got row (suc n) (drop size text)) (λ r. stopped r n)) q P
          → Meets s (on (o else rule row) (got row (suc n) (drop size text)) (λ r. stopped r n)) (ruled n q broken why) Kept
      first (some r) m = test_off s q n broken why P r n m
      first none m = here m broken refl (rule row) refl

  -- a line that kept the rules above, and then one more
  pub ruled-after : ((row : Row) → P row → rule row ≡ when broken why) → After s p (read_line l above) q P
      → After s p (read_line l (λ row. above row else rule row)) (ruled p.line q broken why) Kept
  unfolding read_line
  ruled-after f a = record {
    reads = λ h. rule-cases p.line (drop p.at s) (judge l (drop p.at s)) f (a.reads h);
    passes = λ h. let e = a.passes h in not_good p.line q why (good q) broken (ap (λ (y : Place). good y) e ∙ h) ∙ e;
    fair = good_test p.line q why s (good q && broken) a.fair;
  }

-- a rule said in other words
pub rule_as : {s : List ℕ} {p q : Place} {P : Row → Type 0} (l : Line) (rule rule' : Row → Option Refusal) → ((row : Row) → rule row ≡ rule' row)
    → After s p (read_line l rule) q P → After s p (read_line l rule') q P
rule_as {s} {p} {q} {P} l rule rule' e = subst (λ (x : Row → Option Refusal). After s p (read_line l x) q P) (λ i. λ row. e row i)

-- ---- THE QUANTITIES OF A LINE: its form was read, its quantities taken, and the first fault tested
pub line_after : (s : List ℕ) (p q : Place) (l : Line) (v : List Number) (fault : ℕ) (Shown : List ℤ → Type 0)
    → After s p (form_of l) q (λ row. from 0 (length l.fields) v ≡ row.numbers)
    → Taken l.fields (from 0 (length l.fields) v) fault Shown
    → After s p (read_line l (λ row. none)) (ranged p.line q fault) (λ row. Shown row.numbers)
line_after s p q l v fault Shown a t =
    let zs = from 0 (length l.fields) v in
    let P : Row → Type 0 = λ row. zs ≡ row.numbers in
    after_weaker s p (ranged p.line q fault) (read_line l (λ row. none)) (InRange s p q l P fault) (λ row. Shown row.numbers)
    (λ row h. subst Shown h.0 (taken-clean t (t.first ∙ fault_is 1 l.fields zs
    ∙ ap (λ (o : Option ℕ). on o 0 (λ i. i)) (ap (λ (x : List ℤ). outside_of 1 l.fields x) h.0 ∙ h.1))))
    (ranged-after s p q l P fault (λ row e n. t.first ∙ ap (λ (x : List ℤ). fault_of 1 l.fields x) e) a)
