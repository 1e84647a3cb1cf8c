-- A line's text is judged to be its row, and what is judged to be a row is its text. Assumes nothing.
use Prim.Native.Nat.{ℕ, suc, ◌<◌}
use mathlib.Core.Path.{◌≡◌, refl, sym, ap, ◌∙◌}
use mathlib.Core.List.{List, [], ◌∷◌, ◌++◌, map}
use mathlib.Core.Bool.{true, ◌&&◌}
use native.Mathlib.Omega.{arith}
use lib.ListN.{length, drop, length-append, length-map}
use lib.Seq.{append_snoc, drop-append_seam}
use lib.Dec.{ltb, eqb}
use lib.IntN.{ℤ, nat_abs}
use borrow.Author.Tests.{eq-eqb, lt-ltb, eqb-true, ltb-true}
use Rattle.text.specs.Decimal.{decimal}
use Rattle.text.specs.Scanning.{up_to, count, begins}
use Rattle.text.proofs.Scanning.{up_to_until, up_to-next, begins-key, key-begins}
use Rattle.sheet.specs.declared.Refusal.TheVariants.{NoLineFeed, WrongKey, WrongCount, NotANumber, Outside}
use Rattle.document.specs.Schema.{Line, Row, plain, joined, body_text, line_text, in_ranges, fits, nines, sound, Judged, refused, values, pieces, on_numbers, Numbers, none-at, all_are, numbers_of, outside_of, formed, formed_by, ranged, judge}
use Rattle.document.specs.Rules.{Every}
use Rattle.document.proofs.Cases.{clash, both, unless-values, on_none}
use Rattle.document.proofs.Pieces.{pieces-joined, joined-pieces, clear-append, decimals_clear, joined-clear, numbers_decimals, numbers_are, numbers-small, ranges-length, none-outside, all-inside}

-- WHAT A SOUND LINE AND A FITTING ROW ARE
pub record IsSound (l : Line) : Type 0 where
  pub clear : count l.key 10 ≡ 0
  pub some : 0 < length l.fields
  pub digits : nines l.fields ≡ true

pub is-sound : (l : Line) → sound l ≡ true → IsSound l
is-sound l s =
    let a = both (eqb (count l.key 10) 0) (ltb 0 (length l.fields) && nines l.fields) s in
    let b = both (ltb 0 (length l.fields)) (nines l.fields) a.1 in
    record { clear = eqb-true (count l.key 10) 0 a.0; some = ltb-true 0 (length l.fields) b.0; digits = b.1 }

pub record Fits (l : Line) (row : Row) : Type 0 where
  pub inside : in_ranges l.fields row.numbers ≡ true
  pub unnamed : row ≡ plain row.numbers

nameless : (name : List ℕ) → length name ≡ 0 → name ≡ []
nameless [] e = refl
nameless (b ∷ name) e = absurd (omega arith)

pub is-fit : (l : Line) (row : Row) → fits l row ≡ true → Fits l row
unfolding fits
is-fit l row h =
    let b = both (in_ranges l.fields row.numbers) (eqb (length row.name) 0) h in
    let empty = nameless row.name (eqb-true (length row.name) 0 b.1) in
    record { inside = b.0; unnamed = ap (λ (x : List ℕ). record { numbers = row.numbers; name = x }) empty }

pub fits-plain : (l : Line) (zs : List ℤ) → in_ranges l.fields zs ≡ true → fits l (plain zs) ≡ true
unfolding fits
fits-plain l zs e = rw e

-- EVERY LINE IN RANGE IS READ: its row, and as many bytes as its text has
body-clear : (l : Line) (row : Row) → count l.key 10 ≡ 0 → count (body_text l row) 10 ≡ 0
unfolding body_text count
body-clear l row e = clear-append 10 l.key (61 ∷ joined (map decimal row.numbers)) e (joined-clear row.numbers)

pieces-row : (n : ℕ) (zs : List ℤ) → length zs ≡ n → 0 < n → pieces 44 (joined (map decimal zs)) ≡ map decimal zs
pieces-row n [] e h = absurd (omega arith)
pieces-row n (z ∷ zs) e h = pieces-joined (decimal z) (map decimal zs) (decimals_clear 44 (omega arith) (z ∷ zs))

-- the key with its `=`, and what stands behind it
body-begins : (l : Line) (row : Row) → begins (l.key ++ (61 ∷ [])) (body_text l row) ≡ true
unfolding body_text
body-begins l row = rw (← append_snoc l.key 61 (joined (map decimal row.numbers)))
    (key-begins (l.key ++ (61 ∷ [])) (joined (map decimal row.numbers)))

body-behind : (l : Line) (row : Row) → drop (length (l.key ++ (61 ∷ []))) (body_text l row) ≡ joined (map decimal row.numbers)
unfolding body_text
body-behind l row = rw (← append_snoc l.key 61 (joined (map decimal row.numbers)))
    (drop-append_seam (l.key ++ (61 ∷ [])) (joined (map decimal row.numbers)))

pub line-length : (l : Line) (row : Row) → length (line_text l row) ≡ suc (length (body_text l row))
unfolding line_text
line-length l row = length-append (body_text l row) (10 ∷ []) ∙ omega arith

pub judge-text : (l : Line) (row : Row) (rest : List ℕ) → sound l ≡ true → fits l row ≡ true
    → judge l (line_text l row ++ rest) ≡ values row (length (line_text l row))
unfolding judge formed_by line_text
judge-text l row rest s h =
    let a = is-sound l s in
    let b = is-fit l row h in
    let zs = row.numbers in
    let body = body_text l row in
    let n = ranges-length l.fields zs b.inside in
    let t : body ++ (10 ∷ []) ++ rest ≡ body ++ (10 ∷ rest) = append_snoc body 10 rest in
    let long : length body < length (body ++ (10 ∷ rest)) = omega (arith, length-append body (10 ∷ rest)) in
    let m : length (map decimal zs) ≡ length l.fields = length-map zs decimal ∙ n in
    let found = up_to_until 10 body rest (body-clear l row a.clear) in
    let closed = lt-ltb (length body) (length (body ++ (10 ∷ rest))) long in
    let split = pieces-row (length l.fields) zs n a.some in
    let right = eq-eqb (length (map decimal zs)) (length l.fields) m in
    let read = numbers_decimals 1 l.fields zs a.digits b.inside in
    rw (t, found, closed, body-begins l row, body-behind l row, split, right, read, none-outside 1 l.fields zs b.inside, ← line-length l row)
    (ap (λ (x : Row). values x (length (line_text l row))) (sym b.unnamed))

-- THE SAME BACKWARDS, from the fields to the LF
numbers-back : (row : Row) (size n : ℕ) (ns : Numbers) → on_numbers ns (λ i. refused (NotANumber i)) (λ zs. values (plain zs) size) ≡ values row n →
    (zs : List ℤ) × (ns ≡ all_are zs) × (row ≡ plain zs) × (n ≡ size)
numbers-back row size n (none-at i) e = clash cc
numbers-back row size n (all_are zs) e = (zs, refl, cc, cc)

-- what the form of a line says of its text
pub record Formed (l : Line) (text : List ℕ) (row : Row) (n : ℕ) : Type 0 where
  pub unnamed : row ≡ plain row.numbers
  pub many : length row.numbers ≡ length l.fields
  pub small : Every (λ z. nat_abs z < 1000000000) row.numbers
  pub size : n ≡ length (line_text l row)
  pub whole : text ≡ line_text l row ++ drop n text

pub formed-values : (l : Line) (text : List ℕ) (row : Row) (n : ℕ) → formed l text ≡ values row n → Formed l text row n
unfolding formed_by line_text body_text
formed-values l text row n e =
    let body = up_to 10 text in
    let key = l.key ++ (61 ∷ []) in
    let value = drop (length key) body in
    let a = unless-values (ltb (length body) (length text)) NoLineFeed _ row n e in
    let b = unless-values (begins key body) WrongKey _ row n a.1 in
    let c = unless-values (eqb (length (pieces 44 value)) (length l.fields)) WrongCount _ row n b.1 in
    let d = numbers-back row (suc (length body)) n (numbers_of 1 (pieces 44 value)) c.1 in
    let zs = d.0 in
    let p = numbers_are 1 (pieces 44 value) zs d.1 in
    let m = eqb-true (length (pieces 44 value)) (length l.fields) c.0 in
    let v : value ≡ joined (map decimal zs) = sym (joined-pieces value) ∙ ap joined p in
    let k : body ≡ key ++ value = begins-key key body b.0 in
    let is : body ≡ l.key ++ (61 ∷ joined (map decimal zs)) = k ∙ append_snoc l.key 61 value ∙ ap (λ (x : List ℕ). l.key ++ (61 ∷ x)) v in
    let s = up_to-next 10 text (ltb-true (length body) (length text) a.0) in
    rw d.2 (record {
      unnamed = refl;
      many = sym (length-map zs decimal) ∙ ap length (sym p) ∙ m;
      small = numbers-small 1 (pieces 44 value) zs d.1;
      size = d.3 ∙ ap (λ (x : List ℕ). suc (length x)) is ∙ sym (line-length l (plain zs));
      whole = rw (← is, append_snoc, d.3) s;
    })

-- WHAT IS READ IS A LINE IN RANGE, AND THE TEXT IS ITS TEXT
pub record IsLine (l : Line) (text : List ℕ) (row : Row) (n : ℕ) : Type 0 where
  pub in_range : fits l row ≡ true
  pub size : n ≡ length (line_text l row)
  pub whole : text ≡ line_text l row ++ drop n text

pub judge-values : (l : Line) (text : List ℕ) (row : Row) (n : ℕ) → judge l text ≡ values row n → IsLine l text row n
unfolding judge
judge-values l text row n e = here (formed l text) refl e
  where
    here : (j : Judged) → formed l text ≡ j → ranged l.fields j ≡ values row n → IsLine l text row n
    here (refused r) q e = clash cc
    here (values r size) q e =
        let o = on_none (outside_of 1 l.fields r.numbers) (values r size) (values row n) (λ i. refused (Outside i)) (λ i z. clash cc) e in
        let p : r ≡ row = cc in
        let f = formed-values l text row n (q ∙ o.1) in
        let i = all-inside 1 l.fields row.numbers f.many (rw p at o.0) in
        record { in_range = rw f.unnamed (fits-plain l row.numbers i); size = f.size; whole = f.whole }
