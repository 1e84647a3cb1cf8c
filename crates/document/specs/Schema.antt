-- What a line of the sheet is, the text it has, and the judgement on a text where it is due.
use Rattle.std.specs.Prelude.{ℕ, suc, List, [], ◌∷◌, ◌++◌, map, Bool, true, false, cond, ◌&&◌, length, get_or, drop, ltb, eqb, ℤ, pos, negsuc}
use Rattle.std.proofs.Math.Option.{Option, none, some}
use Rattle.std.specs.Int.Signed.{le_z}
use Rattle.std.specs.Prelude as std
use Rattle.text.specs.Bytes.{bytes}
use Rattle.text.specs.Decimal.{decimal}
use Rattle.text.specs.Number.{number_of}
use Rattle.text.specs.Scanning.{up_to, count, begins}
use Rattle.sheet.specs.declared.Refusal.{Refusal}
use Rattle.sheet.specs.declared.Refusal.TheVariants.{NoLineFeed, WrongKey, WrongCount, NotANumber, Outside}
use Rattle.sheet.specs.Quantities.{Field}

-- A line has a key and fields.
pub record Line : Type 0 where
  pub key : List ℕ
  pub fields : List Field

-- What a line says: its numbers, in its order, and a name, which no line has yet.
pub record Row : Type 0 where
  pub numbers : List ℤ
  pub name : List ℕ

abbrev pub plain : List ℤ → Row
plain zs = record { numbers = zs; name = [] }

-- a row's i-th number, counted from 0
abbrev pub at : Row → ℕ → ℤ
at row i = get_or row.numbers i (pos 0)

-- THE TEXT OF A LINE: key=number,number,.. LF
unfoldable pub joined : List (List ℕ) → List ℕ
joined [] = []
joined (f ∷ []) = f
joined (f ∷ g ∷ fs) = f ++ (bytes "," ++ joined (g ∷ fs))

unfoldable pub body_text : Line → Row → List ℕ
body_text l row = l.key ++ (bytes "=" ++ joined (map decimal row.numbers))

unfoldable pub line_text : Line → Row → List ℕ
line_text l row = body_text l row ++ bytes "\n"

-- as many numbers as fields, each in its range, and no name
abbrev pub within : Field → ℤ → Bool
within f z = le_z f.least z && le_z z f.greatest

unfoldable pub in_ranges : List Field → List ℤ → Bool
in_ranges [] [] = true
in_ranges [] (z ∷ zs) = false
in_ranges (f ∷ fs) [] = false
in_ranges (f ∷ fs) (z ∷ zs) = within f z && in_ranges fs zs

unfoldable pub fits : Line → Row → Bool
fits l row = in_ranges l.fields row.numbers && eqb (length row.name) 0

-- What every line of a schema must be: a key without LF, at least one field, ranges of at most nine digits.
abbrev pub nine : Field → Bool
nine f = le_z (negsuc 999999998) f.least && le_z f.greatest (pos 999999999)

abbrev pub nines : List Field → Bool
nines [] = true
nines (f ∷ fs) = nine f && nines fs

abbrev pub sound : Line → Bool
sound l = eqb (count l.key 10) 0 && (ltb 0 (length l.fields) && nines l.fields)

-- THE JUDGEMENT ON A TEXT where a line is due: why it is refused, or the row, and how many bytes the line has
pub data Judged : Type 0 where
  refused : Refusal → Judged
  values : Row → ℕ → Judged

abbrev pub unless : Bool → Refusal → Judged → Judged
unless true r j = j
unless false r j = refused r

-- the pieces between the bytes c
abbrev pub push : ℕ → List (List ℕ) → List (List ℕ)
push b [] = (b ∷ []) ∷ []
push b (f ∷ fs) = (b ∷ f) ∷ fs

unfoldable pub pieces : ℕ → List ℕ → List (List ℕ)
pieces c [] = [] ∷ []
pieces c (b ∷ bs) = cond (eqb b c) ([] ∷ pieces c bs) (push b (pieces c bs))

-- the numbers of a line's pieces, or the first piece that is none; the pieces are counted from i
pub data Numbers : Type 0 where
  none-at : ℕ → Numbers
  all_are : List ℤ → Numbers

abbrev pub on_number : {B : Type 0} → std.Option ℤ → B → (ℤ → B) → B
on_number std.None b f = b
on_number (std.Some z) b f = f z

abbrev pub on_numbers : {B : Type 0} → Numbers → (ℕ → B) → (List ℤ → B) → B
on_numbers (none-at i) a f = a i
on_numbers (all_are zs) a f = f zs

unfoldable pub numbers_of : ℕ → List (List ℕ) → Numbers
numbers_of i [] = all_are []
numbers_of i (p ∷ ps) = on_number (number_of p) (none-at i) (λ z. on_numbers (numbers_of (suc i) ps) none-at (λ zs. all_are (z ∷ zs)))

-- its LF, its key, its number of fields, each field's form, ..; the key is given with its `=`
unfoldable pub formed_by : List ℕ → ℕ → List ℕ → Judged
formed_by key n text =
    let body = up_to 10 text in
    let value = drop (length key) body in
    unless (ltb (length body) (length text)) NoLineFeed
    (unless (begins key body) WrongKey
    (unless (eqb (length (pieces 44 value)) n) WrongCount
    (on_numbers (numbers_of 1 (pieces 44 value)) (λ i. refused (NotANumber i)) (λ zs. values (plain zs) (suc (length body))))))

abbrev pub formed : Line → List ℕ → Judged
formed l text = formed_by (l.key ++ bytes "=") (length l.fields) text

-- the first field whose number is outside its range, counted from i
unfoldable pub outside_of : ℕ → List Field → List ℤ → Option ℕ
outside_of i [] zs = none
outside_of i (f ∷ fs) [] = none
outside_of i (f ∷ fs) (z ∷ zs) = cond (within f z) (outside_of (suc i) fs zs) (some i)

abbrev pub on : {A B : Type 0} → Option A → B → (A → B) → B
on none b f = b
on (some a) b f = f a

-- .. each field's range, leftmost first
abbrev pub ranged : List Field → Judged → Judged
ranged fs (refused r) = refused r
ranged fs (values row size) = on (outside_of 1 fs row.numbers) (values row size) (λ i. refused (Outside i))

unfoldable pub judge : Line → List ℕ → Judged
judge l text = ranged l.fields (formed l text)
