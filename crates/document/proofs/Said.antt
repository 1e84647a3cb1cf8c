-- What a line says is what its text is formed as, and back. Assumes nothing.
use Prim.Native.Nat.{ℕ, ◌<◌}
use mathlib.Core.Path.{◌≡◌, refl, ap}
use mathlib.Core.List.{List, [], ◌∷◌, ◌++◌, map}
use mathlib.Core.Bool.{true}
use native.Mathlib.Omega.{arith}
use lib.ListN.{length, length-map, drop}
use lib.IntN.{ℤ, pos, negsuc, nat_abs}
use borrow.Author.Tests.{lt-ltb, le-leb, eq-eqb}
use Rattle.sheet.specs.declared.Refusal.TheVariants.{Outside}
use Rattle.sheet.specs.Quantities.{Field, minus}
use Rattle.document.specs.Schema.{Line, Row, plain, line_text, body_text, within, in_ranges, fits, nines, sound, Judged, refused, values, formed, outside_of, ranged, judge}
use Rattle.document.specs.Rules.{Every}
use Rattle.document.specs.Faults.{Says, SaysIn}
use Rattle.document.proofs.Cases.{clash, on_none}
use Rattle.document.proofs.Judged.{is-sound, is-fit, fits-plain, judge-text, formed-values, judge-values}
use Rattle.document.proofs.Fields.{ranges_in}

-- THE FORM: the same line with any number of nine digits in each field
abbrev nine_digits : Field
nine_digits = minus 999999999 999999999

abbrev wide : Line → Line
wide l = record { key = l.key; fields = map (λ f. nine_digits) l.fields }

nine-within : (z : ℤ) → nat_abs z < 1000000000 → within nine_digits z ≡ true
nine-within (pos n) h = rw (le-leb n 999999999 (omega arith))
nine-within (negsuc n) h = rw (le-leb n 999999998 (omega arith))

wide-ranges : (fs : List Field) (zs : List ℤ) → length zs ≡ length fs → Every (λ z. nat_abs z < 1000000000) zs
    → in_ranges (map (λ f. nine_digits) fs) zs ≡ true
unfolding in_ranges
wide-ranges [] [] e h = refl
wide-ranges [] (z ∷ zs) e h = absurd (omega arith)
wide-ranges (f ∷ fs) [] e h = absurd (omega arith)
wide-ranges (f ∷ fs) (z ∷ zs) e h = rw (nine-within z h.0) (wide-ranges fs zs (omega arith) h.1)

wide-nines : (fs : List Field) → nines (map (λ f. nine_digits) fs) ≡ true
wide-nines [] = refl
wide-nines (f ∷ fs) = wide-nines fs

wide-sound : (l : Line) → sound l ≡ true → sound (wide l) ≡ true
wide-sound l s =
    let a = is-sound l s in
    let n = length-map l.fields (λ f. nine_digits) in
    let some : 0 < length (map (λ (f : Field). nine_digits) l.fields) = omega (arith, a.some) in
    rw (eq-eqb _ 0 a.clear, lt-ltb 0 _ some) (wide-nines l.fields)

judge-formed : (l : Line) (text : List ℕ) (row : Row) (n : ℕ) → judge l text ≡ values row n → formed l text ≡ values row n
unfolding judge
judge-formed l text row n e = here (formed l text) e
  where
    here : (j : Judged) → ranged l.fields j ≡ values row n → j ≡ values row n
    here (refused r) e = clash cc
    here (values r size) e = (on_none (outside_of 1 l.fields r.numbers) (values r size) (values row n) (λ i. refused (Outside i)) (λ i z. clash cc) e).1

-- what a line says is what its text is formed as, and back
pub says-formed : (l : Line) (text : List ℕ) → sound l ≡ true → (row : Row) → Says l text row → formed l text ≡ values row (length (line_text l row))
unfolding line_text body_text
says-formed l text s row h =
    let unnamed : row ≡ plain row.numbers = ap (λ (x : List ℕ). record { numbers = row.numbers; name = x }) h.nameless in
    let fit : fits (wide l) row ≡ true = rw unnamed (fits-plain (wide l) row.numbers (wide-ranges l.fields row.numbers h.many h.small)) in
    let j = judge-text (wide l) row h.more (wide-sound l s) fit in
    let f = judge-formed (wide l) (line_text l row ++ h.more) row (length (line_text l row)) j in
    let e = length-map l.fields (λ f. nine_digits) in
    rw h.whole (rw e at f)

pub formed-says : (l : Line) (text : List ℕ) (row : Row) (size : ℕ) → formed l text ≡ values row size → Says l text row
formed-says l text row size q =
    let f = formed-values l text row size q in
    record { nameless = ap (λ (x : Row). x.name) f.unnamed; many = f.many; small = f.small; more = drop size text; whole = f.whole }

-- and where it is judged good, its numbers are in their ranges
pub judge-says : (l : Line) (text : List ℕ) (row : Row) (size : ℕ) → judge l text ≡ values row size → SaysIn l text row
judge-says l text row size e = record {
  says = formed-says l text row size (judge-formed l text row size e);
  within = ranges_in l.fields row.numbers (is-fit l row (judge-values l text row size e).in_range).inside;
}
