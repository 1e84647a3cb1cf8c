-- No second outcome fits: what a struct shows, and that nothing else stands in it, leave no field open. Assumes nothing.
use Prim.Native.Nat.{ℕ, zero, suc, ◌+◌, ◌-◌, ◌≤◌}
use mathlib.Core.Path.{◌≡◌, refl, sym, ap, ap₂, ◌∙◌}
use mathlib.Core.List.{List, [], ◌∷◌, ◌++◌, map}
use native.Mathlib.Omega.{arith}
use lib.IntN.{ℤ, pos, nat_abs}
use lib.ListN.{length, length-map, get_or, take, drop, replicate, drop_of_length-le, take-append-drop}
use lib.Seq.{drop-cons, length-take-le}
use Rattle.quantity.specs.declared.gas.Share.{Share}
use Rattle.sheet.specs.declared.Stuff.{Stuff as Stuffˢ}
use Rattle.sheet.specs.declared.Analysis.{Analysis as Analysisˢ}
use Rattle.sheet.specs.declared.Stage.{Stage as Stageˢ}
use Rattle.sheet.specs.declared.Setter.{Setter as Setterˢ}
use Rattle.sheet.specs.declared.Part.{Part as Partˢ}
use Rattle.sheet.specs.declared.Section.{Section as Sectionˢ}
use Rattle.sheet.specs.declared.Sheet.{Sheet as Sheetˢ}
use Rattle.sheet.specs.Firing.{Stuff, Gas, Analysis, Firing}
use Rattle.sheet.specs.Shown.{stuff, gas, analysis, stage, setter, part, section, firing, Shows}
use Rattle.sheet.specs.Quantities.{gases}
use Rattle.document.specs.Reader.{Sheet, Answer, Refused, Good}
use Rattle.document.specs.Rules.{Every}
use Rattle.document.specs.Rows.{gas_row, firing_of}
use Rattle.document.proofs.Cases.{clash}
use Rattle.due.specs.declared.Heard.{Heard}
use Rattle.lines.specs.All.{Blanked, Trimmed}
use Rattle.std.specs.Prelude.{Option, None, Some, Result, Ok}
use Rattle.reader.specs.declared.whole.Rejection.{Rejection}
use Rattle.reader.specs.Whole.{Judged, Answers}

-- ---- A LIST by what it shows, where no two things of which C holds show the same
abbrev Any : {A : Type 0} → A → Type 0
Any x = Unit {0}

all_any : {A : Type 0} (l : List A) → Every Any l
all_any [] = tt
all_any (x ∷ l) = (tt, all_any l)

any : {A B : Type 0} {g : A → B} → ((x y : A) → g x ≡ g y → x ≡ y) → (x y : A) → Any x → Any y → g x ≡ g y → x ≡ y
any one x y p q = one x y

module _ {A B : Type 0} (g : A → B) (C : A → Type 0) (one : (x y : A) → C x → C y → g x ≡ g y → x ≡ y) where
  map-one : (l m : List A) → Every C l → Every C m → map g l ≡ map g m → l ≡ m
  map-one [] [] p q e = refl
  map-one [] (y ∷ m) p q e = clash cc
  map-one (x ∷ l) [] p q e = clash cc
  map-one (x ∷ l) (y ∷ m) p q e =
      let first : g x ≡ g y = cc in
      let rest : map g l ≡ map g m = cc in
      ap₂ ◌∷◌ (one x y p.0 q.0 first) (map-one l m p.1 q.1 rest)

  -- a block: as many lines as it counts, and blanks
  module _ {blank : A} {most c d : ℕ} {l m : List A} (t : Blanked blank most c l) (u : Blanked blank most d m)
      (p : Every C (take c l)) (q : Every C (take d m)) (e : map g (take c l) ≡ map g (take d m)) where
    shown-count : {k : ℕ} {xs : List A} → Blanked blank most k xs → length (map g (take k xs)) ≡ k
    shown-count {k} {xs} b = length-map (take k xs) g ∙ length-take-le k xs (omega (arith, b.long, b.fits))

    same_count : c ≡ d
    same_count = sym (shown-count t) ∙ ap length e ∙ shown-count u

    same_lines : l ≡ m
    same_lines =
        let blanks : drop c l ≡ drop d m = t.rest ∙ ap (λ (k : ℕ). replicate (most - k) blank) same_count ∙ sym u.rest in
        sym (take-append-drop c l) ∙ ap₂ ◌++◌ (map-one (take c l) (take d m) p q e) blanks ∙ take-append-drop d m

-- the same of things of which nothing is asked
module _ {A B : Type 0} (g : A → B) (one : (x y : A) → g x ≡ g y → x ≡ y) {blank : A} {most c d : ℕ} {l m : List A}
    (t : Blanked blank most c l) (u : Blanked blank most d m) (e : map g (take c l) ≡ map g (take d m)) where
  any-count : c ≡ d
  any-count = same_count g Any (any one) t u (all_any (take c l)) (all_any (take d m)) e

  any-lines : l ≡ m
  any-lines = same_lines g Any (any one) t u (all_any (take c l)) (all_any (take d m)) e

-- ---- THE RECORDS: no two structs show the same
stuff-one : (x y : Stuffˢ) → stuff x ≡ stuff y → x ≡ y
stuff-one x y e = λ i. record { material = record { 0 = ap (λ (z : Stuff). nat_abs z.material) e i }; c = record { 0 = ap (λ (z : Stuff). z.c) e i } }

analysis-one : (x y : Option Analysisˢ) → analysis x ≡ analysis y → x ≡ y
analysis-one None None e = refl
analysis-one None (Some b) e = clash cc
analysis-one (Some a) None e = clash cc
analysis-one (Some a) (Some b) e =
    let same : analysed a ≡ analysed b = cc in
    λ i. Some (record { pair = record { 0 = ap (λ (z : Analysis). z.pair) same i }; oxygen = record { 0 = ap (λ (z : Analysis). z.oxygen) same i } })
  where
    analysed : Analysisˢ → Analysis
    analysed z = record { pair = z.pair.0; oxygen = z.oxygen.0 }

stage-one : (x y : Stageˢ) → stage x ≡ stage y → x ≡ y
stage-one x y e = λ i. record {
  gas = record { 0 = ap (λ z. z.gas) e i };
  excess = record { 0 = ap (λ z. z.excess) e i };
  flue = record { 0 = ap (λ z. z.flue) e i };
  co = record { 0 = ap (λ z. z.co) e i };
  analysis = analysis-one x.analysis y.analysis (ap (λ z. z.analysis) e) i;
  minutes = record { 0 = ap (λ z. z.minutes) e i };
}

setter-one : (x y : Setterˢ) → setter x ≡ setter y → x ≡ y
setter-one x y e = λ i. record {
  mass = record { 0 = ap (λ z. z.mass) e i };
  entry = record { 0 = ap (λ z. z.entry) e i };
  stuff = stuff-one x.stuff y.stuff (ap (λ z. z.stuff) e) i;
}

part-one : (x y : Partˢ) → part x ≡ part y → x ≡ y
part-one x y e = λ i. record {
  mass = record { 0 = ap (λ z. z.mass) e i };
  stuff = stuff-one x.stuff y.stuff (ap (λ z. z.stuff) e) i;
  before = record { 0 = ap (λ z. z.before) e i };
  firing = record { 0 = ap (λ z. z.firing) e i };
}

section-one : (x y : Sectionˢ) → section x ≡ section y → x ≡ y
section-one x y e = λ i. record {
  number = record { 0 = ap (λ z. nat_abs z.number) e i };
  place = record { 0 = ap (λ z. nat_abs z.place) e i };
  area = record { 0 = ap (λ z. z.area) e i };
}

-- thirteen shares are those of the gas
abbrev numbers_at : ℕ → ℕ → List ℤ → List ℤ
numbers_at i zero zs = []
numbers_at i (suc n) zs = get_or zs i (pos 0) ∷ numbers_at (suc i) n zs

numbers-at : (i n : ℕ) (zs : List ℤ) → length zs ≡ i + n → numbers_at i n zs ≡ drop i zs
numbers-at i zero zs e = let z : length zs ≤ i = omega arith in sym (drop_of_length-le zs z)
numbers-at i (suc n) zs e = rw (drop-cons zs i (pos 0) (omega arith), numbers-at (suc i) n zs (omega arith))

shares_are : (l : List Share) → length l ≡ gases → (gas_row (gas l)).numbers ≡ map (λ x. x.0) l
shares_are l h = numbers-at 0 gases (map (λ (x : Share). x.0) l) (length-map l (λ (x : Share). x.0) ∙ h)

gas-one : (l m : List Share) → length l ≡ gases → length m ≡ gases → gas l ≡ gas m → l ≡ m
gas-one l m h k e =
    map-one (λ (x : Share). x.0) Any (λ x y p q e i. record { 0 = e i }) l m (all_any l) (all_any m)
    (sym (shares_are l h) ∙ ap (λ (z : Gas). (gas_row z).numbers) e ∙ shares_are m k)

-- ---- THE SHEET: nothing stands in the struct but what it shows
module _ (f : Firing) (x y : Sheetˢ) (a : Shows x f) (b : Shows y f) (t : Trimmed x) (u : Trimmed y) where
  same : firing x f.walls ≡ firing y f.walls
  same = sym a.lines ∙ b.lines

  same_head : x.head ≡ y.head
  same_head =
      let shares = gas-one x.head.gas y.head.gas t.gas u.gas (ap (λ (z : Firing). z.gas) same) in
      λ i. record {
        edition = record { 0 = ap (λ (z : Firing). nat_abs z.edition) same i };
        firing = record { 0 = ap (λ (z : Firing). z.number) same i };
        product = record { 0 = ap (λ (z : Firing). z.product) same i };
        ambient = record { 0 = ap (λ (z : Firing). z.ambient) same i };
        fuel = record {
          heating = record { 0 = ap (λ (z : Firing). z.fuel.heating) same i };
          temperature = record { 0 = ap (λ (z : Firing). z.fuel.temperature) same i };
        };
        gas = shares i;
        moisture = record { 0 = ap (λ (z : Firing). z.moisture) same i };
        ware = record {
          green = record { 0 = ap (λ (z : Firing). z.ware.green) same i };
          entry = record { 0 = ap (λ (z : Firing). z.ware.entry) same i };
          highest = record { 0 = ap (λ (z : Firing). z.ware.highest) same i };
          stuff = stuff-one x.head.ware.stuff y.head.ware.stuff (ap (λ (z : Firing). z.ware.stuff) same) i;
        };
        water = record {
          adsorbed = record { 0 = ap (λ (z : Firing). z.water.adsorbed) same i };
          crystal = record { 0 = ap (λ (z : Firing). z.water.crystal) same i };
          flue = record { 0 = ap (λ (z : Firing). z.water.flue) same i };
        };
        clay = record { 0 = ap (λ (z : Firing). z.clay) same i };
      }

  pub one-sheet : x ≡ y
  one-sheet =
      let stages = ap (λ (z : Firing). z.stages) same in
      let setters = ap (λ (z : Firing). z.setters) same in
      let parts = ap (λ (z : Firing). z.parts) same in
      let sections = ap (λ (z : Firing). z.sections) same in
      λ i. record {
        head = same_head i;
        stages = record {
          count = record { 0 = any-count stage stage-one t.stages u.stages stages i };
          lines = any-lines stage stage-one t.stages u.stages stages i;
        };
        setters = record {
          count = record { 0 = any-count setter setter-one t.setters u.setters setters i };
          lines = any-lines setter setter-one t.setters u.setters setters i;
        };
        parts = record {
          count = record { 0 = any-count part part-one t.parts u.parts parts i };
          lines = any-lines part part-one t.parts u.parts parts i;
        };
        sections = record {
          count = record { 0 = any-count section section-one t.sections u.sections sections i };
          lines = any-lines section section-one t.sections u.sections sections i;
        };
        readings = (a.readings ∙ sym b.readings) i;
      }

-- ---- THE LAWS: no second answer of `read`, and on acceptance no second judgement
pub one_outcome : (a : Answer) (r t : Result Sheetˢ Rejection) → Answers a r → Answers a t → r ≡ t
one_outcome (Refused x n) r t h k = h ∙ sym k
one_outcome (Good sheet) r t h k = h.1 ∙ (λ i. Ok (one-sheet (firing_of sheet) h.0 k.0 h.2 k.2 h.3 k.3 i)) ∙ sym k.1

pub one-judgement : (s : List ℕ) (sheet : Sheet) (r t : Heard Sheetˢ) → Judged s (Good sheet) r → Judged s (Good sheet) t → r ≡ t
one-judgement s sheet r t h k = λ i. record {
  place = (h.0 ∙ sym k.0) i;
  said = one-sheet (firing_of sheet) r.said t.said h.1 k.1 h.2 k.2 i;
}
