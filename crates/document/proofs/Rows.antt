-- A firing by name and its sheet by rows are one and the same: each sheet that has document 01's form is the rows under
-- its keys, and each row the numbers of its record. Assumes nothing.
use Prim.Native.Nat.{ℕ, zero, suc, ◌+◌, ◌≤◌}
use mathlib.Core.Path.{◌≡◌, refl, sym, ap, ◌∙◌}
use mathlib.Core.List.{List, [], ◌∷◌, map}
use mathlib.Core.Bool.{Bool, true, false, cond}
use mathlib.Core.Option.{Option, none, some}
use native.Mathlib.Omega.{arith}
use lib.ListN.{length, drop, drop_of_length-le}
use lib.Seq.{drop-cons}
use lib.IntN.{ℤ, pos}
use Rattle.sheet.specs.Firing.{Analysis, Stage, Firing}
use Rattle.document.specs.Schema.{Line, Row, plain, at, in_ranges, fits, within}
use Rattle.sheet.specs.Quantities.{closing}
use Rattle.document.specs.Document01.{opening, end_line}
use Rattle.document.specs.Editions.{entries_by, entries_of, sheet_of}
use Rattle.document.specs.Entries.{fill}
use Rattle.document.specs.Rules.{Every}
use Rattle.document.specs.Lawful.{has, Own}
use Rattle.document.specs.Rows.{analysed, analysis_of, stage_as, stage_row, stage_of, analysed_row, analysed_of, setter_row, setter_of, part_row, part_of, section_row, section_of, wall_row, wall_of, first, firing_of}
use Rattle.document.proofs.Cases.{clash, both}
use Rattle.document.proofs.Pieces.{ranges-length}
use Rattle.document.proofs.Judged.{is-fit}
use Rattle.document.proofs.Forms.{OneRow, ManyRows}
use Rattle.document.proofs.Rules.{same-is}

-- FROM THE FIRING TO ITS SHEET AND BACK
map_back : {A B : Type 0} (to : A → B) (from : B → A) → ((x : A) → from (to x) ≡ x) → (xs : List A) → map from (map to xs) ≡ xs
map_back to from h [] = refl
map_back to from h (x ∷ xs) = rw (h x, map_back to from h xs)

every_back : {A B : Type 0} (P : A → Type 0) (to : A → B) (from : B → A) → ((x : A) → P x → from (to x) ≡ x)
    → (xs : List A) → Every P xs → map from (map to xs) ≡ xs
every_back P to from h [] k = refl
every_back P to from h (x ∷ xs) k = rw (h x k.0, every_back P to from h xs k.1)

-- a stage with an analysis, and one without
analysed-back : (x : Stage) → has x.analysis ≡ true → analysed_of (analysed_row x) ≡ x
analysed-back x e = here x.analysis e refl
  where
    here : (o : Option Analysis) → has o ≡ true → x.analysis ≡ o → analysed_of (analysed_row x) ≡ x
    here none e q = clash cc
    here (some a) e q =
        let said = ap (λ (o : Option Analysis). some (analysis_of o)) q ∙ sym q in
        λ i. record { gas = x.gas; excess = x.excess; flue = x.flue; co = x.co; analysis = said i; minutes = x.minutes }

stage-back : (x : Stage) → has x.analysis ≡ false → stage_of (stage_row x) ≡ x
stage-back x e = here x.analysis e refl
  where
    here : (o : Option Analysis) → has o ≡ false → x.analysis ≡ o → stage_of (stage_row x) ≡ x
    here none e q = λ i. record { gas = x.gas; excess = x.excess; flue = x.flue; co = x.co; analysis = sym q i; minutes = x.minutes }
    here (some a) e q = clash cc

stages-back : (edition : ℤ) (t : Bool) → analysed edition ≡ t → (xs : List Stage) → Every (λ x. has x.analysis ≡ t) xs
    → map (stage_as edition) (map (cond t analysed_row stage_row) xs) ≡ xs
stages-back edition true e xs own =
    every_back (λ x. has x.analysis ≡ true) analysed_row (stage_as edition) (λ x k. rw e (analysed-back x k)) xs own
stages-back edition false e xs own =
    every_back (λ x. has x.analysis ≡ false) stage_row (stage_as edition) (λ x k. rw e (stage-back x k)) xs own

firing-by : (f : Firing) (t : Bool) → analysed f.edition ≡ t → Every (λ x. has x.analysis ≡ t) f.stages
    → firing_of (map (fill f) (opening ∷ entries_by t)) ≡ f
unfolding entries_by
firing-by f t e own =
    let stages = stages-back f.edition t e f.stages own in
    let setters = map_back setter_row setter_of (λ x. refl) f.setters in
    let parts = map_back part_row part_of (λ x. refl) f.parts in
    let sections = map_back section_row section_of (λ x. refl) f.sections in
    let walls = map_back wall_row wall_of (λ x. refl) f.walls in
    here t stages setters parts sections walls
  where
    here : (t : Bool) → map (stage_as f.edition) (map (cond t analysed_row stage_row) f.stages) ≡ f.stages
        → map setter_of (map setter_row f.setters) ≡ f.setters → map part_of (map part_row f.parts) ≡ f.parts
        → map section_of (map section_row f.sections) ≡ f.sections → map wall_of (map wall_row f.walls) ≡ f.walls
        → firing_of (map (fill f) (opening ∷ entries_by t)) ≡ f
    here true a b c d g = rw (a, b, c, d, g)
    here false a b c d g = rw (a, b, c, d, g)

pub firing-back : (f : Firing) → Every (Own f.edition) f.stages → firing_of (sheet_of f) ≡ f
firing-back f own = firing-by f (analysed f.edition) refl own

-- FROM THE SHEET TO ITS FIRING AND BACK: a row that fits its line is the numbers of its record
abbrev numbers_at : ℕ → ℕ → Row → List ℤ
numbers_at i zero r = []
numbers_at i (suc n) r = at r i ∷ numbers_at (suc i) n r

numbers-at : (i n : ℕ) (r : Row) → length r.numbers ≡ i + n → numbers_at i n r ≡ drop i r.numbers
numbers-at i zero r e = let z : length r.numbers ≤ i = omega arith in sym (drop_of_length-le r.numbers z)
numbers-at i (suc n) r e = rw (drop-cons r.numbers i (pos 0) (omega arith), numbers-at (suc i) n r (omega arith))

pub row_back : (l : Line) (r : Row) → fits l r ≡ true → plain (numbers_at 0 (length l.fields) r) ≡ r
row_back l r h =
    let f = is-fit l r h in
    ap plain (numbers-at 0 (length l.fields) r (omega (arith, ranges-length l.fields r.numbers f.inside))) ∙ sym f.unnamed

pub one-back : {l : Line} {rows : List Row} → OneRow l rows → plain (numbers_at 0 (length l.fields) (first rows)) ∷ [] ≡ rows
one-back {l = l} o = rw (o.is, row_back l o.row o.fit)

pub many-back : {A : Type 0} {l : Line} {least most : ℕ} {rows : List Row} (to : A → Row) (from : Row → A) → ((r : Row) → fits l r ≡ true → to (from r) ≡ r)
    → ManyRows l least most rows → map to (map from rows) ≡ rows
many-back {l = l} {rows = rows} to from back k = each rows k.fit
  where
    each : (rows : List Row) → Every (λ r. fits l r ≡ true) rows → map to (map from rows) ≡ rows
    each [] k = refl
    each (r ∷ rows) k = rw (back r k.0, each rows k.1)

-- `end` says 1
pub end_back : {rows : List Row} → OneRow end_line rows → plain (pos 1 ∷ []) ∷ [] ≡ rows
unfolding in_ranges
end_back o =
    let b = row_back end_line o.row o.fit in
    let i = (is-fit end_line (plain (at o.row 0 ∷ [])) (rw b o.fit)).inside in
    rw (o.is, same-is (pos 1) (at o.row 0) (both (within closing (at o.row 0)) true i).0) (ap (λ (r : Row). r ∷ []) b)
