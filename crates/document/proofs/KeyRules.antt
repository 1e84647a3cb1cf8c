-- The rule of a line by its key: it says nothing just where the row keeps the plain rules of the key, and what it says is wrong with the row.
-- Assumes nothing.
use Prim.Native.Nat.{ℕ, ◌+◌, ◌≤◌}
use mathlib.Core.Path.{◌≡◌, refl, sym, ap, ap₂, subst, ◌∙◌}
use mathlib.Core.List.{List, [], ◌∷◌}
use mathlib.Core.Logic.{◌⊎◌, inl, inr}
use mathlib.Core.Option.{Option, none, some}
use mathlib.Core.Bool.{Bool, true, false, cond, ◌&&◌, not}
use native.Mathlib.Omega.{arith}
use lib.ListN.{length}
use lib.Dec.{eqb}
use lib.IntN.{pos, ◌+ℤ◌}
use lib.Signed.{lt_z, ◌<ℤ◌}
use borrow.Author.Tests.{eqb-true, eq-eqb}
use Rattle.text.specs.Bytes.{bytes}
use Rattle.sheet.specs.declared.Refusal.{Refusal}
use Rattle.sheet.specs.declared.Refusal.TheVariants.{Analysis, Material, Shares, SectionTwice, NoSuchWall, ReadTwice, Colder}
use Rattle.sheet.specs.Refusals.{number, field}
use Rattle.sheet.specs.Shown.{same}
use Rattle.sheet.specs.Firing.{Stage, Section, Wall}
use Rattle.sheet.specs.Block.{sum}
use Rattle.sheet.specs.Quantities.{analysis_most}
use Rattle.document.specs.Schema.{Row, at}
use Rattle.document.specs.Reader.{Sheet, Rule, same_key}
use Rattle.document.specs.Rows.{section_of, edition_in, stages_in, sections_in, wall_as, walls_in}
use Rattle.document.specs.Tests.{alike, weigh, air_weights, when, ◌else◌, free, is_listed, is_read, wall_fault, material-rule, gas-rule, analysis-rule, section-rule, wall-rule}
use Rattle.document.specs.Rules.{Some, Every, MaterialKeeps, GasKeeps, AnalysisKeeps, SameNumber, Listed}
use Rattle.document.specs.GoodLines.{RowKeeps}
use Rattle.document.specs.Order.{WallFault, elsewhere, twice, colder, RowFault, of_ware, of_setter, of_part, of_stage, of_gas, of_section, of_wall}
use Rattle.document.proofs.Cases.{clash, both}
use Rattle.document.proofs.Rules.{Asks, material-asks, gas-asks, analysis-asks, section-asks, wall-asks, wall-said, listed_test, unlisted-heard, unstaged-heard, twice-heard, colder-heard}
use Rattle.document.proofs.Entries.{◌&◌}

-- THE RULE OF A KEY: the keys that have one, and none for any other
record Ruling : Type 0 where
  key : List ℕ
  rule : Rule

abbrev rulings : ℕ → List Ruling
rulings fields =
    record { key = bytes "ware"; rule = material-rule 3 }
    ∷ record { key = bytes "setter"; rule = material-rule 2 }
    ∷ record { key = bytes "part"; rule = material-rule 1 }
    ∷ record { key = bytes "gas"; rule = gas-rule }
    ∷ record { key = bytes "stage"; rule = cond (eqb fields 7) analysis-rule free }
    ∷ record { key = bytes "section"; rule = section-rule }
    ∷ record { key = bytes "wall"; rule = wall-rule }
    ∷ []

abbrev ruled_by : List Ruling → List ℕ → Rule
ruled_by [] key = free
ruled_by (x ∷ xs) key = cond (same_key key x.key) x.rule (ruled_by xs key)

unfoldable pub rule_for : List ℕ → ℕ → Rule
rule_for key fields = ruled_by (rulings fields) key

key-is : (a b : List ℕ) → same_key a b ≡ true → a ≡ b
key-is [] [] e = refl
key-is [] (y ∷ ys) e = clash cc
key-is (x ∷ xs) [] e = clash cc
key-is (x ∷ xs) (y ∷ ys) e = let t = both (eqb x y) (same_key xs ys) e in ap₂ ◌∷◌ (eqb-true x y t.0) (key-is xs ys t.1)

-- what holds of the rule of each key, and of none, holds of the rule of any key
by_key : (C : Rule → Type 0) (key : List ℕ) (xs : List Ruling) → Every (λ x. key ≡ x.key → C x.rule) xs → C free → C (ruled_by xs key)
by_key C key [] k h = h
by_key C key (x ∷ xs) k h = here (same_key key x.key) refl (by_key C key xs k.1 h)
  where
    here : (t : Bool) → same_key key x.key ≡ t → C (ruled_by xs key) → C (cond t x.rule (ruled_by xs key))
    here true q rest = k.0 (key-is key x.key q)
    here false q rest = rest

-- what a rule says: a refusal with this number and this field
pub record SaidOf (o : Option Refusal) (k i : ℕ) : Type 0 where
  pub refusal : Refusal
  pub is : o ≡ some refusal
  pub numbered : number refusal ≡ k
  pub fielded : field refusal ≡ i

-- A TEST THAT SPOKE said its one refusal, and one that is not silent says it
when-said : (t : Bool) (r x : Refusal) → when t r ≡ some x → (t ≡ true) × (x ≡ r)
when-said true r x e = (refl, cc)
when-said false r x e = clash cc

when-some : (t : Bool) (r : Refusal) → ¬ (when t r ≡ none) → when t r ≡ some r
when-some true r n = refl
when-some false r n = absurd (n refl)

asks-said : {o : Option Refusal} {P : Type 0} {x : Refusal} → Asks o P → o ≡ some x → ¬ P
asks-said a e p = let z = a.from p in clash cc

-- 4
module _ (i : ℕ) (above : Sheet) (row : Row) where
  abbrev unsuited : Bool
  unsuited = alike (same (pos 0) (at row i)) (same (pos 0) (at row (i + 1)))

  material-said : (x : Refusal) → material-rule i above row ≡ some x → (x ≡ Material (i + 1)) × ¬ MaterialKeeps i row
  material-said x e = ((when-said unsuited (Material (i + 1)) x e).1, asks-said (material-asks i above row) e)

  material-heard : ¬ MaterialKeeps i row → material-rule i above row ≡ some (Material (i + 1))
  material-heard n = when-some unsuited (Material (i + 1)) (λ q. n ((material-asks i above row).to q))

-- 5, 6
module _ (above : Sheet) (row : Row) where
  abbrev unburnable : Bool
  unburnable = not (same (sum (λ z. z) row.numbers) (pos 10000) && lt_z (pos 0) (weigh air_weights row.numbers))

  gas-said : (x : Refusal) → gas-rule above row ≡ some x → (x ≡ Shares) × ¬ GasKeeps row
  gas-said x e = ((when-said unburnable Shares x e).1, asks-said (gas-asks above row) e)

  gas-heard : ¬ GasKeeps row → gas-rule above row ≡ some Shares
  gas-heard n = when-some unburnable Shares (λ q. n ((gas-asks above row).to q))

  -- 14
  abbrev too_much : Bool
  too_much = lt_z (pos analysis_most) (at row 3 +ℤ at row 4 +ℤ at row 5)

  analysis-said : (x : Refusal) → analysis-rule above row ≡ some x → (x ≡ Analysis) × ¬ AnalysisKeeps row
  analysis-said x e = ((when-said too_much Analysis x e).1, asks-said (analysis-asks above row) e)

  analysis-heard : ¬ AnalysisKeeps row → analysis-rule above row ≡ some Analysis
  analysis-heard n = when-some too_much Analysis (λ q. n ((analysis-asks above row).to q))

  abbrev again : Bool
  again = is_listed (sections_in above) (section_of row).number

  section-said : (x : Refusal) → section-rule above row ≡ some x → (x ≡ SectionTwice) × Some (SameNumber (section_of row)) (sections_in above)
  section-said x e =
      let w = when-said again SectionTwice x e in
      (w.1, (listed_test (sections_in above) (section_of row).number).yes w.0)

  section-heard : Some (SameNumber (section_of row)) (sections_in above) → section-rule above row ≡ some SectionTwice
  section-heard t = when-some again SectionTwice (λ q. (section-asks (sections_in above) (section_of row)).to q t)

-- 6, 7, 9
module _ (stages : List Stage) (sections : List Section) (above : List Wall) (w : Wall) where
  six-heard : (¬ Listed sections w) ⊎ (pos (length stages) <ℤ w.stage) → wall_fault stages sections above w ≡ some NoSuchWall
  six-heard (inl n) = unlisted-heard stages sections above w n
  six-heard (inr b) = here (is_listed sections w.section) refl
    where
      here : (t : Bool) → is_listed sections w.section ≡ t → wall_fault stages sections above w ≡ some NoSuchWall
      here true e = unstaged-heard stages sections above w ((listed_test sections w.section).yes e) b
      here false e = unlisted-heard stages sections above w (λ l. let z = (listed_test sections w.section).back l in clash cc)

  wall-heard : (k : ℕ) → WallFault stages sections above w k → SaidOf (wall_fault stages sections above w) k 0
  wall-heard k (elsewhere e n) = record { refusal = NoSuchWall; is = six-heard n; numbered = sym e; fielded = refl }
  wall-heard k (twice e l t r) = record { refusal = ReadTwice; is = twice-heard stages sections above w l t r; numbered = sym e; fielded = refl }
  wall-heard k (colder e l t n c) = record { refusal = Colder; is = colder-heard stages sections above w l t n c; numbered = sym e; fielded = refl }

  wall-whole : (x : Refusal) → wall_fault stages sections above w ≡ some x → field x ≡ 0
  wall-whole x e =
      here (is_listed sections w.section) (lt_z (pos (length stages)) w.stage) (is_read above w.section w.stage) (lt_z w.surface w.air) e
    where
      here : (a b c d : Bool) → (when (not a) NoSuchWall else when b NoSuchWall else when c ReadTwice else when d Colder) ≡ some x → field x ≡ 0
      here false b c d e = let z : x ≡ NoSuchWall = cc in ap field z
      here true true c d e = let z : x ≡ NoSuchWall = cc in ap field z
      here true false true d e = let z : x ≡ ReadTwice = cc in ap field z
      here true false false true e = let z : x ≡ Colder = cc in ap field z
      here true false false false e = clash cc

-- THE RULE OF A KEY ASKS FOR THE PLAIN RULES
module _ (key : List ℕ) (fields : ℕ) (above : Sheet) (row : Row) where
  abbrev reading : Wall
  reading = wall_as (edition_in above) row

  -- what is said to a line with the key is said to one with its name, and back
  named : {o : Option Refusal} {name : List ℕ} → key ≡ name → rule_for key fields above row ≡ o → rule_for name fields above row ≡ o
  named {o} k e = subst (λ (x : List ℕ). rule_for x fields above row ≡ o) k e

  keyed : {o : Option Refusal} {name : List ℕ} → key ≡ name → rule_for name fields above row ≡ o → rule_for key fields above row ≡ o
  keyed {o} k e = subst (λ (x : List ℕ). rule_for x fields above row ≡ o) (sym k) e

  -- a stage with seven fields has the rule of the analysis
  seventh : {o : Option Refusal} → fields ≡ 7 → rule_for (bytes "stage") fields above row ≡ o → analysis-rule above row ≡ o
  unfolding rule_for
  seventh {o} n e = subst (λ (t : Bool). cond t analysis-rule free above row ≡ o) (eq-eqb fields 7 n) e

  stage-from : (t : Bool) → eqb fields 7 ≡ t → (fields ≡ 7 → analysis-rule above row ≡ none) → cond t analysis-rule free above row ≡ none
  stage-from true q h = h (eqb-true fields 7 q)
  stage-from false q h = refl

  stage-said : {C : Type 0} (x : Refusal) (t : Bool) → eqb fields 7 ≡ t → cond t analysis-rule free above row ≡ some x
      → (fields ≡ 7 → x ≡ Analysis → ¬ AnalysisKeeps row → C) → C
  stage-said x true q e go = let m = analysis-said above row x e in go (eqb-true fields 7 q) m.0 m.1
  stage-said x false q e go = clash cc

  pub row-asks : Asks (rule_for key fields above row) (RowKeeps key fields above row)
  unfolding rule_for
  row-asks =
      let wall = wall-asks (stages_in above) (sections_in above) (walls_in above) reading in
      record {
        to = λ e. record {
          ware = λ k. (material-asks 3 above row).to (named k e);
          setter = λ k. (material-asks 2 above row).to (named k e);
          part = λ k. (material-asks 1 above row).to (named k e);
          gas = λ k. (gas-asks above row).to (named k e);
          stage = λ k n. (analysis-asks above row).to (seventh n (named k e));
          section = λ k. (section-asks (sections_in above) (section_of row)).to (named k e);
          wall = λ k. wall.to (named k e);
        };
        from = λ h. by_key (λ rule. rule above row ≡ none) key (rulings fields)
            ((λ k. (material-asks 3 above row).from (h.ware k))
            & (λ k. (material-asks 2 above row).from (h.setter k))
            & (λ k. (material-asks 1 above row).from (h.part k))
            & (λ k. (gas-asks above row).from (h.gas k))
            & (λ k. stage-from (eqb fields 7) refl (λ n. (analysis-asks above row).from (h.stage k n)))
            & (λ k. (section-asks (sections_in above) (section_of row)).from (h.section k))
            & (λ k. wall.from (h.wall k))
            & tt) refl;
      }

  -- what it says is wrong with the row
  pub row-said : (x : Refusal) → rule_for key fields above row ≡ some x → RowFault key fields above row (number x) (field x)
  unfolding rule_for
  row-said x = by_key (λ rule. rule above row ≡ some x → RowFault key fields above row (number x) (field x)) key (rulings fields)
      ((λ k e. let m = material-said 3 above row x e in of_ware (ap number m.0) (ap field m.0) k m.1)
      & (λ k e. let m = material-said 2 above row x e in of_setter (ap number m.0) (ap field m.0) k m.1)
      & (λ k e. let m = material-said 1 above row x e in of_part (ap number m.0) (ap field m.0) k m.1)
      & (λ k e. let m = gas-said above row x e in of_gas (ap number m.0) (ap field m.0) k m.1)
      & (λ k e. stage-said x (eqb fields 7) refl e (λ n m b. of_stage (ap number m) (ap field m) k n b))
      & (λ k e. let m = section-said above row x e in of_section (ap number m.0) (ap field m.0) k m.1)
      & (λ k e.
      let whole = wall-whole (stages_in above) (sections_in above) (walls_in above) reading x e in
      of_wall whole k (wall-said (stages_in above) (sections_in above) (walls_in above) reading x e))
      & tt) (λ e. clash cc)

  -- and whatever is wrong with the row it says
  pub row-heard : (n i : ℕ) → RowFault key fields above row n i → SaidOf (rule_for key fields above row) n i
  unfolding rule_for
  row-heard n i (of_ware e f k h) = record { refusal = Material 4; is = keyed k (material-heard 3 above row h); numbered = sym e; fielded = sym f }
  row-heard n i (of_setter e f k h) = record { refusal = Material 3; is = keyed k (material-heard 2 above row h); numbered = sym e; fielded = sym f }
  row-heard n i (of_part e f k h) = record { refusal = Material 2; is = keyed k (material-heard 1 above row h); numbered = sym e; fielded = sym f }
  row-heard n i (of_stage e f k m h) =
      record { refusal = Analysis; is = keyed k (rw (eq-eqb fields 7 m) (analysis-heard above row h)); numbered = sym e; fielded = sym f }
  row-heard n i (of_gas e f k h) = record { refusal = Shares; is = keyed k (gas-heard above row h); numbered = sym e; fielded = sym f }
  row-heard n i (of_section e f k h) = record { refusal = SectionTwice; is = keyed k (section-heard above row h); numbered = sym e; fielded = sym f }
  row-heard n i (of_wall f k h) =
      let a = wall-heard (stages_in above) (sections_in above) (walls_in above) reading n h in
      record { refusal = a.refusal; is = keyed k a.is; numbered = a.numbered; fielded = a.fielded ∙ sym f }

-- none is 11, and no field above 4 is named
pub record Few (k i : ℕ) : Type 0 where
  pub number : ¬ (k ≡ 11)
  pub field : i ≤ 4

pub row-few : {key : List ℕ} {fields : ℕ} {above : Sheet} {row : Row} {k i : ℕ} → RowFault key fields above row k i → Few k i
row-few (of_stage e f k m n) = record { number = λ z. omega arith; field = omega arith }
row-few (of_ware e f k n) = record { number = λ z. omega arith; field = omega arith }
row-few (of_setter e f k n) = record { number = λ z. omega arith; field = omega arith }
row-few (of_part e f k n) = record { number = λ z. omega arith; field = omega arith }
row-few (of_gas e f k n) = record { number = λ z. omega arith; field = omega arith }
row-few (of_section e f k t) = record { number = λ z. omega arith; field = omega arith }
row-few (of_wall f k (elsewhere e n)) = record { number = λ z. omega arith; field = omega arith }
row-few (of_wall f k (twice e l t r)) = record { number = λ z. omega arith; field = omega arith }
row-few (of_wall f k (colder e l t n c)) = record { number = λ z. omega arith; field = omega arith }
