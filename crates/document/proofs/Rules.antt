-- Each rule's test says what the plain rule says: a test that tells whether P, and then a refusal that asks for P.
-- Assumes nothing.
use Prim.Native.Nat.{ℕ, zero, suc, ◌+◌, ◌≤◌}
use mathlib.Core.Path.{◌≡◌, refl, sym, ap}
use mathlib.Core.List.{List, [], ◌∷◌}
use mathlib.Core.Logic.{◌⊎◌, inl, inr, ⊎_elim}
use mathlib.Core.Option.{Option, none, some}
use mathlib.Core.Bool.{Bool, true, false, ◌&&◌, ◌||◌, not}
use native.Mathlib.Omega.{arith}
use lib.ListN.{length}
use lib.Dec.{T, leb, eqb}
use lib.IntN.{ℤ, pos, negsuc, ◌+ℤ◌}
use lib.Signed.{le_z, lt_z, ◌≤ℤ◌, ◌<ℤ◌}
use borrow.Author.Tests.{leb-true, le-leb, eqb-true, eqb-false}
use Rattle.sheet.specs.declared.Refusal.{Refusal}
use Rattle.sheet.specs.Refusals.{number, field}
use Rattle.sheet.specs.declared.Refusal.TheVariants.{Analysis, Material, Shares, SectionTwice, NoSuchWall, ReadTwice, Missing, Colder, GasTotal}
use Rattle.sheet.specs.Shown.{same}
use Rattle.sheet.specs.Firing.{Stage, Section, Wall}
use Rattle.sheet.specs.Block.{sum, total_gas}
use Rattle.document.specs.Schema.{Row, at, within}
use Rattle.document.specs.Reader.{Sheet}
use Rattle.sheet.specs.Quantities.{gas_total, analysis_most}
use Rattle.document.specs.Tests.{alike, any, all, weigh, air_weights, counted, is_listed, is_read, when, ◌else◌, material-rule, gas-rule, analysis-rule, section_fault, wall_fault, whole_fault}
use Rattle.document.specs.Rules.{Some, Every, MaterialKeeps, GasKeeps, AnalysisKeeps, SameNumber, Listed, Staged, SameReading, WallKeeps, IsRead, AllRead, TotalKeeps}
use Rattle.document.specs.Order.{WallFault, elsewhere, twice, colder, WholeFault, total, missing}
use Rattle.document.proofs.Cases.{clash, both}

-- A TEST THAT TELLS WHETHER P
pub record Tests (t : Bool) (P : Type 0) : Type 0 where
  pub yes : t ≡ true → P
  pub back : P → t ≡ true

T_true : (t : Bool) → t ≡ true → T t
T_true true e = tt
T_true false e = clash cc

true_T : (t : Bool) → T t → t ≡ true
true_T true h = refl
true_T false h = absurd h

pub tests_le : (a b : ℤ) → Tests (le_z a b) (a ≤ℤ b)
tests_le a b = record { yes = λ e. record { le = T_true (le_z a b) e }; back = λ h. true_T (le_z a b) h.le }

pub tests_lt : (a b : ℤ) → Tests (lt_z a b) (a <ℤ b)
tests_lt a b = record { yes = λ e. record { lt = T_true (lt_z a b) e }; back = λ h. true_T (lt_z a b) h.lt }

tests_and : {a b : Bool} {P Q : Type 0} → Tests a P → Tests b Q → Tests (a && b) (P × Q)
tests_and {a = true} x y = record { yes = λ e. (x.yes refl, y.yes e); back = λ h. y.back h.1 }
tests_and {a = false} x y = record { yes = λ e. clash cc; back = λ h. x.back h.0 }

pub same-is : (a b : ℤ) → same a b ≡ true → a ≡ b
same-is (pos a) (pos b) e = let h = both (leb a b) (leb b a) e in let z : a ≡ b = omega (arith, leb-true a b h.0, leb-true b a h.1) in ap pos z
same-is (pos a) (negsuc b) e = clash cc
same-is (negsuc a) (pos b) e = clash cc
same-is (negsuc a) (negsuc b) e = let h = both (leb b a) (leb a b) e in let z : a ≡ b = omega (arith, leb-true b a h.0, leb-true a b h.1) in ap negsuc z

pub same_self : (a : ℤ) → same a a ≡ true
same_self (pos a) = rw (le-leb a a (omega arith))
same_self (negsuc a) = rw (le-leb a a (omega arith))

tests_same : (a b : ℤ) → Tests (same a b) (a ≡ b)
tests_same a b = record { yes = same-is a b; back = λ h. rw h (same_self b) }

module _ {A : Type 0} {f : A → Bool} {P : A → Type 0} (h : (x : A) → Tests (f x) (P x)) where
  any_some : (xs : List A) → any f xs ≡ true → Some P xs
  any_some [] e = clash cc
  any_some (x ∷ xs) e = here (f x) refl (any_some xs) e
    where
      here : (t : Bool) → f x ≡ t → (any f xs ≡ true → Some P xs) → (t || any f xs) ≡ true → P x ⊎ Some P xs
      here true q k e = inl ((h x).yes q)
      here false q k e = inr (k e)

  some-any : (xs : List A) → Some P xs → any f xs ≡ true
  some-any [] s = absurd s
  some-any (x ∷ xs) s = ⊎_elim (λ p. rw ((h x).back p)) (λ p. here (f x) (some-any xs p)) s
    where
      here : (t : Bool) → any f xs ≡ true → (t || any f xs) ≡ true
      here true e = refl
      here false e = e

  tests_any : (xs : List A) → Tests (any f xs) (Some P xs)
  tests_any xs = record { yes = any_some xs; back = some-any xs }

  tests_all : (xs : List A) → Tests (all f xs) (Every P xs)
  tests_all [] = record { yes = λ e. tt; back = λ e. refl }
  tests_all (x ∷ xs) = tests_and (h x) (tests_all xs)

-- the numbers from 1 to k
module _ {f : ℤ → Bool} {P : ℤ → Type 0} (h : (z : ℤ) → Tests (f z) (P z)) where
  counted-all : (k : ℕ) → all f (counted k) ≡ true → (j : ℕ) → 1 ≤ j → j ≤ k → P (pos j)
  counted-all zero e j a b = absurd (omega arith)
  counted-all (suc k) e j a b =
      let s = both (f (pos (suc k))) (all f (counted k)) e in
      here s.0 (λ c. counted-all k s.1 j a c) (eqb j (suc k)) refl
    where
      here : f (pos (suc k)) ≡ true → (j ≤ k → P (pos j)) → (t : Bool) → eqb j (suc k) ≡ t → P (pos j)
      here last below true q = rw (eqb-true j (suc k) q) ((h (pos (suc k))).yes last)
      here last below false q = below (omega (arith, eqb-false j (suc k) q))

  all-counted : (k : ℕ) → ((j : ℕ) → 1 ≤ j → j ≤ k → P (pos j)) → all f (counted k) ≡ true
  all-counted zero p = refl
  all-counted (suc k) p = rw ((h (pos (suc k))).back (p (suc k) (omega arith) (omega arith))) (all-counted k (λ j a b. p j a (omega arith)))

  tests_counted : (k : ℕ) → Tests (all f (counted k)) ((j : ℕ) → 1 ≤ j → j ≤ k → P (pos j))
  tests_counted k = record { yes = counted-all k; back = all-counted k }

-- A RULE THAT ASKS FOR P
pub record Asks (o : Option Refusal) (P : Type 0) : Type 0 where
  pub to : o ≡ none → P
  pub from : P → o ≡ none

asks-not : {t : Bool} {P : Type 0} (r : Refusal) → Tests t P → Asks (when t r) (¬ P)
asks-not {t = true} r h = record { to = λ e. clash cc; from = λ n. absurd (n (h.yes refl)) }
asks-not {t = false} r h = record { to = λ e p. let z = h.back p in clash cc; from = λ n. refl }

asks : {t : Bool} {P : Type 0} (r : Refusal) → Tests t P → Asks (when (not t) r) P
asks {t = true} r h = record { to = λ e. h.yes refl; from = λ p. refl }
asks {t = false} r h = record { to = λ e. clash cc; from = λ p. let z = h.back p in clash cc }

asks_else : {a b : Option Refusal} {P Q : Type 0} → Asks a P → Asks b Q → Asks (a else b) (P × Q)
asks_else {a = none} x y = record { to = λ e. (x.to refl, y.to e); from = λ h. y.from h.1 }
asks_else {a = some r} x y = record { to = λ e. clash cc; from = λ h. x.from h.0 }

-- THE RULES
pub material-asks : (i : ℕ) (seen : Sheet) (row : Row) → Asks (material-rule i seen row) (MaterialKeeps i row)
material-asks i seen row = here (same (pos 0) (at row i)) (same (pos 0) (at row (i + 1))) (tests_same (pos 0) (at row i)) (tests_same (pos 0) (at row (i + 1)))
  where
    here : (a b : Bool) → Tests a (pos 0 ≡ at row i) → Tests b (pos 0 ≡ at row (i + 1)) → Asks (when (alike a b) (Material (i + 1))) (MaterialKeeps i row)
    here true true x y = record {
      to = λ e. clash cc;
      from = λ h. absurd (⊎_elim (λ p. p.1 (sym (y.yes refl))) (λ p. p.0 (sym (x.yes refl))) h);
    }
    here true false x y = record { to = λ e. inl (sym (x.yes refl), λ p. let z = y.back (sym p) in clash cc); from = λ h. refl }
    here false true x y = record { to = λ e. inr (λ p. let z = x.back (sym p) in clash cc, sym (y.yes refl)); from = λ h. refl }
    here false false x y = record {
      to = λ e. clash cc;
      from = λ h. ⊎_elim (λ p. let z = x.back (sym p.0) in clash cc) (λ p. let z = y.back (sym p.1) in clash cc) h;
    }

pub gas-asks : (seen : Sheet) (row : Row) → Asks (gas-rule seen row) (GasKeeps row)
gas-asks seen row = asks Shares (tests_and (tests_same (sum (λ z. z) row.numbers) (pos 10000)) (tests_lt (pos 0) (weigh air_weights row.numbers)))

-- 14
pub analysis-asks : (seen : Sheet) (row : Row) → Asks (analysis-rule seen row) (AnalysisKeeps row)
analysis-asks seen row = asks-not Analysis (tests_lt (pos analysis_most) (at row 3 +ℤ at row 4 +ℤ at row 5))

pub listed_test : (sections : List Section) (number : ℤ) → Tests (is_listed sections number) (Some (λ x. x.number ≡ number) sections)
listed_test sections number = tests_any (λ x. tests_same x.number number) sections

pub section-asks : (above : List Section) (x : Section) → Asks (section_fault above x) (¬ Some (SameNumber x) above)
section-asks above x = asks-not SectionTwice (listed_test above x.number)

pub read_test : (walls : List Wall) (section stage : ℤ) → Tests (is_read walls section stage) (IsRead walls section stage)
read_test walls section stage = tests_any (λ w. tests_and (tests_same w.section section) (tests_same w.stage stage)) walls

-- OF A READING, and what is heard where more than one rule is broken: 6 before 7 before 9
tests_no : {t : Bool} {P : Type 0} → Tests t P → ¬ P → t ≡ false
tests_no {t = true} h n = absurd (n (h.yes refl))
tests_no {t = false} h n = refl

tests_yes : {t : Bool} {P : Type 0} → Tests t P → t ≡ false → ¬ P
tests_yes h e p = let z = h.back p in clash cc

module _ (stages : List Stage) (sections : List Section) (above : List Wall) (w : Wall) where
  listed : Tests (is_listed sections w.section) (Listed sections w)
  listed = listed_test sections w.section

  beyond : Tests (lt_z (pos (length stages)) w.stage) (pos (length stages) <ℤ w.stage)
  beyond = tests_lt (pos (length stages)) w.stage

  again : Tests (is_read above w.section w.stage) (Some (SameReading w) above)
  again = read_test above w.section w.stage

  cold : Tests (lt_z w.surface w.air) (w.surface <ℤ w.air)
  cold = tests_lt w.surface w.air

  pub wall-asks : Asks (wall_fault stages sections above w) (WallKeeps stages sections above w)
  wall-asks =
      asks_else (asks NoSuchWall listed)
      (asks_else (asks-not NoSuchWall beyond) (asks_else (asks-not ReadTwice again) (asks-not Colder cold)))

  -- whatever is said of a reading is wrong with it
  pub wall-said : (x : Refusal) → wall_fault stages sections above w ≡ some x → WallFault stages sections above w (number x)
  wall-said x e = here (is_listed sections w.section) refl (lt_z (pos (length stages)) w.stage) refl
      (is_read above w.section w.stage) refl (lt_z w.surface w.air) refl e
    where
      here : (a : Bool) → is_listed sections w.section ≡ a → (b : Bool) → lt_z (pos (length stages)) w.stage ≡ b
          → (c : Bool) → is_read above w.section w.stage ≡ c → (d : Bool) → lt_z w.surface w.air ≡ d
          → (when (not a) NoSuchWall else when b NoSuchWall else when c ReadTwice else when d Colder) ≡ some x
          → WallFault stages sections above w (number x)
      here false p b q c r d t e = let z : x ≡ NoSuchWall = cc in elsewhere (ap number z) (inl (tests_yes listed p))
      here true p true q c r d t e = let z : x ≡ NoSuchWall = cc in elsewhere (ap number z) (inr (beyond.yes q))
      here true p false q true r d t e = let z : x ≡ ReadTwice = cc in twice (ap number z) (listed.yes p) (tests_yes beyond q) (again.yes r)
      here true p false q false r true t e =
          let z : x ≡ Colder = cc in
          colder (ap number z) (listed.yes p) (tests_yes beyond q) (tests_yes again r) (cold.yes t)
      here true p false q false r false t e = clash cc

  pub unlisted-heard : ¬ Listed sections w → wall_fault stages sections above w ≡ some NoSuchWall
  unlisted-heard n = rw (tests_no listed n)

  pub unstaged-heard : Listed sections w → pos (length stages) <ℤ w.stage → wall_fault stages sections above w ≡ some NoSuchWall
  unstaged-heard l h = rw (listed.back l, beyond.back h)

  pub twice-heard : Listed sections w → Staged stages w → Some (SameReading w) above → wall_fault stages sections above w ≡ some ReadTwice
  twice-heard l s r = rw (listed.back l, tests_no beyond s, again.back r)

  pub colder-heard : Listed sections w → Staged stages w → ¬ Some (SameReading w) above → w.surface <ℤ w.air → wall_fault stages sections above w ≡ some Colder
  colder-heard l s n c = rw (listed.back l, tests_no beyond s, tests_no again n, cold.back c)

-- OF THE WHOLE SHEET, and 10 before 8
module _ (stages : List Stage) (sections : List Section) (walls : List Wall) where
  total_test : Tests (within gas_total (total_gas stages)) (TotalKeeps stages)
  total_test = let total = total_gas stages in tests_and (tests_le gas_total.least total) (tests_le total gas_total.greatest)

  all-read_test : Tests (all (λ x. all (is_read walls x.number) (counted (length stages))) sections) (AllRead stages sections walls)
  all-read_test = tests_all (λ x. tests_counted (read_test walls x.number) (length stages)) sections

  pub whole-asks : Asks (whole_fault stages sections walls) (TotalKeeps stages × AllRead stages sections walls)
  whole-asks = asks_else (asks GasTotal total_test) (asks Missing all-read_test)

  pub whole-said : (x : Refusal) → whole_fault stages sections walls ≡ some x → WholeFault stages sections walls (number x)
  whole-said x e = here (within gas_total (total_gas stages)) refl _ refl e
    where
      here : (a : Bool) → within gas_total (total_gas stages) ≡ a
          → (b : Bool) → all (λ y. all (is_read walls y.number) (counted (length stages))) sections ≡ b
          → (when (not a) GasTotal else when (not b) Missing) ≡ some x → WholeFault stages sections walls (number x)
      here false p b q e = let z : x ≡ GasTotal = cc in total (ap number z) (tests_yes total_test p)
      here true p false q e = let z : x ≡ Missing = cc in missing (ap number z) (total_test.yes p) (tests_yes all-read_test q)
      here true p true q e = clash cc

  -- and of no line, so of no field
  pub whole-field : (x : Refusal) → whole_fault stages sections walls ≡ some x → field x ≡ 0
  whole-field x e = here (within gas_total (total_gas stages)) (all (λ y. all (is_read walls y.number) (counted (length stages))) sections) e
    where
      here : (a b : Bool) → (when (not a) GasTotal else when (not b) Missing) ≡ some x → field x ≡ 0
      here false b e = let z : x ≡ GasTotal = cc in ap field z
      here true false e = let z : x ≡ Missing = cc in ap field z
      here true true e = clash cc

  pub total-heard : ¬ TotalKeeps stages → whole_fault stages sections walls ≡ some GasTotal
  total-heard n = rw (tests_no total_test n)

  pub missing-heard : TotalKeeps stages → ¬ AllRead stages sections walls → whole_fault stages sections walls ≡ some Missing
  missing-heard t n = rw (total_test.back t, tests_no all-read_test n)
