-- Form and rules apart: a sheet keeps its document where its rows fit and every row keeps its rule, given the rows above it.
-- Assumes nothing.
use mathlib.Core.Path.{◌≡◌, refl, sym, subst}
use mathlib.Core.List.{List, [], ◌∷◌, ◌++◌, map, map-append}
use mathlib.Core.Logic.{⊎_elim}
use mathlib.Core.Option.{none}
use Rattle.document.specs.Schema.{Line, Row}
use Rattle.document.specs.Reader.{Filled, Sheet, Rule, Paragraph, one, many, line_of, rule_of, filled, Along, RowsKeep, ParagraphKeeps, ParagraphsKeep}
use Rattle.document.specs.Tests.{free}
use Rattle.document.specs.Editions.{unruled}
use Rattle.document.specs.Rules.{Some, Every, NoTwo}
use Rattle.document.proofs.Lists.{every_imp, every_with, some-before, some-last, some-either}

-- each says the other
pub record Same (A B : Type 0) : Type 0 where
  pub to : A → B
  pub from : B → A

-- WHAT HOLDS OF EVERY ROW, given those above it
module _ {A : Type 0} where
  abbrev pub Each : (List A → A → Type 0) → List A → List A → Type 0
  Each P above [] = Unit {0}
  Each P above (x ∷ xs) = P above x × Each P (above ++ (x ∷ [])) xs

  pub each_imp : {P Q : List A → A → Type 0} → ((above : List A) (x : A) → P above x → Q above x) → (above xs : List A) → Each P above xs → Each Q above xs
  each_imp h above [] k = tt
  each_imp h above (x ∷ xs) k = (h above x k.0, each_imp h (above ++ (x ∷ [])) xs k.1)

  pub each_with : {P Q R : List A → A → Type 0} → ((above : List A) (x : A) → P above x → Q above x → R above x) → (above xs : List A)
      → Each P above xs → Each Q above xs → Each R above xs
  each_with h above [] k m = tt
  each_with h above (x ∷ xs) k m = (h above x k.0 m.0, each_with h (above ++ (x ∷ [])) xs k.1 m.1)

  -- what does not look above holds of all
  pub each-every : {P : List A → A → Type 0} {Q : A → Type 0} → ((above : List A) (x : A) → P above x → Q x) → (above xs : List A) → Each P above xs
      → Every Q xs
  each-every h above [] k = tt
  each-every h above (x ∷ xs) k = (h above x k.0, each-every h (above ++ (x ∷ [])) xs k.1)

  pub every-each : {P : A → Type 0} {Q : List A → A → Type 0} → ((above : List A) (x : A) → P x → Q above x) → (above xs : List A) → Every P xs
      → Each Q above xs
  every-each h above [] k = tt
  every-each h above (x ∷ xs) k = (h above x k.0, every-each h (above ++ (x ∷ [])) xs k.1)

  -- none above is R to a row, whichever row it is: no two are
  module _ (R : A → A → Type 0) where
    each-apart : (above xs : List A) → Each (λ a x. ¬ Some (R x) a) above xs → Every (λ x. ¬ Some (R x) above) xs × NoTwo R xs
    each-apart above [] k = (tt, tt)
    each-apart above (x ∷ xs) k =
        let m = each-apart (above ++ (x ∷ [])) xs k.1 in
        ((k.0, every_imp (λ y n s. n (some-before (R y) x above s)) xs m.0), (every_imp (λ y n r. n (some-last (R y) x above r)) xs m.0, m.1))

    apart-each : (above xs : List A) → Every (λ x. ¬ Some (R x) above) xs → NoTwo R xs → Each (λ a x. ¬ Some (R x) a) above xs
    apart-each above [] k m = tt
    apart-each above (x ∷ xs) k m =
        (k.0, apart-each (above ++ (x ∷ [])) xs (every_with (λ y n o s. ⊎_elim n o (some-either (R y) x above s)) xs k.1 m.0) m.1)

    pub no_two : (xs : List A) → Each (λ a x. ¬ Some (R x) a) [] xs → NoTwo R xs
    no_two xs k = (each-apart [] xs k).1

    pub two-never : (xs : List A) → NoTwo R xs → Each (λ a x. ¬ Some (R x) a) [] xs
    two-never xs m = apart-each [] xs (nothing xs) m
      where
        nothing : (ys : List A) → Every (λ x. ¬ Some (R x) []) ys
        nothing [] = tt
        nothing (y ∷ ys) = (λ s. s, nothing ys)

-- of the things that a list was made from
module _ {A B : Type 0} (to : A → B) (P : List B → B → Type 0) where
  pub each-made : (above xs : List A) → Same (Each (λ a x. P (map to a) (to x)) above xs) (Each P (map to above) (map to xs))
  each-made above [] = record { to = λ k. k; from = λ k. k }
  each-made above (x ∷ xs) =
      let rest = each-made (above ++ (x ∷ [])) xs in
      let e : map to (above ++ (x ∷ [])) ≡ map to above ++ (to x ∷ []) = map-append to above (x ∷ []) in
      record {
        to = λ k. (k.0, subst (λ (a : List B). Each P a (map to xs)) e (rest.to k.1));
        from = λ k. (k.0, rest.from (subst (λ (a : List B). Each P a (map to xs)) (sym e) k.1));
      }

-- THE RULES OF A SHEET, without form and range
pub record RowsRuled (p : Paragraph) (seen : Sheet) (rows : List Row) : Type 0 where
  pub each : Each (λ above row. rule_of p (seen ++ filled (line_of p) above) row ≡ none) [] rows

abbrev pub Ruled : List Paragraph → Sheet → Sheet → Type 0
Ruled = Along (λ p seen f. RowsRuled p seen f.rows)

module _ (l : Line) (rule : Rule) (seen : Sheet) where
  rows_split : (above rows : List Row) → RowsKeep l rule seen above rows
      → RowsKeep l free seen above rows × Each (λ a row. rule (seen ++ filled l a) row ≡ none) above rows
  rows_split above [] k = (tt, tt)
  rows_split above (row ∷ rows) k = let m = rows_split (above ++ (row ∷ [])) rows k.2 in ((k.0, refl, m.0), (k.1, m.1))

  rows_join : (above rows : List Row) → RowsKeep l free seen above rows → Each (λ a row. rule (seen ++ filled l a) row ≡ none) above rows
      → RowsKeep l rule seen above rows
  rows_join above [] k m = tt
  rows_join above (row ∷ rows) k m = (k.0, m.0, rows_join (above ++ (row ∷ [])) rows k.2 m.1)

pub paragraph-split : (p : Paragraph) (seen : Sheet) (f : Filled) → ParagraphKeeps p seen f → ParagraphKeeps (unruled p) seen f × RowsRuled p seen f.rows
paragraph-split (one l rule) seen f k = let s = rows_split l rule seen [] f.rows k.2 in ((k.0, k.1, s.0), record { each = s.1 })
paragraph-split (many key a b l rule) seen f k = let s = rows_split l rule seen [] f.rows k.2 in ((k.0, k.1, s.0), record { each = s.1 })

paragraph_join : (p : Paragraph) (seen : Sheet) (f : Filled) → ParagraphKeeps (unruled p) seen f → RowsRuled p seen f.rows → ParagraphKeeps p seen f
paragraph_join (one l rule) seen f k m = (k.0, k.1, rows_join l rule seen [] f.rows k.2 m.each)
paragraph_join (many key a b l rule) seen f k m = (k.0, k.1, rows_join l rule seen [] f.rows k.2 m.each)

pub paragraphs_split : (ps : List Paragraph) (seen sheet : Sheet) → ParagraphsKeep ps seen sheet
    → ParagraphsKeep (map unruled ps) seen sheet × Ruled ps seen sheet
paragraphs_split [] seen [] k = (tt, tt)
paragraphs_split [] seen (f ∷ fs) k = absurd k
paragraphs_split (p ∷ ps) seen [] k = absurd k
paragraphs_split (p ∷ ps) seen (f ∷ fs) k =
    let a = paragraph-split p seen f k.0 in
    let b = paragraphs_split ps (seen ++ (f ∷ [])) fs k.1 in
    ((a.0, b.0), (a.1, b.1))

pub paragraphs_join : (ps : List Paragraph) (seen sheet : Sheet) → ParagraphsKeep (map unruled ps) seen sheet → Ruled ps seen sheet
    → ParagraphsKeep ps seen sheet
paragraphs_join [] seen [] k m = tt
paragraphs_join [] seen (f ∷ fs) k m = absurd m
paragraphs_join (p ∷ ps) seen [] k m = absurd m
paragraphs_join (p ∷ ps) seen (f ∷ fs) k m = (paragraph_join p seen f k.0 m.0, paragraphs_join ps (seen ++ (f ∷ [])) fs k.1 m.1)
