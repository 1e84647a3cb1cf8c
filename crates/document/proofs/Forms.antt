-- A sheet's lines, whatever their rules are: under each key its rows, every one in its ranges, one of them or as many as the
-- count may be. Assumes nothing.
use Prim.Native.Nat.{ℕ, ◌≤◌}
use mathlib.Core.Path.{◌≡◌, refl, sym, subst, ◌∙◌}
use mathlib.Core.List.{List, [], ◌∷◌, ◌++◌, map, append-nil}
use mathlib.Core.Bool.{Bool, true, false, cond, not, ◌&&◌}
use native.Mathlib.Omega.{arith}
use lib.ListN.{length}
use lib.Seq.{append_snoc}
use borrow.Author.Tests.{eq-eqb}
use Rattle.document.specs.Schema.{Line, Row, fits}
use Rattle.document.specs.Reader.{Filled, Sheet, same_key, rows_of, Paragraph, one, many, key_of, RowsKeep, ParagraphKeeps, Along, ParagraphsKeep}
use Rattle.document.specs.Tests.{free}
use Rattle.document.specs.Editions.{unruled}
use Rattle.document.specs.Rules.{Every}
use Rattle.document.proofs.Cases.{clash, both}
use Rattle.document.proofs.Above.{Same}
use Rattle.document.proofs.Lists.{every_with}
use Rattle.document.proofs.Sizes.{count_in}

-- THE ROWS OF A PART
pub record OneRow (l : Line) (rows : List Row) : Type 0 where
  pub row : Row
  pub is : rows ≡ row ∷ []
  pub fit : fits l row ≡ true

pub record ManyRows (l : Line) (least most : ℕ) (rows : List Row) : Type 0 where
  pub enough : least ≤ length rows
  pub few : length rows ≤ most
  pub fit : Every (λ r. fits l r ≡ true) rows

abbrev pub ParagraphForm : Paragraph → List Row → Type 0
ParagraphForm (one l rule) rows = OneRow l rows
ParagraphForm (many key a b l rule) rows = ManyRows l a b rows

record Form (p : Paragraph) (f : Filled) : Type 0 where
  key : f.key ≡ key_of p
  rows : ParagraphForm p f.rows

rows_fit : (l : Line) (seen : Sheet) (above rows : List Row) → RowsKeep l free seen above rows → Every (λ r. fits l r ≡ true) rows
rows_fit l seen above [] k = tt
rows_fit l seen above (row ∷ rows) k = (k.0, rows_fit l seen (above ++ (row ∷ [])) rows k.2)

one-row : (l : Line) (rows : List Row) → length rows ≡ 1 → Every (λ r. fits l r ≡ true) rows → OneRow l rows
one-row l [] n k = absurd (omega arith)
one-row l (row ∷ []) n k = record { row = row; is = refl; fit = k.0 }
one-row l (row ∷ next ∷ rows) n k = absurd (omega arith)

paragraph_form : (p : Paragraph) (seen : Sheet) (f : Filled) → ParagraphKeeps (unruled p) seen f → Form p f
paragraph_form (one l rule) seen f k = record { key = k.0; rows = one-row l f.rows k.1 (rows_fit l seen [] f.rows k.2) }
paragraph_form (many key a b l rule) seen f k =
    let count = count_in key a b f.rows k.1 in
    record { key = k.0; rows = record { enough = count.0; few = count.1; fit = rows_fit l seen [] f.rows k.2 } }

-- THE PARTS OF A SHEET BY THEIR KEYS, where the keys differ
abbrev pub Keyed : List Paragraph → Sheet → Type 0
Keyed [] [] = Unit {0}
Keyed [] (f ∷ fs) = ⊥
Keyed (p ∷ ps) [] = ⊥
Keyed (p ∷ ps) (f ∷ fs) = (f.key ≡ key_of p) × Keyed ps fs

abbrev pub is_new : List ℕ → List Paragraph → Bool
is_new key [] = true
is_new key (p ∷ ps) = not (same_key (key_of p) key) && is_new key ps

abbrev pub distinct : List Paragraph → Bool
distinct [] = true
distinct (p ∷ ps) = is_new (key_of p) ps && distinct ps

pub same_key_refl : (k : List ℕ) → same_key k k ≡ true
same_key_refl [] = refl
same_key_refl (b ∷ k) = rw (eq-eqb b b refl) (same_key_refl k)

is_new_lem : (key : List ℕ) (ps : List Paragraph) → is_new key ps ≡ true → Every (λ p. same_key (key_of p) key ≡ false) ps
is_new_lem key [] n = tt
is_new_lem key (p ∷ ps) n = here (same_key (key_of p) key) refl (is_new_lem key ps) n
  where
    here : (t : Bool) → same_key (key_of p) key ≡ t → (is_new key ps ≡ true → Every (λ q. same_key (key_of q) key ≡ false) ps)
        → (not t && is_new key ps) ≡ true → Every (λ q. same_key (key_of q) key ≡ false) (p ∷ ps)
    here true q rest n = clash cc
    here false q rest n = (q, rest n)

record Keys (p : Paragraph) (ps : List Paragraph) (f : Filled) : Type 0 where
  own : same_key (key_of p) f.key ≡ true
  others : Every (λ q. same_key (key_of q) f.key ≡ false) ps
  distinct : distinct ps ≡ true

keys : (p : Paragraph) (ps : List Paragraph) (f : Filled) → distinct (p ∷ ps) ≡ true → f.key ≡ key_of p → Keys p ps f
keys p ps f n e =
    let b = both (is_new (key_of p) ps) (distinct ps) n in
    record { own = rw e (same_key_refl (key_of p)); others = rw e (is_new_lem (key_of p) ps b.0); distinct = b.1 }

-- what stands above a key
abbrev pub above_key : List ℕ → Sheet → Sheet
above_key k [] = []
above_key k (f ∷ fs) = cond (same_key k f.key) [] (f ∷ above_key k fs)

-- what holds of each paragraph, given what stands above it, holds of the rows under its key, given what stands above the key
module _ (Q : Paragraph → Sheet → List Row → Type 0) where
  abbrev pub AtKey : Sheet → Sheet → Paragraph → Type 0
  AtKey seen sheet p = Q p (seen ++ above_key (key_of p) sheet) (rows_of (key_of p) sheet)

  moved : (p : Paragraph) {s t : Sheet} {a b : List Row} → s ≡ t → a ≡ b → Same (Q p s a) (Q p t b)
  moved p {s = s} {b = b} d e = record {
    to = λ h. subst (λ (x : Sheet). Q p x b) d (subst (λ (x : List Row). Q p s x) e h);
    from = λ h. subst (λ (x : List Row). Q p s x) (sym e) (subst (λ (x : Sheet). Q p x b) (sym d) h);
  }

  own : (p : Paragraph) (seen : Sheet) (f : Filled) (fs : Sheet) → same_key (key_of p) f.key ≡ true → Same (Q p seen f.rows) (AtKey seen (f ∷ fs) p)
  own p seen f fs o = moved p (rw (o, append-nil seen)) (rw o)

  other : (p : Paragraph) (seen : Sheet) (f : Filled) (fs : Sheet) → same_key (key_of p) f.key ≡ false
      → Same (AtKey (seen ++ (f ∷ [])) fs p) (AtKey seen (f ∷ fs) p)
  other p seen f fs o = moved p (rw o (append_snoc seen f (above_key (key_of p) fs))) (rw o)

  pub by_key : (ps : List Paragraph) (seen sheet : Sheet) → distinct ps ≡ true → Keyed ps sheet
      → Same (Along (λ p s f. Q p s f.rows) ps seen sheet) (Every (AtKey seen sheet) ps)
  by_key [] seen [] n e = record { to = λ k. tt; from = λ k. tt }
  by_key [] seen (f ∷ fs) n e = absurd e
  by_key (p ∷ ps) seen [] n e = absurd e
  by_key (p ∷ ps) seen (f ∷ fs) n e =
      let k = keys p ps f n e.0 in
      let first = own p seen f fs k.own in
      let rest = by_key ps (seen ++ (f ∷ [])) fs k.distinct e.1 in
      record {
        to = λ h. (first.to h.0, every_with (λ q o. (other q seen f fs o).to) ps k.others (rest.to h.1));
        from = λ h. (first.from h.0, rest.from (every_with (λ q o. (other q seen f fs o).from) ps k.others h.1));
      }

-- A SHEET THAT HAS THE FORM OF ITS PARTS, whatever their rules are
pub record FormOf (ps : List Paragraph) (sheet : Sheet) : Type 0 where
  pub keyed : Keyed ps sheet
  pub each : Every (λ p. ParagraphForm p (rows_of (key_of p) sheet)) ps

pub form_of : (ps : List Paragraph) (sheet : Sheet) → distinct ps ≡ true → ParagraphsKeep (map unruled ps) [] sheet → FormOf ps sheet
form_of ps sheet n k =
    let f = forms ps [] sheet k in
    record { keyed = f.0; each = (by_key (λ p seen. ParagraphForm p) ps [] sheet n f.0).to f.1 }
  where
    forms : (qs : List Paragraph) (seen s : Sheet) → ParagraphsKeep (map unruled qs) seen s
        → Keyed qs s × Along (λ p above f. ParagraphForm p f.rows) qs seen s
    forms [] seen [] k = (tt, tt)
    forms [] seen (f ∷ fs) k = absurd k
    forms (q ∷ qs) seen [] k = absurd k
    forms (q ∷ qs) seen (f ∷ fs) k =
        let a = paragraph_form q seen f k.0 in
        let b = forms qs (seen ++ (f ∷ [])) fs k.1 in
        ((a.key, b.0), (a.rows, b.1))

-- and it is its rows under its keys
abbrev pub under : Sheet → Paragraph → Filled
under sheet p = record { key = key_of p; rows = rows_of (key_of p) sheet }

pub refilled : (ps : List Paragraph) (sheet : Sheet) → distinct ps ≡ true → Keyed ps sheet → map (under sheet) ps ≡ sheet
refilled [] [] n e = refl
refilled [] (f ∷ fs) n e = absurd e
refilled (p ∷ ps) [] n e = absurd e
refilled (p ∷ ps) (f ∷ fs) n e =
    let k = keys p ps f n e.0 in
    rw (k.own, ← e.0, passed ps k.others, refilled ps fs k.distinct e.1)
  where
    passed : (qs : List Paragraph) → Every (λ q. same_key (key_of q) f.key ≡ false) qs → map (under (f ∷ fs)) qs ≡ map (under fs) qs
    passed [] o = refl
    passed (q ∷ qs) o = rw (o.0, passed qs o.1)

-- SEEN SO FAR AND WHOLE: under a key that does not stand at or below another one, what is seen above it is all
abbrev absent : List ℕ → List Paragraph → Bool
absent k [] = true
absent k (p ∷ ps) = not (same_key k (key_of p)) && absent k ps

abbrev pub settled : List ℕ → List ℕ → List Paragraph → Bool
settled k j [] = true
settled k j (p ∷ ps) = cond (same_key j (key_of p)) (absent k (p ∷ ps)) (settled k j ps)

no_rows : (k : List ℕ) (ps : List Paragraph) (sheet : Sheet) → Keyed ps sheet → absent k ps ≡ true → rows_of k sheet ≡ []
no_rows k [] [] e h = refl
no_rows k [] (f ∷ fs) e h = absurd e
no_rows k (p ∷ ps) [] e h = absurd e
no_rows k (p ∷ ps) (f ∷ fs) e h = here (same_key k f.key) (no_rows k ps fs e.1) (rw (← e.0) at h)
  where
    here : (t : Bool) → (absent k ps ≡ true → rows_of k fs ≡ []) → (not t && absent k ps) ≡ true → cond t f.rows (rows_of k fs) ≡ []
    here true rest h = clash cc
    here false rest h = rest h

pub seen_above : (k j : List ℕ) (ps : List Paragraph) (sheet more : Sheet) → Keyed ps sheet → rows_of k more ≡ [] → settled k j ps ≡ true
    → rows_of k (above_key j sheet ++ more) ≡ rows_of k sheet
seen_above k j [] [] more e m h = m
seen_above k j [] (f ∷ fs) more e m h = absurd e
seen_above k j (p ∷ ps) [] more e m h = absurd e
seen_above k j (p ∷ ps) (f ∷ fs) more e m h =
    here (same_key j f.key) (no_rows k (p ∷ ps) (f ∷ fs) e) (seen_above k j ps fs more e.1 m)
    (subst (λ (x : List ℕ). cond (same_key j x) (absent k (p ∷ ps)) (settled k j ps) ≡ true) (sym e.0) h)
  where
    here : (t : Bool) → (absent k (p ∷ ps) ≡ true → rows_of k (f ∷ fs) ≡ []) → (settled k j ps ≡ true → rows_of k (above_key j fs ++ more) ≡ rows_of k fs)
        → cond t (absent k (p ∷ ps)) (settled k j ps) ≡ true → rows_of k (cond t [] (f ∷ above_key j fs) ++ more) ≡ rows_of k (f ∷ fs)
    here true none rest h = m ∙ sym (none h)
    here false none rest h = rw (rest h)

-- .. and under the key itself only those are seen that are added
pub seen_own : (j : List ℕ) (sheet more : Sheet) → rows_of j (above_key j sheet ++ more) ≡ rows_of j more
seen_own j [] more = refl
seen_own j (f ∷ fs) more = here (same_key j f.key) refl (seen_own j fs more)
  where
    here : (t : Bool) → same_key j f.key ≡ t → rows_of j (above_key j fs ++ more) ≡ rows_of j more
        → rows_of j (cond t [] (f ∷ above_key j fs) ++ more) ≡ rows_of j more
    here true q rest = refl
    here false q rest = rw q rest
