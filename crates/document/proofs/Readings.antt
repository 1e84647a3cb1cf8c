-- As many sections times stages as an accepted sheet has, it has readings: so where they pass 48, the sheet is refused. Assumes nothing.
use Prim.Native.Nat.{ℕ, zero, suc, ◌+◌, ◌*◌, ◌≤◌}
use mathlib.Core.Path.{◌≡◌, refl, sym, ap, ◌∙◌}
use mathlib.Core.List.{List, [], ◌∷◌}
use mathlib.Core.Logic.{inl, inr, ⊎_elim}
use native.Mathlib.Omega.{arith}
use lib.ListN.{length}
use lib.IntN.{ℤ, pos, nat_abs}
use Rattle.sheet.specs.Firing.{Section, Wall}
use Rattle.sheet.specs.Quantities.{walls_most}
use Rattle.document.specs.Reader.{Sheet, Good, read_of}
use Rattle.document.specs.Editions.{document}
use Rattle.document.specs.Rules.{Some, Every, NoTwo, SameNumber}
use Rattle.document.specs.Rows.{firing_of}
use Rattle.document.proofs.Editions.{firing_lawful}

-- a reading at a section in a stage
abbrev Cell : ℤ → ℤ → Wall → Type 0
Cell s t w = (w.section ≡ s) × (w.stage ≡ t)

-- one reading taken away: those of other cells are still there
record Taken (s t : ℤ) (ws : List Wall) : Type 0 where
  rest : List Wall
  fewer : length ws ≡ suc (length rest)
  others : (s' t' : ℤ) → ¬ ((s' ≡ s) × (t' ≡ t)) → Some (Cell s' t') ws → Some (Cell s' t') rest

taken : (s t : ℤ) (ws : List Wall) → Some (Cell s t) ws → Taken s t ws
taken s t [] h = absurd h
taken s t (w ∷ ws) (inl e) = record {
  rest = ws;
  fewer = refl;
  others = λ s' t' n h. ⊎_elim (λ (d : Cell s' t' w). absurd (n (sym d.0 ∙ e.0, sym d.1 ∙ e.1))) (λ (r : Some (Cell s' t') ws). r) h;
}
taken s t (w ∷ ws) (inr h) =
    let r = taken s t ws h in
    record {
      rest = w ∷ r.rest;
      fewer = ap suc r.fewer;
      others = λ s' t' n k. ⊎_elim (λ (d : Cell s' t' w). inl d) (λ (q : Some (Cell s' t') ws). inr (r.others s' t' n q)) k;
    }

-- all readings of a section taken away
record Stripped (s : ℤ) (n : ℕ) (ws : List Wall) : Type 0 where
  rest : List Wall
  fewer : length ws ≡ n + length rest
  others : (s' t' : ℤ) → ¬ (s' ≡ s) → Some (Cell s' t') ws → Some (Cell s' t') rest

stripped : (s : ℤ) (n : ℕ) (ws : List Wall) → ((j : ℕ) → 1 ≤ j → j ≤ n → Some (Cell s (pos j)) ws) → Stripped s n ws
stripped s zero ws h = record { rest = ws; fewer = omega arith; others = λ s' t' n k. k }
stripped s (suc n) ws h =
    let a = taken s (pos (suc n)) ws (h (suc n) (omega arith) (omega arith)) in
    let b = stripped s n a.rest (λ j p q. a.others s (pos j) (λ e. let d : j ≡ suc n = ap nat_abs e.1 in omega arith) (h j p (omega arith))) in
    record { rest = b.rest; fewer = omega (arith, a.fewer, b.fewer); others = λ s' t' d k. b.others s' t' d (a.others s' t' (λ e. d e.0) k) }

abbrev ReadIn : ℕ → List Wall → Section → Type 0
ReadIn n ws r = (j : ℕ) → 1 ≤ j → j ≤ n → Some (Cell r.number (pos j)) ws

still : (n : ℕ) (r : Section) (ws : List Wall) (a : Stripped r.number n ws) (rs : List Section) → Every (λ y. ¬ SameNumber y r) rs
    → Every (ReadIn n ws) rs → Every (ReadIn n a.rest) rs
still n r ws a [] d h = tt
still n r ws a (y ∷ rs) d h = (λ j p q. a.others y.number (pos j) (λ e. d.0 (sym e)) (h.0 j p q), still n r ws a rs d.1 h.1)

as_many : (n : ℕ) (rs : List Section) (ws : List Wall) → NoTwo SameNumber rs → Every (ReadIn n ws) rs → length rs * n ≤ length ws
as_many n [] ws d h = omega arith
as_many n (r ∷ rs) ws d h =
    let a = stripped r.number n ws h.0 in
    omega (arith, a.fewer, as_many n rs a.rest d.1 (still n r ws a rs d.0 h.1))

-- 8 is always said where sections times stages pass 48
pub readings-most : (text : List ℕ) (sheet : Sheet) → read_of document text ≡ Good sheet
    → length (firing_of sheet).sections * length (firing_of sheet).stages ≤ walls_most
readings-most text sheet e =
    let f = firing_of sheet in
    let r = firing_lawful text sheet e in
    omega (arith, as_many (length f.stages) f.sections f.walls r.numbered r.read, r.walls_most)
