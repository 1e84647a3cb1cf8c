-- Lines that were heard one behind the other are rows that fill a block's array. Assumes nothing.
use Prim.Native.Nat.{ℕ, suc, ◌+◌, ◌-◌, ◌<◌, ◌≤◌}
use mathlib.Core.Path.{◌≡◌, refl, sym, ap, ◌∙◌, subst}
use mathlib.Core.List.{List, [], ◌∷◌, ◌++◌}
use native.Mathlib.Numerals.{add-one}
use native.Mathlib.Omega.{arith}
use lib.ListN.{length, set, replicate, length-append}
use Rattle.std.proofs.lemmas.List.{append_assoc}
use Rattle.std.proofs.Math.Seq.{set-append_seam}
use Rattle.document.specs.Schema.{Line, Row}
use Rattle.document.specs.Reader.{Sheet, Rule, read_line, read_rows}
use Rattle.due.specs.declared.Place.{Place}
use Rattle.due.specs.declared.Heard.{Heard}
use Rattle.due.specs.Place.{Ready, After}
use Rattle.due.specs.Block.{Filled, RowsHeard}
use Rattle.due.specs.Block.RowsHeard.{none_heard, one_heard}
use Rattle.due.proofs.Fills.{Filling, filling_none, filling_next}

-- an array of so many elements, of which the first are xs
abbrev pub laid : {T : Type 0} → ℕ → T → List T → ℕ → List T
laid most blank xs k = xs ++ replicate (most - k) blank

module _ {T : Type 0} (most : ℕ) (blank : T) where
  pub laid_none : replicate most blank ≡ laid most blank [] 0
  laid_none = let e : most - 0 ≡ most = omega arith in rw e refl

  pub laid_next : (xs : List T) (x : T) (k : ℕ) → length xs ≡ k → k < most
      → set (laid most blank xs k) k x ≡ laid most blank (xs ++ (x ∷ [])) (k + 1)
  laid_next xs x k e h =
      let n : most - k ≡ suc (most - (k + 1)) = omega arith in
      rw (n, ← e) (set-append_seam xs blank (replicate (most - (length xs + 1)) blank) x ∙ sym (append_assoc xs (x ∷ []) (replicate (most - (length xs + 1)) blank)))

module _ {T : Type 0} {R : Place → Heard T → Type 0} where
  pub heard_length : {k : ℕ} {p q : Place} {xs : List T} → RowsHeard R k p q xs → length xs ≡ k
  heard_length none_heard = refl
  heard_length (one_heard {k = k} {xs = xs} {r = r} h m) = length-append xs (r.said ∷ []) ∙ rw add-one (ap suc (heard_length h))

-- what is heard of each line is what the line says, so the array holds the rows
module _ {T B : Type 0} {R : Place → Heard T → Type 0} (view : T → B) (of : Row → B) (blank : T) (most : ℕ) (s : List ℕ) (l : Line) (rule : Rule)
    (k : ℕ) (start : Place) (one : (p : Place) (r : Heard T) → R p r → (above : Sheet) → After s p (read_line l (rule above)) r.place (λ row. view r.said ≡ of row)) where
  heard_filling : {i : ℕ} {q : Place} {xs : List T} → k ≤ most → Ready s start → RowsHeard R i start q xs → i ≤ k
      → Filling view of blank most s l rule k start q i (laid most blank xs i)
  heard_filling h r none_heard j =
      subst (λ (a : List T). Filling view of blank most s l rule k start start 0 a) (laid_none most blank) (filling_none view of blank most s l rule k start h r)
  heard_filling h r (one_heard {k = i} {q = q} {xs = xs} {r = x} a m) j =
      rw (← (add-one i))
      (subst (λ (a : List T). Filling view of blank most s l rule k start x.place (i + 1) a)
      (laid_next most blank xs x.said i (heard_length a) (omega arith))
      (filling_next view of blank most s l rule k start q x.place i _ x.said (heard_filling h r a (omega arith)) (omega arith) (one q x m)))

  pub heard_filled : {q : Place} {xs lines : List T} → k ≤ most → Ready s start → RowsHeard R k start q xs → lines ≡ laid most blank xs k
      → (seen : Sheet) → After s start (read_rows k l rule seen []) q (Filled view of blank most k lines)
  heard_filled h r a e = rw e (heard_filling h r a (omega arith)).4
