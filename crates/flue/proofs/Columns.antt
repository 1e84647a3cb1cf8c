-- Table A.1 as the code has it, with a row of 0 at its end: a row of it is the definition's; and how large an entry of a column is. Assumes nothing.
use Prim.Native.Nat.{zero-le}
use Rattle.std.proofs.Common.{ℕ, zero, suc, ◌+◌, ◌-◌, ◌*◌, ◌/◌, ◌%◌, ◌≤◌, ◌≡◌, refl, ◌∙◌, List, [], ◌∷◌, ◌++◌, map, get_or}
use lib.ListN.{get_or-map}
use Rattle.document.specs.Rules.{Every}
use Rattle.formulas.specs.Tables.{FlueGases, flue_table, flue_row, no_row}
use Rattle.formulas.specs.Formulas.{column_at}
use Rattle.flue.specs.declared.FlueRow.{FlueRow}

-- an entry, or the 0 beyond them
pub entry-most : {m : ℕ} (l : List ℕ) → Every (λ x. x ≤ m) l → (i : ℕ) → get_or l i 0 ≤ m
entry-most [] h i = zero-le
entry-most (x ∷ l) h zero = h.0
entry-most (x ∷ l) h (suc i) = entry-most l h.1 i

abbrev pub row : FlueGases → FlueRow
row g = record { co = g.co; co2 = g.co2; o2 = g.o2; n2 = g.n2 }

abbrev pub coded : List FlueRow
coded = map row flue_table ++ (row no_row ∷ [])

ended : {A : Type 0} (l : List A) (d : A) (i : ℕ) → get_or (l ++ (d ∷ [])) i d ≡ get_or l i d
ended [] d zero = refl
ended [] d (suc i) = refl
ended (x ∷ l) d zero = refl
ended (x ∷ l) d (suc i) = ended l d i

row-is : (i : ℕ) → get_or coded i (row no_row) ≡ row (flue_row i)
row-is i = ended (map row flue_table) (row no_row) i ∙ get_or-map row flue_table i no_row

-- c of a gas between the rows before and behind a temperature is the definition's
pub column-is : (of : FlueRow → ℕ) (T : ℕ) →
    of (get_or coded (T / 1000) (row no_row)) * (1000 - T % 1000) + of (get_or coded (T / 1000 + 1) (row no_row)) * (T % 1000) ≡ column_at (λ g. of (row g)) T
column-is of T = rw (row-is (T / 1000), row-is (T / 1000 + 1)) refl
