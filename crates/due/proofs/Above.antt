-- What a rule finds above a row, under each key. Assumes nothing.
use Prim.Native.Nat.{ℕ}
use mathlib.Core.Path.{◌≡◌, refl}
use mathlib.Core.Bool.{Bool, true, false, cond, not, ◌&&◌}
use mathlib.Core.List.{List, [], ◌∷◌, ◌++◌}
use Rattle.document.specs.Schema.{Line, Row}
use Rattle.document.specs.Reader.{Sheet, filled, same_key, rows_of}
use Rattle.document.proofs.Forms.{same_key_refl}
use Rattle.document.proofs.Cases.{clash}
use Rattle.due.specs.Block.{lacks}

-- the rows of a block are found under its key
pub rows-here : (l : Line) (rows : List Row) (seen : Sheet) → lacks l.key seen ≡ true → rows_of l.key (seen ++ filled l rows) ≡ rows
rows-here l rows [] e = rw (same_key_refl l.key)
rows-here l rows (f ∷ fs) e = here (same_key l.key f.key) (lacks l.key fs) (rows-here l rows fs) e
  where
    here : (t u : Bool) → (u ≡ true → rows_of l.key (fs ++ filled l rows) ≡ rows) → (not t && u) ≡ true
        → cond t f.rows (rows_of l.key (fs ++ filled l rows)) ≡ rows
    here true u ih e = clash cc
    here false u ih e = ih e

-- and change nothing under another
pub rows_other : (k : List ℕ) (l : Line) (rows : List Row) (seen : Sheet) → same_key k l.key ≡ false → rows_of k (seen ++ filled l rows) ≡ rows_of k seen
rows_other k l rows [] e = rw e
rows_other k l rows (f ∷ fs) e = here (same_key k f.key) (rows_other k l rows fs e)
  where
    here : (t : Bool) → rows_of k (fs ++ filled l rows) ≡ rows_of k fs → cond t f.rows (rows_of k (fs ++ filled l rows)) ≡ cond t f.rows (rows_of k fs)
    here true ih = refl
    here false ih = ih
