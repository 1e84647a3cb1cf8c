-- The lines `fuel` and `gas`: what the code's structs show of each row.
use Rattle.std.specs.Prelude.{◌≡◌, List, [], ◌∷◌, map, ℤ}
use Rattle.quantity.specs.declared.gas.Share.{Share}
use Rattle.sheet.specs.Shown.{fuel}
use Rattle.document.specs.Document01.{gas_line, fuel_line}
use Rattle.document.specs.Rows.{fuel_of}
use Rattle.fuel.specs.declared.Fuelling.{Fuelling}
use Rattle.due.specs.Said.{Saying, says}

-- the plain numbers of the shares
abbrev pub shares : List Share → List ℤ
shares l = map (λ x. x.0) l

abbrev pub fuelling_says : Fuelling → List Saying
fuelling_says x = says fuel_line (λ row. fuel x.fuel ≡ fuel_of row) ∷ says gas_line (λ row. shares x.gas ≡ row.numbers) ∷ []
