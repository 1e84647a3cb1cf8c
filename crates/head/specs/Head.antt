-- The lines `firing` to `clay` but those of the fuel: what the code's structs show of each row.
use Rattle.std.specs.Prelude.{◌≡◌, List, [], ◌∷◌}
use Rattle.sheet.specs.Shown.{ware, water}
use Rattle.document.specs.Schema.{at}
use Rattle.document.specs.Document01.{firing_line, product_line, ambient_line, air_line, ware_line, water_line, clay_line}
use Rattle.document.specs.Rows.{ware_of, water_of}
use Rattle.head.specs.declared.heading.Heading.{Heading}
use Rattle.head.specs.declared.drying.Drying.{Drying}
use Rattle.due.specs.Said.{Saying, says}

abbrev pub heading_says : Heading → List Saying
heading_says x =
    says firing_line (λ row. x.firing.0 ≡ at row 0)
    ∷ says product_line (λ row. x.product.0 ≡ at row 0)
    ∷ says ambient_line (λ row. x.ambient.0 ≡ at row 0)
    ∷ []

abbrev pub drying_says : Drying → List Saying
drying_says x =
    says air_line (λ row. x.moisture.0 ≡ at row 0)
    ∷ says ware_line (λ row. ware x.ware ≡ ware_of row)
    ∷ says water_line (λ row. water x.water ≡ water_of row)
    ∷ says clay_line (λ row. x.clay.0 ≡ at row 0)
    ∷ []
