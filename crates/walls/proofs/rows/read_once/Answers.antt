-- One rule after the other, by what lies in the cell. Assumes nothing.
use mathlib.Core.Path.{ap, ap₂, ◌∙◌}
use mathlib.Core.Bool.{Bool}
use Rattle.sheet.specs.declared.Refusal.TheVariants.{ReadTwice, Colder}
use Rattle.due.specs.declared.Place.{Place}
use Rattle.due.specs.Place.{ruled}
use Rattle.walls.proofs.rows.read_once.Goals as goal

pub returns : goal.returns
returns c =
    let first = c.ruled-first.ensures ∙ ap (λ (read : Bool). ruled c.args.line c.args.q read ReadTwice) c.is_some-read.ensures in
    c.ruled.ensures ∙ ap₂ (λ (p : Place) (cold : Bool). ruled c.args.line p cold Colder) first c.colder-cold.ensures
