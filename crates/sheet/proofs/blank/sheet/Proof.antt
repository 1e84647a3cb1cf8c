-- What the blanks of its blocks promise. Assumes nothing.
use borrow.Author.Rules.{rules}
use Rattle.sheet.proofs.blank.sheet.Statement.{statement}
use Rattle.sheet.proofs.blank.sheet.Tie as tie

returns : tie.Need-returns
returns c =
    let section = c.before in
    let part = section.before in
    let setter = part.before in
    let stage = setter.before in
    let head = stage.before in
    rw (c.section_readings.ensures, section.section.ensures, part.part.ensures, setter.setter.ensures, stage.stage.ensures, head.head.ensures)

pub sheet_spec : {M : Type 1} → statement M
sheet_spec =
    tie.close
    (tie.spec (λ c κs. search rules) (λ c κs. search rules) (λ c κs. search rules) (λ c κs. search rules) (λ c κs. search rules)
    (λ c κs. search rules) returns)
