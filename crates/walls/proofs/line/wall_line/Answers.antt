-- The line by what is taken of its numbers; the stage is held to its range, whatever the line said. Assumes nothing.
use mathlib.Core.Path.{◌≡◌, ap}
use mathlib.Core.List.{List}
use lib.IntN.{pos}
use lib.ListN.{get_or}
use Rattle.limits.specs.declared.Number.{Number}
use Rattle.limits.proofs.Laws.{CountBetween, count-within}
use Rattle.sheet.specs.Firing.{Wall}
use Rattle.document.specs.Schema.{plain}
use Rattle.sheet.specs.Quantities.{stage_number, stages_most}
use Rattle.document.specs.Document01.{wall_line}
use Rattle.document.specs.Rows.{wall_of}
use Rattle.walls.specs.declared.line.Wall.{Wall as Wallˢ}
use Rattle.walls.specs.Walls.{wall}
use Rattle.due.specs.Taking.{from, held_to}
use Rattle.due.proofs.Ranges.{held_measured}
use Rattle.due.proofs.Quantities.{line-taken}
use Rattle.std.proofs.Common.{refl}
use Rattle.walls.proofs.line.wall_line.Goals as goal

-- the stage of a wall whose numbers are held to their ranges
held_stage : (x : Wallˢ) (v : List Number) → wall x ≡ wall_of (plain (held_to wall_line.fields (from 0 4 v))) → CountBetween 1 stages_most x.stage.0
unfolding held_to
held_stage x v e = count-within (held_measured stage_number (get_or v 1 (record { 0 = pos 0 })).0 (pos x.stage.0) (ap (λ (w : Wall). w.stage) e)) tt

pub returns : goal.returns
returns c =
    let l = c.line.ensures.says in
    let stage = held_stage c.line.result.said l.form.said (rw l.said l.taken.1.shown) in
    record {
      after = line-taken wall_line (λ x zs. wall x ≡ wall_of (plain zs)) refl refl (λ v x e. e.1) l;
      least = stage.low;
      most = stage.high;
    }
