-- One line after the other, whatever stands above them. Assumes nothing.
use Rattle.std.proofs.Common.{refl}
use Rattle.document.specs.Tests.{free, material-rule}
use Rattle.document.specs.Document01.{air_line, ware_line, water_line, clay_line}
use Rattle.due.proofs.Said.{line-then, none_read}
use Rattle.head.proofs.drying.drying_lines.Goals as goal

pub returns : goal.returns
returns c =
    let air = c.measured_line-moisture.ensures.says air_line refl refl in
    let clay = c.measured_line-clay.ensures.says clay_line refl refl in
    line-then air_line free _ (λ seen. air)
    (line-then ware_line (material-rule 3) _ (λ seen. c.ware_line-ware.ensures)
    (line-then water_line free _ (λ seen. c.water_line-water.ensures) (line-then clay_line free _ (λ seen. clay) (none_read clay.fair))))
