-- One line after the other, whatever stands above them. Assumes nothing.
use Rattle.document.specs.Tests.{free, gas-rule}
use Rattle.document.specs.Document01.{fuel_line, gas_line}
use Rattle.due.proofs.Said.{line-then, none_read}
use Rattle.fuel.proofs.fuelling_lines.Goals as goal

pub returns : goal.returns
returns c =
    line-then fuel_line free _ (λ seen. c.fuel_line-fuel.ensures)
    (line-then gas_line gas-rule _ (λ seen. c.gas_line-gas.ensures) (none_read c.gas_line-gas.ensures.fair))
