-- One line after the other, whatever stands above them. Assumes nothing.
use Rattle.std.proofs.Common.{refl}
use Rattle.document.specs.Tests.{free}
use Rattle.document.specs.Document01.{firing_line, product_line, ambient_line}
use Rattle.due.proofs.Said.{line-then, none_read}
use Rattle.head.proofs.heading.heading_lines.Goals as goal

pub returns : goal.returns
returns c =
    let firing = c.measured_line-firing.ensures.says firing_line refl refl in
    let product = c.measured_line-product.ensures.says product_line refl refl in
    let ambient = c.measured_line-ambient.ensures.says ambient_line refl refl in
    line-then firing_line free _ (λ seen. firing)
    (line-then product_line free _ (λ seen. product) (line-then ambient_line free _ (λ seen. ambient) (none_read ambient.fair)))
