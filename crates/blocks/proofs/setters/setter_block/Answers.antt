-- The count line, then so many lines. Assumes nothing.
use Rattle.std.proofs.Common.{refl, rules}
use Rattle.text.specs.Bytes.{bytes}
use Rattle.sheet.specs.Shown.{setter}
use Rattle.sheet.specs.Quantities.{setters_most}
use Rattle.document.specs.Tests.{material-rule}
use Rattle.document.specs.Document01.{setter_line}
use Rattle.document.specs.Reader.{count_line}
use Rattle.document.specs.Rows.{setter_of}
use Rattle.due.proofs.Laid.{heard_filled}
use Rattle.due.proofs.Sequence.{block-after}
use Rattle.blocks.proofs.setters.setter_block.Goals as goal

pub returns : goal.returns
returns c seen =
    let count = c.counted_line-count in
    let (xs, heard, said) = rw c.setter.ensures at c.rows-read.ensures in
    block-after (bytes "setters") 0 setters_most setter_line (material-rule 2) seen
    (record { after = count.ensures.says (count_line (bytes "setters") 0 setters_most) refl refl; within = count.ensures.within })
    (heard_filled setter setter_of _ setters_most c.args.s.now setter_line (material-rule 2) count.result.said.0 count.result.place (λ p r e above. search rules) count.ensures.within count.ensures.ready heard said seen)
