-- The count line, then so many lines. Assumes nothing.
use Rattle.std.proofs.Common.{refl, rules}
use Rattle.text.specs.Bytes.{bytes}
use Rattle.sheet.specs.Shown.{part}
use Rattle.sheet.specs.Quantities.{parts_most}
use Rattle.document.specs.Tests.{material-rule}
use Rattle.document.specs.Document01.{part_line}
use Rattle.document.specs.Reader.{count_line}
use Rattle.document.specs.Rows.{part_of}
use Rattle.due.proofs.Laid.{heard_filled}
use Rattle.due.proofs.Sequence.{block-after}
use Rattle.blocks.proofs.parts.part_block.Goals as goal

pub returns : goal.returns
returns c seen =
    let count = c.counted_line-count in
    let (xs, heard, said) = rw c.part.ensures at c.rows-read.ensures in
    block-after (bytes "parts") 0 parts_most part_line (material-rule 1) seen
    (record { after = count.ensures.says (count_line (bytes "parts") 0 parts_most) refl refl; within = count.ensures.within })
    (heard_filled part part_of _ parts_most c.args.s.now part_line (material-rule 1) count.result.said.0 count.result.place (λ p r e above. search rules) count.ensures.within count.ensures.ready heard said seen)
