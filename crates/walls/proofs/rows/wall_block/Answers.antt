-- The count line, then so many lines. Assumes nothing.
use Rattle.std.proofs.Common.{refl}
use Rattle.text.specs.Bytes.{bytes}
use Rattle.sheet.specs.Quantities.{walls_most}
use Rattle.document.specs.Tests.{wall-rule}
use Rattle.document.specs.Document01.{wall_line}
use Rattle.due.proofs.Sequence.{block-after}
use Rattle.document.specs.Reader.{count_line}
use Rattle.walls.proofs.rows.wall_block.Goals as goal

pub returns : goal.returns
returns c seen e f g =
    let walls = c.counted_line-walls.ensures in
    block-after (bytes "walls") 0 walls_most wall_line wall-rule seen
    (record { after = walls.says (count_line (bytes "walls") 0 walls_most) refl refl; within = walls.within }) (c.wall_rows.ensures seen e f g)
