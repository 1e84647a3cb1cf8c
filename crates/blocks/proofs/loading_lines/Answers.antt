-- The setters, then the parts. Assumes nothing.
use Rattle.std.proofs.Common.{[]}
use Rattle.document.specs.Document01.{setter_line, part_line, setters, parts}
use Rattle.due.proofs.Said.{block_read, ◌then◌}
use Rattle.blocks.proofs.loading_lines.Goals as goal

pub part_block-parts-requires : goal.part_block-parts-requires
part_block-parts-requires c = record { short = c.requires.short; fair = (c.setter_block-setters.ensures []).fair }

pub returns : goal.returns
returns c = block_read setters.paragraph setter_line _ c.setter_block-setters.ensures then block_read parts.paragraph part_line _ c.part_block-parts.ensures
