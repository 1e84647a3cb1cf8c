-- The count line, then so many lines. Assumes nothing.
use Rattle.std.proofs.Common.{refl}
use Rattle.text.specs.Bytes.{bytes}
use Rattle.sheet.specs.Quantities.{sections_least, sections_most}
use Rattle.document.specs.Tests.{section-rule}
use Rattle.document.specs.Document01.{section_line}
use Rattle.document.specs.Reader.{count_line}
use Rattle.due.proofs.Sequence.{block-after}
use Rattle.sections.proofs.section_block.Goals as goal

pub returns : goal.returns
returns c =
    let count = c.counted_line-count.ensures in
    record {
      after = λ seen e. block-after (bytes "sections") sections_least sections_most section_line section-rule seen
          (record { after = count.says (count_line (bytes "sections") sections_least sections_most) refl refl; within = count.within })
          (c.section_rows-read.ensures seen e);
      within = count.within;
    }
