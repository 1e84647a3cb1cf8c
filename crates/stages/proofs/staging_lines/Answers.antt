-- The count line, then so many lines, of either sheet. Assumes nothing.
use Rattle.std.proofs.Common.{◌≡◌, refl, rules, arith, Bool, true, false, [], ◌∷◌}
use Rattle.text.specs.Bytes.{bytes}
use Rattle.sheet.specs.Quantities.{stages_least, stages_most}
use Rattle.document.specs.Reader.{Paragraph, many, count_line}
use Rattle.document.specs.Entries.{paragraphs_of}
use Rattle.document.specs.Sheet2.{stage_line_by, stage_rule_by, staging_by}
use Rattle.due.proofs.Places.{ready_after}
use Rattle.due.proofs.Laid.{heard_filled}
use Rattle.due.proofs.Sequence.{block-after}
use Rattle.due.proofs.Said.{block_read}
use Rattle.stages.specs.Stages.{held_by, itself}
use Rattle.stages.proofs.staging_lines.Goals as goal

abbrev paragraph : Bool → Paragraph
paragraph flue = many (bytes "stages") stages_least stages_most (stage_line_by flue) (stage_rule_by flue)

either : (flue : Bool) → paragraphs_of (staging_by flue) ≡ paragraph flue ∷ []
either true = refl
either false = refl

pub rows-read-requires : goal.rows-read-requires
rows-read-requires c =
    let count = c.counted_line-count.ensures in
    (omega arith, (count.within, (count.ready, λ p r at e. ready_after at (e.1 []))))

pub returns : goal.returns
returns c =
    let count = c.counted_line-count in
    let flue = c.args.analysed in
    let (xs, heard, said) = rw c.stage.ensures at c.rows-read.ensures in
    record {
      after = rw (either flue)
          (block_read (paragraph flue) (stage_line_by flue) _ (λ seen.
          block-after (bytes "stages") stages_least stages_most (stage_line_by flue) (stage_rule_by flue) seen
          (record { after = count.ensures.says (count_line (bytes "stages") stages_least stages_most) refl refl; within = count.ensures.within })
          (heard_filled itself (held_by flue) _ stages_most c.args.s.now (stage_line_by flue) (stage_rule_by flue) count.result.said.0 count.result.place
          (λ p r e above. search rules) count.ensures.within count.ensures.ready heard said seen)));
      within = count.ensures.within;
    }
