-- The answer by the place of the judgement. Assumes nothing.
use Rattle.due.proofs.Places.{is-good, is-bad}
use Rattle.reader.proofs.Answering.{answer-good, answer-refused}
use Rattle.reader.proofs.read.Goals as goal

pub returns-then-p-eq0 : goal.returns-then-p-eq0
returns-then-p-eq0 c = answer-good c.args.s.now c.judged-l.result c.judged-l.ensures (is-good c.judged-l.result.place c.if-p-eq0.true)

pub returns : goal.returns
returns c = answer-refused c.args.s.now c.judged-l.result c.judged-l.ensures (is-bad c.judged-l.result.place c.if-p-eq0.false)
