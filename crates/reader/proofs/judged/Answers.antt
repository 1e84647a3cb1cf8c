-- What is looked at is all of a sheet of good length; then the judgement by the place after the last line. Assumes nothing.
use Prim.Native.Nat.{ℕ}
use mathlib.Core.Path.{ap, ◌∙◌}
use lib.ListN.{length, take}
use lib.Seq.{take-length}
use Rattle.reader.proofs.Answering.{Looked, looked-all, looked-none, judgement}
use Rattle.reader.proofs.judged.Goals as goal
use Rattle.reader.proofs.judged.Goals.{then-start-eq0, else-start-eq0}

pub returns : goal.returns
returns c =
    let l = c.all_lines-l in
    let o = c.opening-start in
    let s = c.args.s.now in
    let looked : Looked (length s) c.if-start-eq0.looked =
    elim c.if-start-eq0.branch [
      | then-start-eq0 w ↦ looked-all _ o.result o.ensures w.if-start-eq0.true w.looked-is
      | else-start-eq0 w ↦ looked-none _ o.result o.ensures w.if-start-eq0.false w.looked-is
    ] in
    rw c.verdict-place.ensures
    (judgement s (take c.if-start-eq0.looked s) (λ h. ap (λ (k : ℕ). take k s) (looked.whole h) ∙ take-length s)
    l.result.place l.result.said (rw (← o.ensures) l.ensures.after) l.ensures.sized)
