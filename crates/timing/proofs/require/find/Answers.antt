use Rattle.std.proofs.Common.{◌<◌, length, get_or, arith}
use Rattle.sheet.specs.Lines.{past_line}
use Rattle.timing.proofs.Sorted.{found_here, found_nowhere}
use Rattle.timing.proofs.require.find.Goals as goal
use Rattle.timing.proofs.require.find.Goals.{else-p-lines-via-then-p-lines+else-lines-p, else-p-lines-via-else-p-lines}

pub returns-then-lines-p : goal.returns-then-lines-p
returns-then-lines-p c = found_here c.args.lines.now c.requires c.args.tag c.reach-p.result c.reach-p.ensures.below c.if-p-lines.true c.if-lines-p.true

pub returns-else-p-lines : goal.returns-else-p-lines
returns-else-p-lines c =
    let above : c.reach-p.result < length c.args.lines.now → c.args.tag < (get_or c.args.lines.now c.reach-p.result past_line).tag =
    λ h.
    elim c.else-p-lines.branch [
      | else-p-lines-via-then-p-lines+else-lines-p w ↦ omega (arith, w.if-lines-p.false, c.reach-p.ensures.stops h)
      | else-p-lines-via-else-p-lines w ↦ absurd (omega (arith, w.if-p-lines.false, h))
    ] in
    found_nowhere c.args.lines.now c.requires c.args.tag c.reach-p.result c.reach-p.ensures.below above
