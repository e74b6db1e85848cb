use Rattle.std.proofs.Common.{◌≡◌, ◌+◌, ◌≤◌, length}
use Rattle.measure.specs.Rows.{on_some}
use Rattle.sheet.specs.Trails.{lines_left, walked}
use Rattle.sheet.proofs.Trailing.{ahead}
use Rattle.sheet.proofs.trail.count.Given as goal

abbrev pub invariant-loop-link : goal.invariant-loop-link
invariant-loop-link l =
    (l.n + lines_left l.way l.lines l.i ≤ lines_left l.way l.lines l.initial.i)
    × (ahead l.n (on_some length (walked l.way l.lines l.i)) ≡ on_some length (walked l.way l.lines l.initial.i))

abbrev pub decreases-loop-link : goal.decreases-loop-link
decreases-loop-link l = lines_left l.way l.lines l.i
