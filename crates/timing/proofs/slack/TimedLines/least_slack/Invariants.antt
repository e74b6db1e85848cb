use Rattle.std.proofs.Common.{◌≡◌, ◌-◌}
use Rattle.paths.specs.Sheets.{first_least}
use Rattle.timing.specs.Measured.{measured}
use Rattle.graph.specs.Sorting.{segment}
use Rattle.timing.specs.Requiring.{told}
use Rattle.timing.specs.Slacks.{timeds, slacks_of}
use Rattle.timing.proofs.slack.TimedLines.least_slack.Given as goal

abbrev pub invariant-loop-i : goal.invariant-loop-i
invariant-loop-i g l =
    let m = g.M.Measure in
    let ms = measured m in
    told m.row l.least ≡ first_least ms (slacks_of ms l.first (segment l.first (l.i - l.first) (timeds m.row l.self.lines.now l.self.times.now l.self.required.now)))
