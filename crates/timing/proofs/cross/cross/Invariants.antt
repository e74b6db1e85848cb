use Rattle.std.proofs.Common.{◌-◌}
use Rattle.paths.specs.Sheets.{entered}
use Rattle.timing.specs.Measured.{measured}
use Rattle.graph.specs.Sorting.{segment}
use Rattle.timing.specs.Lines.{front, behind, Stands}
use Rattle.timing.specs.Crossings.{meant, crossed}
use Rattle.timing.proofs.cross.cross.Given as goal

abbrev pub invariant-loop-i : goal.invariant-loop-i
invariant-loop-i g l =
    let m = g.M.Measure in
    let rows = measured m in
    let t = behind m.row l.base l.initial.count l.initial.lines l.initial.times in
    let f = front m.row l.base l.initial.lines l.initial.times in
    Stands m.row l.base l.initial.lines l.initial.times (entered rows (crossed rows (meant m.row l.crossing) l.first (segment l.first (l.i - l.first) f)) t) l.lines l.times l.count
