use Rattle.timing.specs.Crossings.{meant, crossed}
use Rattle.std.proofs.Common.{◌+◌, ◌-◌, ◌<◌, length, sym, subst, arith}
use Rattle.graph.specs.Sorting.{segment}
use Rattle.paths.proofs.Entering.{entered_sorted}
use Rattle.timing.specs.Lines.{front, behind, Filled}
use Rattle.paths.specs.Sheets.{entered}
use Rattle.timing.specs.Measured.{measured}
use Rattle.timing.proofs.Crossed.{entering_on, sofar, crossing_more, crossing_full}
use Rattle.timing.proofs.cross.cross.Goals as goal

pub cross_line-requires-clause-entering : goal.cross_line-requires-clause-entering
cross_line-requires-clause-entering g c =
    let m = g.M.Measure in
    let rows = measured m in
    let h = meant m.row c.args.crossing in
    let f = front m.row c.args.base c.args.lines.now c.args.times.now in
    let t = behind m.row c.args.base c.args.count c.args.lines.now c.args.times.now in
    let cs = crossed rows h c.args.first (segment c.args.first (c.loop-i.i - c.args.first) f) in
    entering_on m c.args.base c.args.count c.loop-i.count c.args.lines.now c.loop-i.lines c.args.times.now c.loop-i.times (entered rows cs t) c.requires.entering c.loop-i.invariant (entered_sorted rows cs t c.requires.entering.sorted)

pub loop-i-preserved : goal.loop-i-preserved
loop-i-preserved g c =
    let m = g.M.Measure in
    let rows = measured m in
    let t = sofar m.row rows (meant m.row c.args.crossing) c.args.first (c.loop-i.i + 1) c.args.base c.args.count c.args.lines.now c.args.times.now in
    let f = crossing_more m.row rows (meant m.row c.args.crossing) c.args.first c.loop-i.i c.args.base c.args.count c.args.lines.now c.args.times.now c.loop-i.lines c.loop-i.times
    c.cross_line.new.lines c.cross_line.new.times c.loop-i.count c.cross_line.result (omega arith) (omega arith) (omega arith) c.requires.entering.even c.loop-i.invariant c.cross_line.ensures in
    subst (λ r. Filled m.row c.args.base c.args.lines.now c.args.times.now t c.cross_line.new.lines c.cross_line.new.times r) c.in_ok-count.was f

pub returns-in_err-count : goal.returns-in_err-count
returns-in_err-count g c =
    let m = g.M.Measure in
    let rows = measured m in
    let t = sofar m.row rows (meant m.row c.args.crossing) c.args.first (c.loop-i.i + 1) c.args.base c.args.count c.args.lines.now c.args.times.now in
    let f = crossing_more m.row rows (meant m.row c.args.crossing) c.args.first c.loop-i.i c.args.base c.args.count c.args.lines.now c.args.times.now c.loop-i.lines c.loop-i.times
    c.cross_line.new.lines c.cross_line.new.times c.loop-i.count c.cross_line.result (omega arith) (omega arith) (omega arith) c.requires.entering.even c.loop-i.invariant c.cross_line.ensures in
    let full : length c.args.lines.now < c.args.base + length t =
    subst (λ r. Filled m.row c.args.base c.args.lines.now c.args.times.now t c.cross_line.new.lines c.cross_line.new.times r) c.in_err-count.was f in
    let all = crossing_full m.row rows (meant m.row c.args.crossing) c.args.first (c.loop-i.i + 1) c.args.last c.args.base c.args.count c.args.lines.now c.args.times.now
    (omega arith) (omega arith) c.requires.last_le_base (omega arith) c.requires.entering.even full in
    subst (λ r. Filled m.row c.args.base c.args.lines.now c.args.times.now (sofar m.row rows (meant m.row c.args.crossing) c.args.first c.args.last c.args.base c.args.count c.args.lines.now c.args.times.now) c.cross_line.new.lines c.cross_line.new.times r)
    (sym c.from_residual.ensures) all
