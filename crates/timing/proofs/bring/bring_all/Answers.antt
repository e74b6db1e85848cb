use Rattle.std.proofs.Common.{◌+◌, ◌<◌, length, take, sym, subst, arith}
use Rattle.std.specs.List.{flat_map}
use Rattle.paths.specs.Sheets.{entered}
use Rattle.paths.proofs.Entering.{entered_sorted}
use Rattle.timing.specs.Measured.{measured}
use Rattle.timing.specs.TimedBlock.{brings}
use Rattle.timing.specs.Lines.{front, behind, Filled}
use Rattle.timing.proofs.Crossed.{entering_on}
use Rattle.timing.proofs.Bringing.{joining, joining_more, joining_full}
use Rattle.timing.proofs.bring.bring_all.Goals as goal

pub bring-requires-clause-ready : goal.bring-requires-clause-ready
bring-requires-clause-ready g c = λ e x. c.requires.ready c.loop-number.number-index e (omega arith) x

pub bring-requires-clause-entering : goal.bring-requires-clause-entering
bring-requires-clause-entering g c =
    let m = g.M.Measure in
    let ms = measured m in
    let F = brings m c.args.block.now c.args.firsts.now in
    let f = front m.row c.args.base c.args.lines.now c.args.times.now in
    let t = behind m.row c.args.base c.args.count c.args.lines.now c.args.times.now in
    let cs = flat_map (F f) (take c.loop-number.number-index c.args.numbers.now) in
    entering_on m c.args.base c.args.count c.loop-number.count c.args.lines.now c.loop-number.lines c.args.times.now c.loop-number.times (entered ms cs t) c.requires.entering c.loop-number.invariant (entered_sorted ms cs t c.requires.entering.sorted)

pub loop-number-preserved : goal.loop-number-preserved
loop-number-preserved g c =
    let m = g.M.Measure in
    let ms = measured m in
    let F = brings m c.args.block.now c.args.firsts.now in
    let i = c.loop-number.number-index in
    let f = joining_more m.row ms F c.args.numbers.now 0 i c.args.base c.args.count c.args.lines.now c.args.times.now c.loop-number.lines c.loop-number.times
    c.bring.new.lines c.bring.new.times c.loop-number.count c.bring.result (omega arith) c.loop-number.invariant c.bring.ensures in
    subst (λ r. Filled m.row c.args.base c.args.lines.now c.args.times.now (joining m.row ms F (i + 1) c.args.numbers.now c.args.base c.args.count c.args.lines.now c.args.times.now) c.bring.new.lines c.bring.new.times r)
    c.in_ok-count.was f

pub returns-in_err-count : goal.returns-in_err-count
returns-in_err-count g c =
    let m = g.M.Measure in
    let ms = measured m in
    let F = brings m c.args.block.now c.args.firsts.now in
    let i = c.loop-number.number-index in
    let t = joining m.row ms F (i + 1) c.args.numbers.now c.args.base c.args.count c.args.lines.now c.args.times.now in
    let f = joining_more m.row ms F c.args.numbers.now 0 i c.args.base c.args.count c.args.lines.now c.args.times.now c.loop-number.lines c.loop-number.times
    c.bring.new.lines c.bring.new.times c.loop-number.count c.bring.result (omega arith) c.loop-number.invariant c.bring.ensures in
    let full : length c.args.lines.now < c.args.base + length t =
    subst (λ r. Filled m.row c.args.base c.args.lines.now c.args.times.now t c.bring.new.lines c.bring.new.times r) c.in_err-count.was f in
    subst (λ r. Filled m.row c.args.base c.args.lines.now c.args.times.now (entered ms (flat_map (F (front m.row c.args.base c.args.lines.now c.args.times.now)) c.args.numbers.now) (behind m.row c.args.base c.args.count c.args.lines.now c.args.times.now)) c.bring.new.lines c.bring.new.times r)
    (sym c.from_residual.ensures) (joining_full m.row ms F c.args.numbers.now (i + 1) c.args.base c.args.count c.args.lines.now c.args.times.now full)
