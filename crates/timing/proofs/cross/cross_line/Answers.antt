use Rattle.std.proofs.Common.{get_or, arith}
use Rattle.measure.specs.Rows.{Bounded}
use Rattle.timing.specs.Measured.{measured}
use Rattle.sheet.specs.Lines.{past_line}
use Rattle.timing.specs.Crossings.{meant, crossing_tag}
use Rattle.timing.proofs.Passed.{tag_passed, tag_dropped}
use Rattle.timing.proofs.Sums.{answered, answer_is, passing_sum}
use Rattle.timing.proofs.Crossed.{all_at, line_dropped, line_passed}
use Rattle.timing.proofs.cross.cross_line.Goals as goal

pub returns-in_default : goal.returns-in_default
returns-in_default g c =
    let m = g.M.Measure in
    line_dropped m.row (measured m) (meant m.row c.args.crossing) c.args.base c.args.i c.args.count c.args.lines.now c.args.times.now
    c.requires.i_lt_base c.requires.entering.room c.requires.entering.even (tag_dropped _ c.args.crossing.ends c.in_default.ensures)

pub unwrap-time-requires : goal.unwrap-time-requires
unwrap-time-requires g c =
    let m = g.M.Measure in
    let y = c.index-times-i.result in
    let near = all_at m.row (λ l. Bounded m.width 256000000 l.arrival) c.args.base c.args.i c.args.lines.now c.args.times.now y c.requires.i_lt_base (omega arith) c.requires.entering.even c.index-times-i.is c.requires.entering.near in
    answered m.row c.sum.result _ (passing_sum m y near c.args.crossing.row c.sum.result c.requires.bounded c.sum.ensures)

pub returns : goal.returns
returns g c =
    let m = g.M.Measure in
    let y = c.index-times-i.result in
    let l = get_or c.args.lines.now c.args.i past_line in
    let h = meant m.row c.args.crossing in
    let near = all_at m.row (λ l. Bounded m.width 256000000 l.arrival) c.args.base c.args.i c.args.lines.now c.args.times.now y c.requires.i_lt_base (omega arith) c.requires.entering.even c.index-times-i.is c.requires.entering.near in
    let time = answer_is m.row c.sum.result _ c.unwrap-time.result (passing_sum m y near c.args.crossing.row c.sum.result c.requires.bounded c.sum.ensures) c.unwrap-time.ensures in
    let tag = tag_passed c.in-Some.tag (crossing_tag h l.tag) h.ends c.in-Some.ensures in
    line_passed m.row (measured m) h c.args.base c.args.i c.args.count c.args.lines.now c.args.times.now y _
    c.enter_behind.new.lines c.enter_behind.new.times c.enter_behind.result c.requires.i_lt_base (omega arith) c.requires.entering.even tag.1 c.index-times-i.is
    (λ i. record { node = h.to; tag = tag.0 i; arrival = time i; back_arc = h.arc; back_line = c.args.i })
    c.enter_behind.ensures
