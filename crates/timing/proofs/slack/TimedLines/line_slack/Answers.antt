use Rattle.std.proofs.Common.{true, false, [], ◌∷◌, get_or, sym, ap, ◌∙◌, arith}
use Rattle.measure.proofs.Bounds.{to_bounded}
use Rattle.timing.specs.Measured.{measured}
use Rattle.sheet.specs.Lines.{past_line}
use Rattle.timing.specs.Slacks.{slacks_of}
use Rattle.timing.proofs.Sums.{answered, answer_is, asking_sum}
use Rattle.timing.proofs.Crossed.{some_at}
use Rattle.timing.proofs.Slacking.{timeds_at, slack_flag}
use Rattle.timing.proofs.slack.TimedLines.line_slack.Goals as goal

pub returns-then-not-self-i : goal.returns-then-not-self-i
returns-then-not-self-i g c =
    let m = g.M.Measure in
    let ms = measured m in
    let t = c.args.self.now in
    let i = c.args.i in
    let x = some_at t.times.now i (omega (arith, t.all_arrive)) in
    let y = some_at t.required.now i (omega (arith, t.all_asked)) in
    sym (ap (slacks_of ms i) (timeds_at m.row i t.lines.now t.times.now t.required.now x.0 y.0 c.requires t.all_arrive t.all_asked x.1 y.1)
    ∙ slack_flag m.row ms i (get_or t.lines.now i past_line) x.0 y.0 false c.if-not-self-i.true)

pub unwrap-row-requires : goal.unwrap-row-requires
unwrap-row-requires g c =
    let m = g.M.Measure in
    let t = c.args.self.now in
    let i = c.args.i in
    let x = get_or t.times.now i c.index-self-i-2.result in
    let y = get_or t.required.now i c.index-self-i.result in
    let asks = to_bounded m.width 256000000 (m.row y) (t.asks_within i y c.requires (ap (get_or t.required.now i) c.index-self-i.is) c.if-not-self-i.false) in
    let arrives = to_bounded m.width 256000000 (m.row x) (t.times_within i x (omega (arith, t.all_arrive)) (ap (get_or t.times.now i) c.index-self-i-2.is)) in
    answered m.row c.sum.result _ (asking_sum m y asks 256000000 x c.opposite.result c.sum.result (omega arith) arrives c.opposite.ensures c.sum.ensures)

pub returns : goal.returns
returns g c =
    let m = g.M.Measure in
    let ms = measured m in
    let t = c.args.self.now in
    let i = c.args.i in
    let x = get_or t.times.now i c.index-self-i-2.result in
    let y = get_or t.required.now i c.index-self-i.result in
    let x-is = ap (get_or t.times.now i) c.index-self-i-2.is in
    let y-is = ap (get_or t.required.now i) c.index-self-i.is in
    let asks = to_bounded m.width 256000000 (m.row y) (t.asks_within i y c.requires y-is c.if-not-self-i.false) in
    let arrives = to_bounded m.width 256000000 (m.row x) (t.times_within i x (omega (arith, t.all_arrive)) x-is) in
    let slack = answer_is m.row c.sum.result _ c.unwrap-row.result (asking_sum m y asks 256000000 x c.opposite.result c.sum.result (omega arith) arrives c.opposite.ensures c.sum.ensures) c.unwrap-row.ensures in
    ap (λ s. record { row = s; arc = 1024; line = i } ∷ []) slack
    ∙ sym (ap (slacks_of ms i) (timeds_at m.row i t.lines.now t.times.now t.required.now x y c.requires t.all_arrive t.all_asked x-is y-is) ∙ slack_flag m.row ms i (get_or t.lines.now i past_line) x y true c.if-not-self-i.false)
