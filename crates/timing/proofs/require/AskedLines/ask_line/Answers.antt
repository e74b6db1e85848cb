use Rattle.std.proofs.Common.{◌+◌, ◌-◌, ap, ◌∙◌, arith}
use Rattle.timing.specs.Measured.{measured}
use Rattle.timing.specs.Crossings.{meant}
use Rattle.timing.specs.Requiring.{told}
use Rattle.timing.proofs.Sums.{answered, answer_is, asking_sum}
use Rattle.timing.proofs.Requiring.{line_none, line_unasked, line_asked, found_below}
use Rattle.timing.proofs.require.AskedLines.ask_line.Goals as goal

pub returns-in_err-j : goal.returns-in_err-j
returns-in_err-j g c =
    let m = g.M.Measure in
    ap (told m.row) c.from_residual.ensures
    ∙ line_none m.row (measured m) (meant m.row c.args.crossing) c.args.tag c.args.first (c.args.last - c.args.first) c.args.self.now.lines.now c.args.self.now.required.now c.args.self.now.all_asked c.in_err-j.ensures

pub returns-then-not-lines-j : goal.returns-then-not-lines-j
returns-then-not-lines-j g c =
    let m = g.M.Measure in
    line_unasked m.row (measured m) (meant m.row c.args.crossing) c.args.tag c.args.first (c.args.last - c.args.first) c.args.self.now.lines.now c.args.self.now.required.now c.args.self.now.all_asked
    c.in_ok-j.field-0 (omega arith) c.in_ok-j.ensures c.if-not-lines-j.true

pub unwrap-row-requires : goal.unwrap-row-requires
unwrap-row-requires g c =
    let m = g.M.Measure in
    let y = c.index-required-j.result in
    let below = found_below c.args.tag c.args.first (c.args.last - c.args.first) c.args.self.now.lines.now c.in_ok-j.field-0 (omega arith) c.in_ok-j.ensures in
    let near = c.requires.asks_between (c.args.first + c.in_ok-j.field-0) y (omega arith) (omega (arith, below)) c.index-required-j.is c.if-not-lines-j.false in
    answered m.row c.sum.result _ (asking_sum m y near 1000000 c.args.crossing.row c.opposite.result c.sum.result (omega arith) c.requires.bounded c.opposite.ensures c.sum.ensures)

pub returns : goal.returns
returns g c =
    let m = g.M.Measure in
    let y = c.index-required-j.result in
    let below = found_below c.args.tag c.args.first (c.args.last - c.args.first) c.args.self.now.lines.now c.in_ok-j.field-0 (omega arith) c.in_ok-j.ensures in
    let near = c.requires.asks_between (c.args.first + c.in_ok-j.field-0) y (omega arith) (omega (arith, below)) c.index-required-j.is c.if-not-lines-j.false in
    line_asked m.row (measured m) (meant m.row c.args.crossing) c.args.tag c.args.first (c.args.last - c.args.first) c.args.self.now.lines.now c.args.self.now.required.now c.args.self.now.all_asked
    c.in_ok-j.field-0 y (m.row c.unwrap-row.result) (omega arith) c.in_ok-j.ensures c.index-required-j.is c.if-not-lines-j.false
    (answer_is m.row c.sum.result _ c.unwrap-row.result (asking_sum m y near 1000000 c.args.crossing.row c.opposite.result c.sum.result (omega arith) c.requires.bounded c.opposite.ensures c.sum.ensures) c.unwrap-row.ensures)
