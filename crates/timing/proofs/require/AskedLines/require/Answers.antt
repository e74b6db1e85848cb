use Rattle.std.proofs.Common.{◌∙◌, ap₂, arith, option_to_list}
use Rattle.timing.specs.Measured.{measured}
use Rattle.timing.specs.TimedBlock.{asks}
use Rattle.timing.specs.Requiring.{told, marks, pick}
use Rattle.timing.proofs.Requiring.{asks_more}
use Rattle.timing.proofs.require.AskedLines.require.Goals as goal

pub ask_over-requires-clause-beyond : goal.ask_over-requires-clause-beyond
ask_over-requires-clause-beyond g c = λ e live. c.requires.beyond c.loop-number.number-index e (omega arith) live

pub loop-number-preserved : goal.loop-number-preserved
loop-number-preserved g c =
    let m = g.M.Measure in
    let ms = measured m in
    let asked = asks m c.args.block.now c.args.self.now.firsts.now (marks m.row c.args.self.now.lines.now c.args.self.now.required.now) c.args.tag in
    c.earlier-best.ensures
    ∙ ap₂ (pick ms) c.loop-number.invariant c.ask_over.ensures
    ∙ asks_more ms (option_to_list (told m.row c.args.end)) asked c.args.numbers.now c.loop-number.number-index (omega arith)
