use Rattle.std.proofs.Common.{refl, ◌∙◌, ap₂, arith}
use Rattle.timing.specs.Measured.{measured}
use Rattle.timing.specs.Requiring.{told, pick}
use Rattle.timing.specs.Slacks.{timeds}
use Rattle.timing.proofs.Slacking.{slacks_more, length_timeds}
use Rattle.timing.proofs.slack.TimedLines.least_slack.Goals as goal

pub loop-i-preserved : goal.loop-i-preserved
loop-i-preserved g c =
    let m = g.M.Measure in
    let ms = measured m in
    let ts = timeds m.row c.args.self.now.lines.now c.args.self.now.times.now c.args.self.now.required.now in
    c.earlier-least.ensures
    ∙ ap₂ (pick ms) c.loop-i.invariant refl
    ∙ slacks_more ms c.args.first c.loop-i.i ts (told m.row c.line_slack.result) (omega arith) (omega (arith, length_timeds m.row c.args.self.now.lines.now c.args.self.now.times.now c.args.self.now.required.now c.args.self.now.all_arrive c.args.self.now.all_asked)) c.line_slack.ensures
