use Rattle.std.proofs.Common.{ap, ◌∙◌, arith}
use Rattle.measure.specs.Rows.{zeros}
use Rattle.paths.specs.Sheets.{node_slack}
use Rattle.sheet.specs.Written.{entry_of, row_or, by_nodes}
use Rattle.timing.specs.Measured.{measured}
use Rattle.timing.proofs.Falling.{all_unasked}
use Rattle.timing.proofs.Completing.{sheet_grouped, sheet_asks, sheet_times, sheet_timeds}
use Rattle.timing.proofs.timer.complete.Goals as goal

pub require_all-requires-clause-arrived : goal.require_all-requires-clause-arrived
require_all-requires-clause-arrived g c = all_unasked g.M.Measure g.met.M.Measure.laws c.args.block.now c.args.lines.now c.args.arrivals.now c.args.firsts.now c.requires.arrived

pub invariant_of-timed : goal.invariant_of-timed
invariant_of-timed g c =
    let m = g.M.Measure in
    let laws = g.met.M.Measure.laws in
    let ls = c.require_all.new.lines in
    let xs = c.args.arrivals.now in
    let ys = c.require_all.new.required in
    record {
      few = omega arith;
      all_arrive = omega (arith, c.requires.arrived.even);
      all_asked = omega arith;
      asks_within = sheet_asks m laws c.args.block.now c.args.firsts.now c.args.lines.now ls xs ys c.requires.arrived c.require_all.ensures.lines c.require_all.ensures.required;
      times_within = sheet_times m laws c.args.block.now c.args.firsts.now c.args.lines.now ls xs ys c.requires.arrived c.require_all.ensures.lines c.require_all.ensures.required;
    }

pub write_entries-requires-clause-grouped : goal.write_entries-requires-clause-grouped
write_entries-requires-clause-grouped g c =
    sheet_grouped g.M.Measure g.met.M.Measure.laws c.args.block.now c.args.firsts.now c.args.lines.now c.require_all.new.lines c.args.arrivals.now c.require_all.new.required c.requires.arrived c.require_all.ensures.lines c.require_all.ensures.required

pub returns : goal.returns
returns g c =
    let m = g.M.Measure in
    let ms = measured m in
    let e = c.require_all.ensures.lines in
    let q = c.require_all.ensures.required in
    let same = sheet_timeds m g.met.M.Measure.laws c.args.block.now c.args.firsts.now c.args.lines.now c.require_all.new.lines c.args.arrivals.now c.require_all.new.required c.requires.arrived e q in
    record {
      lines = e;
      required = q;
      nodes = c.write_entries.ensures.nodes ∙ ap (λ ts. by_nodes (λ v. entry_of (node_slack ms v ts))) same;
      slacks = c.write_entries.ensures.slacks ∙ ap (λ ts. by_nodes (λ v. row_or (zeros m.width) (node_slack ms v ts))) same;
    }
