use Rattle.std.proofs.Common.{◌≡◌, ◌+◌, ◌-◌, ◌<◌, get_or, sym, ap, ◌∙◌, subst, arith}
use Rattle.measure.specs.Rows.{on_some}
use Rattle.paths.specs.Sheets.{ended}
use Rattle.timing.specs.Measured.{measured}
use Rattle.timing.specs.TimedBlock.{rows_of}
use Rattle.timing.specs.RequiredFrom.{RequiredFrom}
use Rattle.timing.proofs.Falling.{required_none, required_all}
use Rattle.timing.proofs.backward.require_all.Goals as goal

pub loop-node-init : goal.loop-node-init
loop-node-init g c = required_none g.M.Measure g.met.M.Measure.laws c.args.block.now c.args.lines.now c.args.required.now c.args.firsts.now c.requires.even c.requires.firsts c.requires.arrived

pub time_row-requires : goal.time_row-requires
time_row-requires g c t e = c.args.block.now.graph.now.ended c.loop-node.node t (sym c.end.ensures ∙ e)

pub require_node-requires : goal.require_node-requires
require_node-requires g c =
    let l = c.loop-node in
    let below : l.node < 256 = omega arith in
    record {
      node = below;
      end = c.ask_end-end.ensures ∙ ap ended (c.time_row.ensures ∙ ap (on_some g.M.Measure.row_of_time) c.end.ensures);
      numbers = c.arcs_at-numbers.ensures ∙ c.by-tails.ensures l.node below;
      firsts = c.requires.firsts;
      lines = omega (arith, l.auto.lines, c.requires.lines);
      even = omega (arith, l.auto.lines, l.auto.required, c.requires.even);
      after = l.invariant;
    }

pub loop-node-preserved : goal.loop-node-preserved
loop-node-preserved g c =
    let m = g.M.Measure in
    let v = c.loop-node.node in
    let z : v ≡ v - 1 + 1 = omega arith in
    subst (λ u. RequiredFrom m.row (measured m) (rows_of m c.args.block.now) 256 (get_or c.args.firsts.now u 0) c.require_node.new.lines c.require_node.new.required) z c.require_node.ensures

pub returns-2 : goal.returns-2
returns-2 g c =
    let v = c.loop-node.node in
    let z : v ≡ 0 = omega arith in
    let done = required_all g.M.Measure g.met.M.Measure.laws c.args.block.now (get_or c.args.firsts.now v 0) c.require_node.new.lines c.require_node.new.required
    (ap (λ u. get_or c.args.firsts.now u 0) z ∙ c.requires.firsts 0 (omega arith)) c.require_node.ensures in
    record { lines = done.0; required = done.1 }
