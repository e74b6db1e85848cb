use Rattle.std.proofs.Common.{◌≡◌, map, set, refl, ap, ◌∙◌, arith}
use Rattle.std.proofs.lemmas.List.{length-map, map-set}
use Rattle.measure.specs.Rows.{zeros}
use Rattle.timing.specs.Measured.{measured}
use Rattle.paths.specs.Sheets.{node_slack}
use Rattle.sheet.specs.Written.{entry_of, row_or}
use Rattle.timing.specs.Requiring.{told}
use Rattle.timing.specs.Slacks.{timeds}
use Rattle.timing.proofs.NodeEntries.{slack_at, nodes_more, nodes_all}
use Rattle.timing.proofs.entries.write_entries.Goals as goal

pub loop-node-preserved : goal.loop-node-preserved
loop-node-preserved g c =
    let m = g.M.Measure in
    let ms = measured m in
    let l = c.loop-node in
    let v = l.node in
    let ts = timeds m.row c.args.timed.now.lines.now c.args.timed.now.times.now c.args.timed.now.required.now in
    let x = c.row_or_zero.result in
    let least : told m.row c.least_slack-least.result ≡ node_slack ms v ts =
    c.least_slack-least.ensures
    ∙ slack_at m.row ms v c.args.firsts.now c.args.timed.now.lines.now c.args.timed.now.times.now c.args.timed.now.required.now c.args.timed.now.all_arrive c.args.timed.now.all_asked (c.requires.grouped v (omega arith)) in
    record {
      nodes = nodes_more (λ u. entry_of (node_slack ms u ts)) l.nodes (set l.nodes v c.entry.result) v c.entry.result (omega arith) refl (c.entry.ensures ∙ ap entry_of least) l.invariant.nodes;
      slacks = nodes_more (λ u. row_or (zeros m.width) (node_slack ms u ts)) (map m.row l.slacks) (map m.row (set l.slacks v x)) v (m.row x) (omega (arith, length-map l.slacks m.row)) (map-set m.row l.slacks v x)
          (c.row_or_zero.ensures ∙ ap (row_or (zeros m.width)) least) l.invariant.slacks;
    }

pub returns : goal.returns
returns g c =
    let m = g.M.Measure in
    let ms = measured m in
    let ts = timeds m.row c.args.timed.now.lines.now c.args.timed.now.times.now c.args.timed.now.required.now in
    record {
      nodes = nodes_all (λ u. entry_of (node_slack ms u ts)) c.loop-node.nodes c.loop-node.node (omega arith) (omega arith) c.loop-node.invariant.nodes;
      slacks = nodes_all (λ u. row_or (zeros m.width) (node_slack ms u ts)) (map m.row c.loop-node.slacks) c.loop-node.node (omega arith) (omega (arith, length-map c.loop-node.slacks m.row))
          c.loop-node.invariant.slacks;
    }
