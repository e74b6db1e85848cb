use Rattle.std.proofs.Common.{w32, SFits, rules}
use Rattle.graph.specs.Ranges.{is_node}
use Rattle.graph.proofs.Accepted.{read, read_ticks, timed}
use Rattle.graph.proofs.calls.set_time.Goals as goal

pub returns : goal.returns
returns c =
    let fits : SFits w32 c.in_ok-ticks.ticks = search rules in
    timed c.args.times.now c.args.node c.args.ticks c.in_ok-node.node _ (read is_node _ _ c.ranges.node c.in_ok-node.ensures) (read_ticks _ _ c.ranges.ticks fits c.in_ok-ticks.ensures)
