use Rattle.std.proofs.Common.{length, ap, ◌∙◌, arith}
use Rattle.graph.specs.Slots.{arcs_of}
use Rattle.graph.proofs.Swept.{spread_none, spread_more, visited, unvisited, listed_within, listed_far}
use Rattle.graph.proofs.sweeps.visit.Goals as goal

pub returns-then-not-seen-node : goal.returns-then-not-seen-node
returns-then-not-seen-node c = unvisited _ _ _ _ c.if-not-seen-node.true

pub loop-number-init : goal.loop-number-init
loop-number-init c = spread_none _ _ _ _

pub bounds-arcs-number : goal.bounds-arcs-number
bounds-arcs-number c =
    let q = c.arcs_at-number-items.ensures ∙ c.requires c.args.node (omega arith) in
    listed_within c.args.end c.args.arcs.now c.args.node _ q c.loop-number.number-index c.loop-number-test.true

pub loop-number-preserved : goal.loop-number-preserved
loop-number-preserved c =
    let q = c.arcs_at-number-items.ensures ∙ c.requires c.args.node (omega arith) in
    spread_more c.args.end (arcs_of c.args.arcs.now) c.args.node c.loop-number.number-index _ _ c.far_node.result c.loop-number.invariant
    (omega (arith, ap length q))
    (listed_far c.args.end c.args.arcs.now c.args.node _ q c.loop-number.number-index c.far_node.result c.far_node.ensures)
    (omega arith)

pub returns : goal.returns
returns c =
    let q = c.arcs_at-number-items.ensures ∙ c.requires c.args.node (omega arith) in
    visited c.args.end (arcs_of c.args.arcs.now) c.args.node c.loop-number.number-index _ _ c.if-not-seen-node.false (omega (arith, ap length q)) c.loop-number.invariant
