use Rattle.std.proofs.Common.{sym, ap, subst}
use Rattle.graph.specs.Block.{Kept, block_of}
use Rattle.graph.specs.Ranges.{is_node}
use Rattle.graph.proofs.Accepted.{read, added}
use Rattle.graph.proofs.Keeping.{kept_arc}
use Rattle.graph.proofs.Replayed.{kept_of}
use Rattle.graph.proofs.store.TimingGraph.add_arc.Goals as goal

pub invariant_of-self : goal.invariant_of-self
invariant_of-self c =
    let g = c.args.self.now in
    let e = added g.taken g.arcs _ _ c.args.from c.args.to c.in_ok-from.from c.in_ok-to.to (read is_node c.args.from _ c.ranges.from c.in_ok-from.ensures)
    (read is_node c.args.to _ c.ranges.to c.in_ok-to.ensures) (sym c.if-not-precedes.ensures) c.if-number-eq1024.false in
    let k = subst Kept (sym (ap (λ w. w.after) e)) (kept_arc (block_of g) c.args.from c.args.to (kept_of g)) in
    record { room = k.room; numbered = k.numbers; rising = k.rising; noded = k.nodes; trimmed = k.trims; started = k.starts; ended = k.ends }

pub returns-clause-after : goal.returns-clause-after
returns-clause-after c =
    let g = c.args.self.now in
    ap (λ w. w.after) (added g.taken g.arcs _ _ c.args.from c.args.to c.in_ok-from.from c.in_ok-to.to (read is_node c.args.from _ c.ranges.from c.in_ok-from.ensures)
    (read is_node c.args.to _ c.ranges.to c.in_ok-to.ensures) (sym c.if-not-precedes.ensures) c.if-number-eq1024.false)
