use Rattle.std.proofs.Common.{sym, ap, subst}
use Rattle.graph.specs.Block.{Kept, block_of}
use Rattle.graph.specs.Ranges.{is_set}
use Rattle.graph.proofs.Accepted.{read, emptied}
use Rattle.graph.proofs.Keeping.{kept_clear}
use Rattle.graph.proofs.Replayed.{kept_of}
use Rattle.graph.proofs.store.TimingGraph.clear.Goals as goal

pub invariant_of-self : goal.invariant_of-self
invariant_of-self c =
    let g = c.args.self.now in
    let e = emptied (block_of g) _ c.args.set c.in_ok-set.set.number (read is_set _ _ c.ranges.set c.in_ok-set.ensures) c.empty.ensures in
    let k = subst Kept (sym (ap (λ w. w.after) e)) (kept_clear (block_of g) c.args.set (kept_of g)) in
    record { room = k.room; numbered = k.numbers; rising = k.rising; noded = k.nodes; trimmed = k.trims; started = k.starts; ended = k.ends }
