use Rattle.std.proofs.Common.{◌≡◌, false, ◌⊎◌, get_or, Ok, inl, inr}
use Rattle.graph.specs.Block.{Block, block_of}
use Rattle.graph.specs.Ranges.{is_node, is_set}
use Rattle.graph.specs.Slots.{arcs_of}
use Rattle.graph.proofs.Accepted.{read, paired_read}
use Rattle.graph.proofs.Keeping.{kept_paired_in}
use Rattle.graph.proofs.Replayed.{kept_of}
use Rattle.graph.proofs.Marks.{Sides, paired_marked, paired_none}
use Rattle.graph.proofs.store.TimingGraph.pair_by.Goals as goal
use Rattle.graph.proofs.store.TimingGraph.pair_by.Goals.{then-from-to-via-then-from-to, then-from-to-via-else-from-to+then-not-ahead-to}

pub returns-then-from-to : goal.returns-then-from-to
returns-then-from-to c =
    let none : (c.in_ok-from.from ≡ c.in_ok-to.to) ⊎ (get_or c.sweep-ahead.result c.in_ok-to.to false ≡ false) = elim c.then-from-to.branch [
      | then-from-to-via-then-from-to w ↦ inl w.if-from-to.true
      | then-from-to-via-else-from-to+then-not-ahead-to w ↦ inr w.if-not-ahead-to.true
    ] in
    paired_read _ c.args.set c.args.from c.args.to _ _ _ _ _ (read is_set _ _ c.ranges.set c.in_ok-set.ensures) (read is_node _ _ c.ranges.from c.in_ok-from.ensures) (read is_node _ _ c.ranges.to c.in_ok-to.ensures)
    (paired_none (block_of c.args.self.now) c.in_ok-set.set.number c.in_ok-from.from c.in_ok-to.to _ c.args.self.now.rising c.sweep-ahead.ensures.all none)

pub invariant_of-self : goal.invariant_of-self
invariant_of-self c =
    let g = c.args.self.now in
    let b = block_of g in
    let b' : Block = record { taken = b.taken; arcs = arcs_of c.mark.new.arcs; starts = b.starts; ends = b.ends } in
    let S : Sides (arcs_of g.arcs) c.in_ok-from.from c.in_ok-to.to c.sweep-ahead.result c.sweep-behind.result =
    record { ahead = c.sweep-ahead.ensures.sound; ahead_all = c.sweep-ahead.ensures.all; behind = c.sweep-behind.ensures.sound; behind_all = c.sweep-behind.ensures.all } in
    let k = kept_paired_in b c.in_ok-set.set.number _ _ (Ok tt) b' (kept_of g)
    (paired_marked b _ _ _ _ _ S c.if-from-to.false c.if-not-ahead-to.false (arcs_of c.mark.new.arcs) c.mark.ensures) in
    record { room = k.room; numbered = k.numbers; rising = k.rising; noded = k.nodes; trimmed = k.trims; started = k.starts; ended = k.ends }

pub returns : goal.returns
returns c =
    let g = c.args.self.now in
    let S : Sides (arcs_of g.arcs) c.in_ok-from.from c.in_ok-to.to c.sweep-ahead.result c.sweep-behind.result =
    record { ahead = c.sweep-ahead.ensures.sound; ahead_all = c.sweep-ahead.ensures.all; behind = c.sweep-behind.ensures.sound; behind_all = c.sweep-behind.ensures.all } in
    paired_read _ c.args.set c.args.from c.args.to _ _ _ _ _ (read is_set _ _ c.ranges.set c.in_ok-set.ensures) (read is_node _ _ c.ranges.from c.in_ok-from.ensures) (read is_node _ _ c.ranges.to c.in_ok-to.ensures)
    (paired_marked (block_of g) c.in_ok-set.set.number _ _ _ _ S c.if-from-to.false c.if-not-ahead-to.false (arcs_of c.mark.new.arcs) c.mark.ensures)
