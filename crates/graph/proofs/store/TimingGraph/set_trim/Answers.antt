use Rattle.std.proofs.Common.{sym, ap, ◌∙◌, subst, w32, SFits, rules}
use Rattle.graph.specs.Block.{Kept, block_of}
use Rattle.graph.specs.Ranges.{is_arc}
use Rattle.graph.proofs.Accepted.{read, read_ticks, found, retrimmed}
use Rattle.graph.proofs.Keeping.{kept_trim}
use Rattle.graph.proofs.Replayed.{kept_of}
use Rattle.graph.proofs.store.TimingGraph.set_trim.Goals as goal

pub invariant_of-self : goal.invariant_of-self
invariant_of-self c =
    let g = c.args.self.now in
    let live = found _ _ _ (sym c.ok_or.ensures.value ∙ c.in_ok-live.was) ∙ c.arc.ensures in
    let fits : SFits w32 c.in_ok-ticks.ticks = search rules in
    let e = retrimmed g.taken g.arcs _ _ c.args.arc c.args.ticks c.in_ok-number.number _ c.in_ok-live.live (read is_arc _ _ c.ranges.arc c.in_ok-number.ensures)
    (read_ticks _ _ c.ranges.ticks fits c.in_ok-ticks.ensures) live in
    let k = subst Kept (sym (ap (λ w. w.after) e)) (kept_trim (block_of g) c.args.arc c.args.ticks (kept_of g)) in
    record { room = k.room; numbered = k.numbers; rising = k.rising; noded = k.nodes; trimmed = k.trims; started = k.starts; ended = k.ends }

pub returns-clause-after : goal.returns-clause-after
returns-clause-after c =
    let g = c.args.self.now in
    let live = found _ _ _ (sym c.ok_or.ensures.value ∙ c.in_ok-live.was) ∙ c.arc.ensures in
    let fits : SFits w32 c.in_ok-ticks.ticks = search rules in
    ap (λ w. w.after) (retrimmed g.taken g.arcs _ _ c.args.arc c.args.ticks c.in_ok-number.number _ c.in_ok-live.live (read is_arc _ _ c.ranges.arc c.in_ok-number.ensures)
    (read_ticks _ _ c.ranges.ticks fits c.in_ok-ticks.ensures) live)
