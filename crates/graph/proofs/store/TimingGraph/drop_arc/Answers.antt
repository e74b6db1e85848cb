use Rattle.std.proofs.Common.{sym, refl, ap, ◌∙◌, subst}
use Rattle.graph.specs.Block.{Kept, block_of}
use Rattle.graph.specs.Ranges.{is_arc}
use Rattle.graph.proofs.Accepted.{read, found, gone}
use Rattle.graph.proofs.Keeping.{kept_drop}
use Rattle.graph.proofs.Replayed.{kept_of}
use Rattle.graph.proofs.store.TimingGraph.drop_arc.Goals as goal

pub invariant_of-self : goal.invariant_of-self
invariant_of-self c =
    let g = c.args.self.now in
    let live = found _ _ _ (sym c.ok_or.ensures.value ∙ c.in_ok-live.was) ∙ c.arc.ensures in
    let e = gone g.taken g.arcs _ _ c.args.arc c.in_ok-number.number c.in_ok-live.live _ (read is_arc _ _ c.ranges.arc c.in_ok-number.ensures) live c.if-live-ne0.false refl in
    let k = subst Kept (sym (ap (λ w. w.after) e)) (kept_drop (block_of g) c.args.arc (kept_of g)) in
    record { room = k.room; numbered = k.numbers; rising = k.rising; noded = k.nodes; trimmed = k.trims; started = k.starts; ended = k.ends }

pub returns-clause-after : goal.returns-clause-after
returns-clause-after c =
    let g = c.args.self.now in
    let live = found _ _ _ (sym c.ok_or.ensures.value ∙ c.in_ok-live.was) ∙ c.arc.ensures in
    ap (λ w. w.after) (gone g.taken g.arcs _ _ c.args.arc c.in_ok-number.number c.in_ok-live.live _ (read is_arc _ _ c.ranges.arc c.in_ok-number.ensures) live c.if-live-ne0.false refl)
