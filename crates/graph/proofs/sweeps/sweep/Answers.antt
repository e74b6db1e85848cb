use Rattle.std.proofs.Common.{◌+◌, sym, ◌∙◌, subst, arith}
use Rattle.graph.specs.Slots.{arcs_of}
use Rattle.graph.specs.Sweeps.{Visited}
use Rattle.graph.proofs.Swept.{Swept, swept_start, swept_more, swept_all}
use Rattle.graph.proofs.sweeps.sweep.Goals as goal

pub loop-place-init : goal.loop-place-init
loop-place-init c = subst (Swept c.args.end (arcs_of c.args.arcs.now) c.args.node 0) (sym c.only-seen.ensures) (swept_start c.args.end (arcs_of c.args.arcs.now) c.args.node (omega arith))

pub loop-place-preserved : goal.loop-place-preserved
loop-place-preserved c =
    swept_more c.args.end _ c.requires.rising _ c.loop-place.place _ _ (omega arith) c.loop-place.invariant (c.visit.array_long ∙ sym c.loop-place.invariant.size)
    (subst (λ v. Visited c.args.end (arcs_of c.args.arcs.now) v c.loop-place.seen c.visit.new.seen) c.nth_from.ensures c.visit.ensures)

pub returns-2 : goal.returns-2
returns-2 c =
    let p = swept_more c.args.end _ c.requires.rising _ c.loop-place.place _ _ (omega arith) c.loop-place.invariant (c.visit.array_long ∙ sym c.loop-place.invariant.size)
    (subst (λ v. Visited c.args.end (arcs_of c.args.arcs.now) v c.loop-place.seen c.visit.new.seen) c.nth_from.ensures c.visit.ensures) in
    record { sound = p.sound; all = swept_all _ _ _ (c.loop-place.place + 1) _ p (omega arith) }
