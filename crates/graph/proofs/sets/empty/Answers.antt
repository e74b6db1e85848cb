use Rattle.std.proofs.Common.{refl, arith}
use Rattle.graph.specs.Sets.{cleared}
use Rattle.graph.proofs.Slots.{slots_more, slots_all}
use Rattle.graph.proofs.sets.empty.Goals as goal

pub loop-slot-init : goal.loop-slot-init
loop-slot-init c = refl

pub loop-slot-preserved : goal.loop-slot-preserved
loop-slot-preserved c =
    slots_more (cleared c.args.set.number) c.args.arcs.now c.loop-slot.arcs c.loop-slot.slot-index c.emptied.result
    (omega arith) (omega arith) c.loop-slot.invariant c.emptied.ensures

pub returns : goal.returns
returns c = slots_all (cleared c.args.set.number) c.args.arcs.now c.loop-slot.arcs c.loop-slot.slot-index (omega arith) c.loop-slot.invariant
