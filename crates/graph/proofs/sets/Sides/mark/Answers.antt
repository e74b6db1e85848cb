use Rattle.std.proofs.Common.{refl, arith}
use Rattle.graph.specs.Sweeps.{marked}
use Rattle.graph.proofs.Slots.{slots_more, slots_all}
use Rattle.graph.proofs.sets.Sides.mark.Goals as goal

pub loop-slot-init : goal.loop-slot-init
loop-slot-init c = refl

pub loop-slot-preserved : goal.loop-slot-preserved
loop-slot-preserved c =
    slots_more (marked c.args.set.number c.args.self.now.ahead c.args.self.now.behind) c.args.arcs.now c.loop-slot.arcs c.loop-slot.slot-index c.entered.result
    (omega arith) (omega arith) c.loop-slot.invariant c.entered.ensures

pub returns : goal.returns
returns c = slots_all (marked c.args.set.number c.args.self.now.ahead c.args.self.now.behind) c.args.arcs.now c.loop-slot.arcs c.loop-slot.slot-index (omega arith) c.loop-slot.invariant
