use Rattle.std.proofs.Common.{◌≡◌, ◌++◌, map, take, drop}
use Rattle.graph.specs.Slots.{arcs_of}
use Rattle.graph.specs.Sweeps.{marked}
use Rattle.graph.proofs.sets.Sides.mark.Given as goal

abbrev pub invariant-loop-slot : goal.invariant-loop-slot
invariant-loop-slot l = arcs_of l.arcs ≡ map (marked l.set.number l.self.ahead l.self.behind) (take l.slot-index (arcs_of l.initial.arcs)) ++ drop l.slot-index (arcs_of l.initial.arcs)
