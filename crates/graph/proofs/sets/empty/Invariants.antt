use Rattle.std.proofs.Common.{◌≡◌, ◌++◌, map, take, drop}
use Rattle.graph.specs.Slots.{arcs_of}
use Rattle.graph.specs.Sets.{cleared}
use Rattle.graph.proofs.sets.empty.Given as goal

abbrev pub invariant-loop-slot : goal.invariant-loop-slot
invariant-loop-slot l = arcs_of l.arcs ≡ map (cleared l.set.number) (take l.slot-index (arcs_of l.initial.arcs)) ++ drop l.slot-index (arcs_of l.initial.arcs)
