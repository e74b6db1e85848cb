use Rattle.graph.specs.Slots.{arcs_of}
use Rattle.graph.proofs.Swept.{Swept}
use Rattle.graph.proofs.sweeps.sweep.Given as goal

abbrev pub invariant-loop-place : goal.invariant-loop-place
invariant-loop-place l = Swept l.end (arcs_of l.arcs) l.node l.place l.seen
