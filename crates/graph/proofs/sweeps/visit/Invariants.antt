use Rattle.graph.specs.Slots.{arcs_of}
use Rattle.graph.proofs.Swept.{Spread}
use Rattle.graph.proofs.sweeps.visit.Given as goal

abbrev pub invariant-loop-number : goal.invariant-loop-number
invariant-loop-number l = Spread l.end (arcs_of l.arcs) l.node l.number-index l.initial.seen l.seen
