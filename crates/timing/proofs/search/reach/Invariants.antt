use Rattle.timing.proofs.Searching.{Narrowed}
use Rattle.timing.proofs.search.reach.Given as goal

abbrev pub invariant-loop-left : goal.invariant-loop-left
invariant-loop-left l = Narrowed l.lines l.tag l.base l.left

abbrev pub decreases-loop-left : goal.decreases-loop-left
decreases-loop-left l = l.left
