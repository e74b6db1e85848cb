use Rattle.timing.proofs.Searching.{Counted}
use Rattle.timing.proofs.search.count_below.Given as goal

abbrev pub invariant-loop-line : goal.invariant-loop-line
invariant-loop-line l = Counted l.lines l.tag l.line-index l.count
