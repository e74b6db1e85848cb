use Rattle.std.proofs.Common.{◌≡◌, ◌-◌, ◌≤◌, true, false, map, length, take, drop}
use Rattle.graph.specs.Block.{block_of, blank}
use Rattle.ledger.specs.Answers.{answer_of}
use Rattle.ledger.specs.Ledger.{closed, Runs, nested}
use Rattle.ledger.proofs.history.session.Given as goal

abbrev pub invariant-loop-i : goal.invariant-loop-i
invariant-loop-i l =
    (l.i ≤ length l.acts)
    × (nested (drop l.i l.acts) false ≡ true)
    × Runs (closed blank) (take l.i l.acts) (map answer_of (take l.i l.replies)) (closed (block_of l.graph))

abbrev pub decreases-loop-i : goal.decreases-loop-i
decreases-loop-i l = length l.acts - l.i
