use Rattle.std.proofs.Common.{◌≡◌, ◌<◌, true, map, length, take, drop}
use Rattle.graph.specs.Block.{block_of, blank}
use Rattle.ledger.specs.Answers.{answer_of}
use Rattle.ledger.specs.Ledger.{closed, Runs, nested}
use Rattle.ledger.proofs.Running.{under}
use Rattle.ledger.proofs.history.under_trial.Given as goal

abbrev pub invariant-loop-i : goal.invariant-loop-i
invariant-loop-i l =
    (length l.replies ≡ length l.acts)
    × (l.at < l.i)
    × (nested (drop l.i l.acts) true ≡ true)
    × Runs (closed blank) (take l.i l.acts) (map answer_of (take l.i l.replies))
    (under (block_of l.trial.graph.now) l.trial.arc l.trial.earlier l.trial.refusal)
