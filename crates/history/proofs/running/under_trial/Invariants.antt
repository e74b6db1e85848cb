use Rattle.std.proofs.Common.{◌≡◌, ◌≤◌, true, map, length, take, drop}
use Rattle.graph.specs.Block.{block_of}
use Rattle.graph.specs.Trials.{put_back}
use Rattle.ledger.proofs.Running.{under}
use Rattle.sheet.specs.Lent.{tables_in, SameLoans}
use Rattle.history.specs.Answers.{answer_of}
use Rattle.timing.specs.Terms.{terms_of}
use Rattle.history.specs.Steps.{at_rest, Runs, nested}
use Rattle.history.proofs.running.under_trial.Given as goal

abbrev pub invariant-loop-i : goal.invariant-loop-i
invariant-loop-i g l =
    let m = g.M.Measure in
    (length l.replies ≡ length l.steps)
    × (1 ≤ l.i)
    × (nested (drop l.i l.steps) true ≡ true)
    × (g.S.Source.means l.source ≡ g.S.Source.means l.initial.source)
    × (g.S.Source.depth l.source ≡ g.S.Source.depth l.initial.source)
    × SameLoans l.initial.tables l.tables
    × Runs (terms_of m (g.S.Source.means l.initial.source))
    (at_rest (put_back (block_of l.trial.graph.now) l.trial.arc l.trial.earlier l.trial.refusal) (tables_in m.row l.initial.tables) l.initial.list)
    (take l.i l.steps) (map answer_of (take l.i l.replies))
    (record { ledger = under (block_of l.trial.graph.now) l.trial.arc l.trial.earlier l.trial.refusal; tables = tables_in m.row l.tables; list = l.list })
