use Rattle.std.proofs.Common.{◌≡◌, ◌-◌, ◌≤◌, true, false, map, length, take, drop}
use Rattle.graph.specs.Block.{block_of}
use Rattle.sheet.specs.Lent.{tables_in, SameLoans}
use Rattle.history.specs.Answers.{answer_of}
use Rattle.timing.specs.Terms.{terms_of}
use Rattle.history.specs.Steps.{at_rest, new, Runs, nested}
use Rattle.history.proofs.running.run.Given as goal

abbrev pub invariant-loop-i : goal.invariant-loop-i
invariant-loop-i g l =
    let m = g.M.Measure in
    (l.i ≤ length l.steps)
    × (nested (drop l.i l.steps) false ≡ true)
    × (length l.replies ≡ length l.steps)
    × (g.S.Source.means l.source ≡ g.S.Source.means l.initial.source)
    × (g.S.Source.depth l.source ≡ g.S.Source.depth l.initial.source)
    × SameLoans l.initial.tables l.tables
    × Runs (terms_of m (g.S.Source.means l.initial.source))
    (new (tables_in m.row l.initial.tables) l.initial.list)
    (take l.i l.steps) (map answer_of (take l.i l.replies))
    (at_rest (block_of l.graph) (tables_in m.row l.tables) l.list)

abbrev pub decreases-loop-i : goal.decreases-loop-i
decreases-loop-i g l = length l.steps - l.i
