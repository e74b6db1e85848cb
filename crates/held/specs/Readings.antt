-- What is shown of a held graph.
use Rattle.std.specs.Prelude.{cond, ℤ, Some, None, Option, List, slice_index_or, unsigned_abs}
use Rattle.graph.specs.declared.parts.LiveArc.{LiveArc}
use Rattle.graph.specs.Ranges.{is_node, is_arc}
use Rattle.graph.specs.Block.{arc_at}
use Rattle.ledger.specs.Ledger.{Ledger}
use Rattle.held.specs.declared.answer.Answer.{Answer}
use Rattle.held.specs.Answers.{accepted, with_value, optional, refused}

abbrev pub taken_shown : Option Ledger → Answer
taken_shown None = refused 30
taken_shown (Some l) = with_value l.block.taken

-- the ticks of a node in a table of starts or ends
abbrev pub ticks_shown : List (Option ℤ) → ℤ → Answer
ticks_shown times node = cond (is_node node) (optional (slice_index_or times (unsigned_abs node) None)) (refused 6)

abbrev pub start_shown : Option Ledger → ℤ → Answer
start_shown None node = refused 30
start_shown (Some l) node = ticks_shown l.block.starts node

abbrev pub end_shown : Option Ledger → ℤ → Answer
end_shown None node = refused 30
end_shown (Some l) node = ticks_shown l.block.ends node

-- an arc, if it is live, in the place of the old one
abbrev pub live_shown : LiveArc → Option LiveArc → Answer × LiveArc
live_shown old None = (refused 9, old)
live_shown old (Some e) = (accepted, e)

abbrev pub arc_shown : Option Ledger → ℤ → LiveArc → Answer × LiveArc
arc_shown None n old = (refused 30, old)
arc_shown (Some l) n old = cond (is_arc n) (live_shown old (arc_at l.block (unsigned_abs n))) (refused 6, old)
