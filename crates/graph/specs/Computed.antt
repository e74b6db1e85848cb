-- A line's call as a function of the block, as the reader's load asks for it.
use Rattle.std.specs.Prelude.{ℕ, zero, suc, Bool, false, cond, not, ◌&&◌, ◌||◌, List, map, ℤ, Some, None, Ok, Err, Option, Result, ◌==◌, unsigned_abs}
use Rattle.std.specs.List.{list_any}
use Rattle.reader.specs.declared.records.Side.TheVariants.{Start, End}
use Rattle.reader.specs.declared.records.Record.{Record}
use Rattle.reader.specs.declared.records.Record.TheVariants.{Arc, Delay, Bound, Pair}
use Rattle.graph.specs.declared.parts.LiveArc.{LiveArc}
use Rattle.graph.specs.Ranges.{is_node, is_set}
use Rattle.graph.specs.Block.{Block, Outcome, accepted, refused, verdict, with_arc, with_start, with_end}
use Rattle.graph.specs.Sets.{in_set}

-- an arc from u whose head passes the test
abbrev pub leaves_for : ℕ → (ℕ → Bool) → Option LiveArc → Bool
leaves_for u test None = false
leaves_for u test (Some e) = e.from == u && test e.to

-- a path of at most k live arcs leads from u to v
abbrev pub leads : List (Option LiveArc) → ℕ → ℕ → ℕ → Bool
leads arcs zero u v = u == v
leads arcs (suc k) u v = u == v || list_any (leaves_for u (λ w. leads arcs k w v)) arcs

-- the arc lies on a path from u to v; no path has more than 255 arcs
unfoldable pub lies_between : List (Option LiveArc) → ℕ → ℕ → Option LiveArc → Bool
lies_between arcs u v None = false
lies_between arcs u v (Some e) = leads arcs 255 u e.from && leads arcs 255 e.to v

abbrev pub paired_arc : List (Option LiveArc) → ℕ → ℕ → ℕ → Option LiveArc → Option LiveArc
paired_arc arcs s u v o = cond (lies_between arcs u v o) (in_set s o) o

abbrev pub pair_in : Block → ℕ → ℕ → ℕ → Outcome Unit
pair_in b s u v =
    cond (list_any (lies_between b.arcs u v) b.arcs)
    (accepted tt (record { taken = b.taken; arcs = map (paired_arc b.arcs s u v) b.arcs; starts = b.starts; ends = b.ends }))
    (refused b 11)

abbrev pub with_pair : Block → ℤ → ℤ → ℤ → Outcome Unit
with_pair b s u v = cond (not (is_set s) || not (is_node u) || not (is_node v)) (refused b 6) (pair_in b (unsigned_abs s) (unsigned_abs u) (unsigned_abs v))

abbrev pub line_outcome : Block → Record → Outcome Unit
line_outcome b (Arc from to) = record { answer = verdict (with_arc b from to).answer; after = (with_arc b from to).after }
line_outcome b (Bound node Start ticks) = with_start b node ticks
line_outcome b (Bound node End ticks) = with_end b node ticks
line_outcome b (Pair set from to) = with_pair b set from to
line_outcome b (Delay arc ticks) = refused b 6

abbrev pub after_by : Result Unit ℕ → Block → Result Block ℕ
after_by (Ok a) b = Ok b
after_by (Err n) b = Err n

abbrev pub line_step : Block → Record → Result Block ℕ
line_step b x = after_by (line_outcome b x).answer (line_outcome b x).after
