-- The content of a timing graph, and what each call on one arc or one bound does to it.
use Rattle.std.specs.Prelude.{◌≡◌, MatchBool, ℕ, ◌+◌, ◌≤◌, cond, not, ◌||◌, List, replicate, ℤ, pos, Some, None, Ok, Err, Option, Result, ◌==◌, slice_index_or, slice_set, unsigned_abs}
use Rattle.graph.specs.declared.parts.LiveArc.{LiveArc}
use Rattle.graph.specs.declared.store.TimingGraph.{TimingGraph}
use Rattle.graph.specs.Order.{precedes}
use Rattle.graph.specs.Ranges.{is_node, is_arc, is_ticks}
use Rattle.graph.specs.Slots.{arcs_of, times_of}
use Rattle.graph.specs.Kept.{Numbered, Rising, NodesInRange, TrimsInRange, TimesInRange}

-- taken: how many arc numbers are used up. arcs: what each number has, if it is live. starts, ends: the ticks of each node, if set.
pub record Block : Type 0 where
  pub taken : ℕ
  pub arcs : List (Option LiveArc)
  pub starts : List (Option ℤ)
  pub ends : List (Option ℤ)

abbrev pub block_of : TimingGraph → Block
block_of g = record { taken = g.taken; arcs = arcs_of g.arcs; starts = times_of g.starts; ends = times_of g.ends }

-- a new graph: no arc, start or end, and so only empty sets
unfoldable pub blank : Block
blank = record { taken = 0; arcs = replicate 1024 None; starts = replicate 256 None; ends = replicate 256 None }

-- what every graph keeps
pub record Kept (b : Block) : Type 0 where
  pub room : b.taken ≤ 1024
  pub numbers : Numbered b.taken b.arcs
  pub rising : Rising b.arcs
  pub nodes : NodesInRange b.arcs
  pub trims : TrimsInRange b.arcs
  pub starts : TimesInRange b.starts
  pub ends : TimesInRange b.ends

-- the arc of a number, if it is live
abbrev pub arc_at : Block → ℕ → Option LiveArc
arc_at b n = slice_index_or b.arcs n None

-- what a call answers, a refusal by its number, and the content after it
pub record Outcome (A : Type 0) : Type 0 where
  pub answer : Result A ℕ
  pub after : Block

-- a refused call changes nothing
abbrev pub refused : {A : Type 0} → Block → ℕ → Outcome A
refused b n = record { answer = Err n; after = b }

abbrev pub accepted : {A : Type 0} → A → Block → Outcome A
accepted a b = record { answer = Ok a; after = b }

-- accepted or refused, without the number of a new arc
abbrev pub verdict : {A : Type 0} → Result A ℕ → Result Unit ℕ
verdict (Ok a) = Ok tt
verdict (Err n) = Err n

abbrev pub put_arc : Block → ℕ → Option LiveArc → Block
put_arc b n e = record { taken = b.taken; arcs = slice_set b.arcs n e; starts = b.starts; ends = b.ends }

-- a new arc takes the next number
abbrev pub next_arc : Block → ℕ → ℕ → Outcome ℕ
next_arc b from to =
    cond (b.taken == 1024) (refused b 8)
    (accepted b.taken (record {
      taken = b.taken + 1;
      arcs = slice_set b.arcs b.taken (Some (record { from = from; to = to; trim = pos 0; sets = 0 }));
      starts = b.starts;
      ends = b.ends;
    }))

abbrev pub with_arc : Block → ℤ → ℤ → Outcome ℕ
with_arc b from to =
    cond (not (is_node from) || not (is_node to)) (refused b 6)
    (cond (not (precedes (unsigned_abs from) (unsigned_abs to))) (refused b 7)
    (next_arc b (unsigned_abs from) (unsigned_abs to)))

abbrev pub dropped : Block → ℕ → Option LiveArc → Outcome Unit
dropped b n None = refused b 9
dropped b n (Some e) = cond (e.sets == 0) (accepted tt (put_arc b n None)) (refused b 10)

abbrev pub without_arc : Block → ℤ → Outcome Unit
without_arc b arc = cond (not (is_arc arc)) (refused b 6) (dropped b (unsigned_abs arc) (arc_at b (unsigned_abs arc)))

abbrev pub with_start : Block → ℤ → ℤ → Outcome Unit
with_start b node t =
    cond (not (is_node node) || not (is_ticks t)) (refused b 6)
    (accepted tt (record { taken = b.taken; arcs = b.arcs; starts = slice_set b.starts (unsigned_abs node) (Some t); ends = b.ends }))

abbrev pub with_end : Block → ℤ → ℤ → Outcome Unit
with_end b node t =
    cond (not (is_node node) || not (is_ticks t)) (refused b 6)
    (accepted tt (record { taken = b.taken; arcs = b.arcs; starts = b.starts; ends = slice_set b.ends (unsigned_abs node) (Some t) }))

-- what a call that sets a node's ticks answers, and leaves in the table of starts or ends
abbrev pub SetsTime : List (Option ℤ) → ℤ → ℤ → Result Unit ℕ → List (Option ℤ) → Type 0
SetsTime times node t r times' =
    MatchBool (not (is_node node) || not (is_ticks t)) ((r ≡ Err 6) × (times' ≡ times))
    ((r ≡ Ok tt) × (times' ≡ slice_set times (unsigned_abs node) (Some t)))

abbrev pub re_trimmed : LiveArc → ℤ → LiveArc
re_trimmed e t = record { from = e.from; to = e.to; trim = t; sets = e.sets }

abbrev pub trimmed : Block → ℕ → ℤ → Option LiveArc → Outcome Unit
trimmed b n t None = refused b 9
trimmed b n t (Some e) = accepted tt (put_arc b n (Some (re_trimmed e t)))

abbrev pub with_trim : Block → ℤ → ℤ → Outcome Unit
with_trim b arc t = cond (not (is_arc arc) || not (is_ticks t)) (refused b 6) (trimmed b (unsigned_abs arc) t (arc_at b (unsigned_abs arc)))
