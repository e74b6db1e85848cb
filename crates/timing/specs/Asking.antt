-- What a source answers for the live arcs.
use Rattle.std.specs.Prelude.{◌≡◌, ℕ, ◌<◌, true, List, ℤ, pos, Some, None, Ok, Err, Option, Result, MatchResult, slice_index_or, slice_set}
use Rattle.delay.specs.Entries.{Entry}
use Rattle.graph.specs.declared.parts.LiveArc.{LiveArc}
use Rattle.graph.specs.Ranges.{is_ticks}
use Rattle.graph.specs.Kept.{Live}
use Rattle.paths.specs.Graphs.{Untimed, arc_ticks, by_node, arcs_in_ticks}
use Rattle.timing.specs.declared.refusals.TimeRefusal.{TimeRefusal}
use Rattle.timing.specs.Refusals.{stopped}

-- an answer about ticks, with what stops it as a refusal
abbrev pub or_refused : {A : Type 0} → Result A Untimed → Result A TimeRefusal
or_refused (Ok a) = Ok a
or_refused (Err x) = Err (stopped x)

-- one arc, if it is live, is asked for: its ticks stand in the table, or they stop the timing
abbrev pub AskedOne : ℕ → Option LiveArc → (ℕ → Entry) → List ℤ → List ℤ → Result Unit TimeRefusal → Type 0
AskedOne k None means old new r = (r ≡ Ok tt) × (new ≡ old)
AskedOne k (Some e) means old new r =
    MatchResult r (λ _. (d : ℤ) × (arc_ticks k e.trim (means k) ≡ Ok d) × (new ≡ slice_set old k d) × (e.to < 256)) (λ x. (u : Untimed) × (arc_ticks k e.trim (means k) ≡ Err u) × (x ≡ stopped u))

-- the arc e, numbered k, has its ticks in the table
pub record HasTicks (means : ℕ → Entry) (ticks : List ℤ) (k : ℕ) (e : LiveArc) : Type 0 where
  pub ticks_are : arc_ticks k e.trim (means k) ≡ Ok (slice_index_or ticks k (pos 0))
  pub node : e.to < 256

-- all live arcs are asked for: each has its ticks in the table, or the lowest that has none stops the timing
abbrev pub Asked : List (Option LiveArc) → (ℕ → Entry) → List ℤ → Result Unit TimeRefusal → Type 0
Asked arcs means ticks r =
    MatchResult r (λ _. (k : ℕ) (e : LiveArc) → Live arcs k e → HasTicks means ticks k e) (λ x. (u : Untimed) × (arcs_in_ticks by_node means 0 arcs ≡ Err u) × (x ≡ stopped u))

-- the ticks of each live arc are in range
abbrev pub Ticked : List (Option LiveArc) → List ℤ → Type 0
Ticked arcs ticks = (k : ℕ) (e : LiveArc) → Live arcs k e → is_ticks (slice_index_or ticks k (pos 0)) ≡ true
