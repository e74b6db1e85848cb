-- The block that the passes read.
use Rattle.std.specs.Prelude.{◌≡◌, ℕ, Err, Result, MatchResult}
use Rattle.delay.specs.Entries.{Entry}
use Rattle.graph.specs.declared.parts.LiveArc.{LiveArc}
use Rattle.graph.specs.declared.store.TimingGraph.{TimingGraph}
use Rattle.graph.specs.Kept.{Live}
use Rattle.graph.specs.Block.{block_of}
use Rattle.paths.specs.Graphs.{Untimed, by_node, arcs_in_ticks}
use Rattle.timing.specs.declared.block.TimedBlock.{TimedBlock}
use Rattle.timing.specs.declared.refusals.TimeRefusal.{TimeRefusal}
use Rattle.timing.specs.Refusals.{stopped}
use Rattle.timing.specs.Asking.{HasTicks}

-- the block is the graph's, with the ticks of its live arcs
pub record Made (g : TimingGraph) (means : ℕ → Entry) (t : TimedBlock) : Type 0 where
  pub graph_is : t.graph.now ≡ g
  pub ticks_are : (k : ℕ) (e : LiveArc) → Live (block_of g).arcs k e → HasTicks means t.ticks k e

-- it is made, or the lowest live arc without ticks stops the timing
abbrev pub Prepared : TimingGraph → (ℕ → Entry) → Result TimedBlock TimeRefusal → Type 0
Prepared g means r = MatchResult r (Made g means) (λ x. (u : Untimed) × (arcs_in_ticks by_node means 0 (block_of g).arcs ≡ Err u) × (x ≡ stopped u))
