-- The block in rows that a timing graph's content makes, under a delay source and a measure.
use Rattle.std.specs.Prelude.{◌≡◌, ℕ, suc, ◌<◌, cond, List, [], ◌∷◌, map, ℤ, ◌+ℤ◌, Some, None, Ok, Err, Option, Result, slice_index_or}
use Rattle.std.specs.Result.{result_map_both}
use Rattle.measure.specs.Rows.{Within, on_some}
use Rattle.delay.specs.declared.fault.Fault.{Fault}
use Rattle.delay.specs.Entries.{Entry}
use Rattle.graph.specs.declared.parts.LiveArc.{LiveArc}
use Rattle.graph.specs.Ranges.{is_ticks}
use Rattle.graph.specs.Kept as graph
use Rattle.graph.specs.Block.{Block}
use Rattle.graph.specs.Paths.{Walks}
use Rattle.paths.specs.Blocks.{Arc, RowBlock, Live}
use Rattle.paths.specs.Paths.{Leads, numbers}

-- how many nodes there are
abbrev pub node_count : ℕ
node_count = 256

-- ---- the order in which nodes are worked
-- place: where a node stands in the order. node: which node stands at a place.
pub record WorkOrder : Type 0 where
  pub place : ℕ → ℕ
  pub node : ℕ → ℕ

-- the lower node first
abbrev pub by_node : WorkOrder
by_node = record { place = λ v. v; node = λ p. p }

-- the order gives each node a place of its own, and each live arc goes from a node to one that is worked later
pub record Suits (order : WorkOrder) (g : Block) : Type 0 where
  pub places : (v : ℕ) → v < node_count → order.place v < node_count
  pub nodes : (v : ℕ) → v < node_count → order.node (order.place v) ≡ v
  pub rising : (n : ℕ) (e : LiveArc) → graph.Live g.arcs n e → order.place e.from < order.place e.to

-- ---- the arcs' ticks
-- why there is no block: the source has a fault at an arc, or the arc's ticks plus trim are out of range
pub data Untimed : Type 0 where
  faulty : Fault → Untimed
  beyond : ℕ → Untimed

-- the ticks of arc n: what its source means, plus the trim
abbrev pub arc_ticks : ℕ → ℤ → Entry → Result ℤ Untimed
arc_ticks n trim (Ok d) = cond (is_ticks (d +ℤ trim)) (Ok (d +ℤ trim)) (Err (beyond n))
arc_ticks n trim (Err f) = Err (faulty f)

-- the first in front of the others; the first that is missing is named
abbrev pub in_front : {A : Type 0} → Result A Untimed → Result (List A) Untimed → Result (List A) Untimed
in_front (Err x) rest = Err x
in_front (Ok a) (Err x) = Err x
in_front (Ok a) (Ok rest) = Ok (a ∷ rest)

module _ (order : WorkOrder) where
  abbrev pub arc_of : ℕ → LiveArc → ℤ → Arc ℤ
  arc_of n e d = record { number = n; from = order.place e.from; to = order.place e.to; row = d; sets = e.sets }

  -- the live arcs, by their numbers from n on
  abbrev pub arcs_in_ticks : (ℕ → Entry) → ℕ → List (Option LiveArc) → Result (List (Arc ℤ)) Untimed
  arcs_in_ticks means n [] = Ok []
  arcs_in_ticks means n (None ∷ es) = arcs_in_ticks means (suc n) es
  arcs_in_ticks means n (Some e ∷ es) =
      in_front (result_map_both (arc_of n e) (λ x. x) (arc_ticks n e.trim (means n))) (arcs_in_ticks means (suc n) es)

  abbrev pub block_in_ticks : Block → List (Arc ℤ) → RowBlock ℤ
  block_in_ticks g es = record { arcs = es; start = λ p. slice_index_or g.starts (order.node p) None; end = λ p. slice_index_or g.ends (order.node p) None }

  abbrev pub in_ticks : Block → (ℕ → Entry) → Result (RowBlock ℤ) Untimed
  in_ticks g means = result_map_both (block_in_ticks g) (λ x. x) (arcs_in_ticks means 0 g.arcs)

-- ---- ticks become rows
abbrev pub arc_in_rows : {R : Type 0} → (ℤ → R) → Arc ℤ → Arc R
arc_in_rows row_of_arc e = record { number = e.number; from = e.from; to = e.to; row = row_of_arc e.row; sets = e.sets }

abbrev pub in_rows : {R : Type 0} → (ℤ → R) → (ℤ → R) → RowBlock ℤ → RowBlock R
in_rows row_of_time row_of_arc b = record {
  arcs = map (arc_in_rows row_of_arc) b.arcs;
  start = λ v. on_some row_of_time (b.start v);
  end = λ v. on_some row_of_time (b.end v);
}

-- the block of a graph's content, or why there is none
abbrev pub row_block : {R : Type 0} → WorkOrder → (ℤ → R) → (ℤ → R) → Block → (ℕ → Entry) → Result (RowBlock R) Untimed
row_block order row_of_time row_of_arc g means = result_map_both (in_rows row_of_time row_of_arc) (λ x. x) (in_ticks order g means)

-- ---- what the block is, in the graph's words
-- a is the live arc of its number, with the row of its source's ticks plus trim, and in the same sets
pub record IsArc {R : Type 0} (order : WorkOrder) (row_of_arc : ℤ → R) (g : Block) (means : ℕ → Entry) (a : Arc R) : Type 0 where
  pub arc : LiveArc
  pub ticks : ℤ
  pub live : graph.Live g.arcs a.number arc
  pub delay : means a.number ≡ Ok ticks
  pub from_is : a.from ≡ order.place arc.from
  pub to_is : a.to ≡ order.place arc.to
  pub in_range : Within 1000000 (ticks +ℤ arc.trim)
  pub row_is : a.row ≡ row_of_arc (ticks +ℤ arc.trim)
  pub sets_are : a.sets ≡ arc.sets

pub record Mirrors {R : Type 0} (order : WorkOrder) (row_of_time row_of_arc : ℤ → R) (g : Block) (means : ℕ → Entry) (b : RowBlock R) : Type 0 where
  pub arc_is : (a : Arc R) → Live b a → IsArc order row_of_arc g means a
  pub arc_has : (n : ℕ) (e : LiveArc) → graph.Live g.arcs n e → (a : Arc R) × Live b a × (a.number ≡ n)
  pub start_is : (v : ℕ) → v < node_count → b.start (order.place v) ≡ on_some row_of_time (slice_index_or g.starts v None)
  pub end_is : (v : ℕ) → v < node_count → b.end (order.place v) ≡ on_some row_of_time (slice_index_or g.ends v None)
  -- each path of the block is a path of the graph, and each of the graph one of the block
  pub walked : (u v : ℕ) (es : List (Arc R)) → u < node_count → v < node_count
      → Leads b (order.place u) es (order.place v) → Walks g.arcs u (numbers es) v
  pub led : (u v : ℕ) (ns : List ℕ) → Walks g.arcs u ns v → (es : List (Arc R)) × Leads b (order.place u) es (order.place v) × (numbers es ≡ ns)

-- an arc with this trim and this entry of its source has ticks
abbrev pub HasTicks : ℤ → Entry → Type 0
HasTicks trim entry = (d : ℤ) × (entry ≡ Ok d) × Within 1000000 (d +ℤ trim)

-- why arc n has none
pub data NoTicks (n : ℕ) (trim : ℤ) (entry : Entry) : Untimed → Type 0 where
  by_fault : (f : Fault) → entry ≡ Err f → NoTicks n trim entry (faulty f)
  by_range : (d : ℤ) → entry ≡ Ok d → (Within 1000000 (d +ℤ trim) → ⊥) → NoTicks n trim entry (beyond n)

-- x is why a live arc has no ticks, and every lower live arc has some
pub record Stops (g : Block) (means : ℕ → Entry) (x : Untimed) : Type 0 where
  pub number : ℕ
  pub arc : LiveArc
  pub live : graph.Live g.arcs number arc
  pub stopped : NoTicks number arc.trim (means number) x
  pub lower : (n : ℕ) (e : LiveArc) → n < number → graph.Live g.arcs n e → HasTicks e.trim (means n)
