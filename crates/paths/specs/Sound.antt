-- The blocks that the theorems are about.
use Rattle.std.specs.Prelude.{◌≡◌, ℕ, ◌<◌, ◌≤◌, Some}
use Rattle.paths.specs.Blocks.{Arc, RowBlock, Live, Rising, ByNumber}
use Rattle.paths.specs.Sheets.{no_arc}

-- at most 256 nodes, n; arcs that rise, listed by their numbers; and small values at the arcs, starts and ends
pub record Sound {R : Type 0} (Small : R → Type 0) (b : RowBlock R) (n : ℕ) : Type 0 where
  pub few : n ≤ 256
  pub rising : Rising b
  pub below : (e : Arc R) → Live b e → e.to < n
  pub numbered : (e : Arc R) → Live b e → e.number < no_arc
  pub by_number : ByNumber b.arcs
  pub arcs : (e : Arc R) → Live b e → Small e.row
  pub starts : (v : ℕ) (x : R) → b.start v ≡ Some x → Small x
  pub ends : (v : ℕ) (x : R) → b.end v ≡ Some x → Small x
