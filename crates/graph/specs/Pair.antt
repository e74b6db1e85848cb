-- What pair does: it adds to a set the live arcs on the paths between two nodes.
use Rattle.std.specs.Prelude.{◌≡◌, ℕ, Bool, cond, not, ◌||◌, length, ℤ, Ok, Err, Decides, MatchBool, Result, unsigned_abs}
use Rattle.graph.specs.Ranges.{is_node, is_set}
use Rattle.graph.specs.Block.{Block, arc_at}
use Rattle.graph.specs.Paths.{Between}
use Rattle.graph.specs.Sets.{in_set}

-- b' is b with each arc between the nodes in set s
pub record Marked (b : Block) (s from to : ℕ) (b' : Block) : Type 0 where
  pub taken : b'.taken ≡ b.taken
  pub numbers : length b'.arcs ≡ length b.arcs
  pub starts : b'.starts ≡ b.starts
  pub ends : b'.ends ≡ b.ends
  pub arcs : (n : ℕ) → (t : Bool) × Decides t (Between b.arcs from to n) × (arc_at b' n ≡ cond t (in_set s (arc_at b n)) (arc_at b n))

-- within range: accepted where some arc lies between, else refused by 11
abbrev pub PairedIn : Block → ℕ → ℕ → ℕ → Result Unit ℕ → Block → Type 0
PairedIn b s from to (Ok _) b' = ((n : ℕ) × Between b.arcs from to n) × Marked b s from to b'
PairedIn b s from to (Err e) b' = (e ≡ 11) × ((n : ℕ) → Between b.arcs from to n → ⊥) × (b' ≡ b)

abbrev pub Paired : Block → ℤ → ℤ → ℤ → Result Unit ℕ → Block → Type 0
Paired b s from to r b' =
    MatchBool (not (is_set s) || not (is_node from) || not (is_node to)) ((r ≡ Err 6) × (b' ≡ b)) (PairedIn b (unsigned_abs s) (unsigned_abs from) (unsigned_abs to) r b')
