-- The order of the nodes: the lower first. Every arc goes from an earlier node to a later one.
use Rattle.std.specs.Prelude.{ℕ, ◌<◌, Bool, nat_lt}

abbrev pub Precedes : ℕ → ℕ → Type 0
Precedes u v = u < v

abbrev pub precedes : ℕ → ℕ → Bool
precedes u v = nat_lt u v

-- the node at a place of the order, counted from 0
abbrev pub nth_node : ℕ → ℕ
nth_node place = place
