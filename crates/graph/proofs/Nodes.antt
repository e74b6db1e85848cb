-- A number that passes the test of a node is below 256.
use Rattle.std.proofs.Common.{◌≡◌, ◌<◌, true, ℤ, nat_abs, arith}
use Rattle.graph.specs.Ranges.{is_node}
use Rattle.graph.proofs.Marks.{in_bounds}

pub node_below : (v : ℤ) → is_node v ≡ true → nat_abs v < 256
node_below v h = let l = (in_bounds v 255 h).0 in omega arith
