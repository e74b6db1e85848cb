-- Which numbers may be given: nodes 0 to 255, arcs 0 to 1,023, sets 0 to 15, ticks within a million of zero.
use Rattle.std.specs.Prelude.{Bool, ◌&&◌, ℤ, pos, negsuc, int_le}

abbrev pub is_node : ℤ → Bool
is_node z = int_le (pos 0) z && int_le z (pos 255)

abbrev pub is_arc : ℤ → Bool
is_arc z = int_le (pos 0) z && int_le z (pos 1023)

abbrev pub is_set : ℤ → Bool
is_set z = int_le (pos 0) z && int_le z (pos 15)

abbrev pub is_ticks : ℤ → Bool
is_ticks z = int_le (negsuc 999999) z && int_le z (pos 1000000)
