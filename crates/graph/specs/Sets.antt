-- The false sets that hold an arc, as the sum of 2 ^ s over the sets s.
use Rattle.std.specs.Prelude.{ℕ, ◌-◌, ◌/◌, ◌%◌, ◌^◌, Bool, cond, not, map, ℤ, Some, None, Option, ◌==◌, bit_and, bit_or, unsigned_abs}
use Rattle.graph.specs.declared.parts.LiveArc.{LiveArc}
use Rattle.graph.specs.Ranges.{is_set}
use Rattle.graph.specs.Block.{Block, Outcome, accepted, refused}

-- does set s hold an arc with these sets?
abbrev pub holds : ℕ → ℕ → Bool
holds m s = m / 2 ^ s % 2 == 1

abbrev pub with_set : ℕ → ℕ → ℕ
with_set m s = bit_or m (2 ^ s)

abbrev pub without_set : ℕ → ℕ → ℕ
without_set m s = bit_and m (65535 - 2 ^ s)

abbrev pub set_again : LiveArc → ℕ → LiveArc
set_again e m = record { from = e.from; to = e.to; trim = e.trim; sets = m }

-- the arc, if any, in set s too
abbrev pub in_set : ℕ → Option LiveArc → Option LiveArc
in_set s None = None
in_set s (Some e) = Some (set_again e (with_set e.sets s))

-- the arc, if any, out of set s
abbrev pub cleared : ℕ → Option LiveArc → Option LiveArc
cleared s None = None
cleared s (Some e) = Some (set_again e (without_set e.sets s))

abbrev pub with_cleared : Block → ℤ → Outcome Unit
with_cleared b set =
    cond (not (is_set set)) (refused b 6)
    (accepted tt (record { taken = b.taken; arcs = map (cleared (unsigned_abs set)) b.arcs; starts = b.starts; ends = b.ends }))
