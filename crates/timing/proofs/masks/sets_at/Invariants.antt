use Rattle.std.proofs.Common.{◌≡◌, length, take}
use Rattle.graph.specs.Block.{block_of}
use Rattle.timing.specs.Masks.{Gathered}
use Rattle.timing.proofs.masks.sets_at.Given as goal

abbrev pub invariant-loop-number : goal.invariant-loop-number
invariant-loop-number l = record { sized : length l.masks ≡ 256; gathered : Gathered l.end (take l.number (block_of l.graph).arcs) l.masks }
