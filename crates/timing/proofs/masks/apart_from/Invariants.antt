use Rattle.std.proofs.Common.{◌≡◌, ℕ, ◌<◌, length, get_or}
use Rattle.timing.specs.Masks.{sets_without}
use Rattle.timing.proofs.masks.apart_from.Given as goal

abbrev pub invariant-loop-v : goal.invariant-loop-v
invariant-loop-v l = record { sized : length l.left ≡ 256; left : (k : ℕ) → k < l.v → get_or l.left k 0 ≡ sets_without (get_or l.others k 0) (get_or l.masks k 0) }
