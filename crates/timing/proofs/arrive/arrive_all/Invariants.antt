use Rattle.std.proofs.Common.{◌≡◌, length}
use Rattle.timing.specs.Measured.{measured}
use Rattle.timing.specs.TimedBlock.{rows_of}
use Rattle.timing.specs.Arrived.{Arrived}
use Rattle.timing.proofs.arrive.arrive_all.Given as goal

abbrev pub invariant-loop-node : goal.invariant-loop-node
invariant-loop-node g l =
    let m = g.M.Measure in
    record {
      sized : length l.firsts ≡ 257;
      arrived : Arrived m.row (measured m) (rows_of m l.block) l.node l.lines l.times l.firsts l.base;
    }
