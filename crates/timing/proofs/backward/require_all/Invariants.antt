use Rattle.std.proofs.Common.{◌+◌, get_or}
use Rattle.timing.specs.Measured.{measured}
use Rattle.timing.specs.TimedBlock.{rows_of}
use Rattle.timing.specs.RequiredFrom.{RequiredFrom}
use Rattle.timing.proofs.backward.require_all.Given as goal

abbrev pub invariant-loop-node : goal.invariant-loop-node
invariant-loop-node g l =
    let m = g.M.Measure in
    RequiredFrom m.row (measured m) (rows_of m l.block) 256 (get_or l.firsts (l.node + 1) 0) l.lines l.required
