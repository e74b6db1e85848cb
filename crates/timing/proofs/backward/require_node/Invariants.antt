use Rattle.std.proofs.Common.{◌≤◌, length, get_or}
use Rattle.timing.specs.Measured.{measured}
use Rattle.timing.specs.TimedBlock.{rows_of}
use Rattle.timing.specs.RequiredFrom.{RequiredFrom}
use Rattle.timing.proofs.backward.require_node.Given as goal

abbrev pub invariant-loop-i : goal.invariant-loop-i
invariant-loop-i g l =
    let m = g.M.Measure in
    record { within : get_or l.firsts l.node 0 ≤ l.i; fit : l.i ≤ length l.lines; required : RequiredFrom m.row (measured m) (rows_of m l.block) 256 l.i l.lines l.required }
