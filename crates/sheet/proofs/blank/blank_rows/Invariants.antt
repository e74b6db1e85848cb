use Rattle.std.proofs.Common.{◌≡◌, map, take, replicate}
use Rattle.measure.specs.Rows.{zeros}
use Rattle.sheet.proofs.blank.blank_rows.Given as goal

abbrev pub invariant-loop-value : goal.invariant-loop-value
invariant-loop-value g l = map g.M.Measure.row (take l.value-index l.values) ≡ replicate l.value-index (zeros g.M.Measure.width)
