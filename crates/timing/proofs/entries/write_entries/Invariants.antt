use Rattle.std.proofs.Common.{◌≡◌, map, take}
use Rattle.std.specs.List.{range_with_len}
use Rattle.measure.specs.Rows.{zeros}
use Rattle.timing.specs.Measured.{measured}
use Rattle.paths.specs.Sheets.{node_slack}
use Rattle.sheet.specs.Written.{entry_of, row_or}
use Rattle.timing.specs.Slacks.{timeds}
use Rattle.timing.proofs.entries.write_entries.Given as goal

abbrev pub invariant-loop-node : goal.invariant-loop-node
invariant-loop-node g l =
    let m = g.M.Measure in
    let ms = measured m in
    let ts = timeds m.row l.timed.lines.now l.timed.times.now l.timed.required.now in
    record {
      nodes : take l.node l.nodes ≡ map (λ v. entry_of (node_slack ms v ts)) (range_with_len 0 l.node);
      slacks : take l.node (map m.row l.slacks) ≡ map (λ v. row_or (zeros m.width) (node_slack ms v ts)) (range_with_len 0 l.node);
    }
