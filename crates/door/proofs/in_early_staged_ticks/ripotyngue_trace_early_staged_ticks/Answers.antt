use Rattle.sheet.specs.Tables.{tables_of}
use Rattle.held.specs.Measures.{early_staged_row}
use Rattle.held.specs.Timings.{Traces}
use Rattle.door.proofs.Numbers.{of_one}
use Rattle.door.proofs.in_early_staged_ticks.ripotyngue_trace_early_staged_ticks.Goals as goal

pub returns : goal.returns
returns c =
    let tables = tables_of early_staged_row c.args.lines.now c.args.arrivals.now c.args.required.now c.args.nodes.now c.args.slacks.now in
    of_one (λ n. Traces tables n c.args.list.now c.trace.result c.trace.new.list) c.args.node c.ranges.node c.trace.ensures
