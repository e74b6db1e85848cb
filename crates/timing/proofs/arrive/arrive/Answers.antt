use Rattle.std.proofs.Common.{ℕ, ◌+◌, ◌<◌, List, [], ◌++◌, length, Option, sym, ap, ◌∙◌, subst}
use Rattle.std.specs.List.{flat_map}
use Rattle.measure.specs.Rows.{Row, on_some}
use Rattle.graph.specs.Index.{listed}
use Rattle.paths.specs.Sheets.{started, entered}
use Rattle.timing.specs.Measured.{measured}
use Rattle.timing.specs.TimedBlock.{arcs_in, rows_of, brings}
use Rattle.timing.specs.Lines.{front, Filled}
use Rattle.timing.specs.Bringing.{AllReady}
use Rattle.paths.proofs.Entering.{entered_sorted}
use Rattle.timing.proofs.Crossed.{entering_on}
use Rattle.timing.proofs.Passing.{arrive_full}
use Rattle.timing.proofs.arrive.arrive.Goals as goal

pub returns-in_err-count : goal.returns-in_err-count
returns-in_err-count g c =
    let m = g.M.Measure in
    let ms = measured m in
    let start = (rows_of m c.args.block.now).start c.args.node in
    let cs = started c.args.node start in
    let ds = flat_map (brings m c.args.block.now c.args.firsts.now (front m.row c.args.base c.args.lines.now c.args.times.now)) (listed c.args.heads.now c.args.node) in
    let e = c.time_row-start.ensures ∙ ap (on_some m.row_of_time) c.start.ensures in
    let full : length c.args.lines.now < c.args.base + length (entered ms cs []) =
    subst (λ (o : Option (Row m.width)). length c.args.lines.now < c.args.base + length (entered ms (started c.args.node o) [])) e c.in_err-count.ensures in
    subst (λ r. Filled m.row c.args.base c.args.lines.now c.args.times.now (entered ms (cs ++ ds) []) c.start_line.new.lines c.start_line.new.times r) (sym c.from_residual.ensures)
    (arrive_full m.row ms cs ds c.args.base (length c.args.lines.now) full)

pub bring_all-requires : goal.bring_all-requires
bring_all-requires g c =
    let m = g.M.Measure in
    let s = c.in_ok-count.ensures in
    record {
      ready = subst (λ (ks : List ℕ). AllReady (arcs_in c.args.block.now) c.args.firsts.now c.args.base ks) (sym c.arcs_at.ensures) c.requires.ready;
      entering = entering_on m c.args.base 0 c.in_ok-count.count c.args.lines.now c.start_line.new.lines c.args.times.now c.start_line.new.times _ c.requires.entering s (entered_sorted (measured m) (started c.args.node (on_some m.row c.time_row-start.result)) [] tt);
    }
