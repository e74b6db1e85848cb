use Rattle.std.proofs.Common.{◌≡◌, true, get_or, pos, sym, ap, ◌∙◌, subst, arith}
use Rattle.measure.specs.Rows.{zeros}
use Rattle.graph.specs.Ranges.{is_ticks}
use Rattle.timing.proofs.Sums.{read_ticks}
use Rattle.timing.proofs.Bringing.{row_at}
use Rattle.timing.proofs.block.TimedBlock.crossing.Goals as goal

pub arc_row-requires : goal.arc_row-requires
arc_row-requires g c =
    let b = c.args.self.now in
    let k = c.args.number in
    let t = get_or b.ticks k (pos 0) in
    let in_range = b.ticked k c.args.arc c.requires in
    subst (λ z. is_ticks z ≡ true) (sym (read_ticks t in_range)) in_range

pub returns : goal.returns
returns g c =
    let m = g.M.Measure in
    let b = c.args.self.now in
    let e = c.args.arc in
    let k = c.args.number in
    let t = get_or b.ticks k (pos 0) in
    let below = b.graph.now.numbered k e c.requires in
    λ i. record {
      arc = k;
      to = e.to;
      begins = b.masked.begins_are e.from (omega arith) i;
      sets = e.sets;
      ends = b.masked.ends_are e.to (omega arith) i;
      row = (c.arc_row.ensures ∙ ap m.row_of_arc (read_ticks t (b.ticked k e c.requires)) ∙ row_at m.row_of_arc b.ticks k (pos 0) (zeros m.width) (omega (arith, below, b.graph.now.room, b.sized))) i;
    }
