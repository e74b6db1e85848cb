use Rattle.std.proofs.Common.{sym}
use Rattle.timing.proofs.Tabled.{crossing_near}
use Rattle.timing.proofs.require.AskedLines.ask_over.Goals as goal

pub ask_line-requires : goal.ask_line-requires
ask_line-requires g c =
    let live = sym c.in_ok-arc.ensures in
    let beyond = c.requires.beyond c.in_ok-arc.arc live in
    record {
      first_le_last = beyond.rising;
      last_in_bounds = beyond.stand;
      sorted = beyond.sorted;
      asks_between = c.requires.within c.in_ok-arc.arc live;
      bounded = crossing_near g.M.Measure c.args.block.now g.met.M.Measure.laws c.args.number c.in_ok-arc.arc live c.crossing-crossing.result c.crossing-crossing.ensures;
    }
