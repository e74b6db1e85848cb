use Rattle.std.proofs.Common.{◌≡◌, length}
use Rattle.graph.specs.Block.{block_of}
use Rattle.timing.proofs.Asking.{AskedTo}
use Rattle.timing.proofs.ask.ask_all.Given as goal

abbrev pub invariant-loop-number : goal.invariant-loop-number
invariant-loop-number g l =
    let s = g.S.Source in
    record {
      sized : length l.ticks ≡ 1024;
      asked : AskedTo (s.means l.initial.source) (block_of l.graph).arcs l.ticks l.number;
      same : s.means l.source ≡ s.means l.initial.source;
      level : s.depth l.source ≡ s.depth l.initial.source;
    }
