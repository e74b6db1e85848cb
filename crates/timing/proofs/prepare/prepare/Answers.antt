use Rattle.std.proofs.Common.{rules}
use Rattle.graph.specs.Block.{block_of}
use Rattle.timing.proofs.Masking.{parted}
use Rattle.timing.proofs.Tabled.{in_range}
use Rattle.timing.proofs.prepare.prepare.Goals as goal

pub invariant_of-result : goal.invariant_of-result
invariant_of-result g c =
    record {
      sized = search rules;
      masked = parted (block_of c.args.graph.now).arcs c.sets_at-outs.result c.sets_at-ins.result c.sets_at-outs.ensures c.sets_at-ins.ensures
          c.apart_from-begins.result c.apart_from-ends.result c.apart_from-begins.ensures c.apart_from-ends.ensures;
      ticked = λ k e l. in_range k e.trim (g.S.Source.means c.args.source.now k) _ (c.in_ok-ask_all.ensures.asked k e l).ticks_are;
    }
