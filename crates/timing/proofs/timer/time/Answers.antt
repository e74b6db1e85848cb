use Rattle.graph.specs.Block.{block_of}
use Rattle.timing.proofs.Agreeing.{timing_agrees}
use Rattle.timing.proofs.timer.time.Goals as goal

pub returns-clause-agree : goal.returns-clause-agree
returns-clause-agree g c =
    timing_agrees _ _ _ _ g.met.M.Measure.laws (g.S.Source.means c.args.source.now) (block_of c.args.graph.now) c.kept.ensures _ _ _ c.write_sheet.ensures.answer c.write_sheet.ensures.tables
