use Rattle.std.proofs.Common.{rules, w32, to_z, of_z}
use Rattle.graph.specs.Block.{block_of}
use Rattle.graph.specs.Trials.{Opened}
use Rattle.graph.proofs.Back.{ended_back}
use Rattle.graph.proofs.store.TimingGraph.trial.Goals as goal

pub returns-clause-back : goal.returns-clause-back
returns-clause-back c =
    let opened : Opened (block_of c.args.self.now) c.args.arc c.args.ticks (block_of c.set_trim.new.self) (to_z w32 (of_z w32 c.args.arc)) (to_z w32 (of_z w32 c.trim_of-earlier.result)) c.err-refusal.result =
    search rules in
    ended_back _ _ _ _ _ _ _ opened c.args.self.now.trimmed
