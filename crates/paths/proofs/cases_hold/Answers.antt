use Rattle.std.proofs.Common.{refl}
use Rattle.graph.specs.Block.{blank}
use Rattle.graph.specs.Computed.{lies_between}
use Rattle.paths.specs.Blocks.{begin_sets, end_sets, pass, passes}
use Rattle.paths.proofs.cases_hold.Goals as goal

pub returns : goal.returns
unfolding begin_sets end_sets pass passes blank lies_between
returns c = refl
