use Rattle.timing.proofs.Searching.{all_below, stops_there}
use Rattle.timing.proofs.search.reach.Goals as goal

pub returns-clause-below : goal.returns-clause-below
returns-clause-below c = all_below c.args.lines.now c.requires c.args.tag c.loop-left.base c.loop-left.left c.count_below.result c.loop-left.invariant c.count_below.ensures.within c.count_below.ensures.below

pub returns-clause-stops : goal.returns-clause-stops
returns-clause-stops c = stops_there c.args.lines.now c.requires c.args.tag c.loop-left.base c.loop-left.left c.count_below.result c.loop-left.invariant c.count_below.ensures.within c.count_below.ensures.stops
