use Rattle.timing.proofs.Searching.{quarters_stop}
use Rattle.timing.proofs.search.below_by_quarters.Goals as goal

pub returns-clause-stops : goal.returns-clause-stops
returns-clause-stops c =
    quarters_stop c.args.lines.now c.requires.sorted c.args.tag c.args.base c.args.quarter _ _ _ c.requires.some c.requires.in_bounds c.is_below-first.ensures c.is_below-second.ensures c.is_below-third.ensures
