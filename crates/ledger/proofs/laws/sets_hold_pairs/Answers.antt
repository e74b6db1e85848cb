use Rattle.ledger.proofs.Putting.{all_hold}
use Rattle.ledger.proofs.laws.sets_hold_pairs.Goals as goal

pub returns : goal.returns
returns c = all_hold c.format_laws.ensures.good
