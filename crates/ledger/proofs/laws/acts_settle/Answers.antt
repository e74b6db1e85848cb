use Rattle.ledger.proofs.Settling.{all_settled}
use Rattle.ledger.proofs.laws.acts_settle.Goals as goal

pub returns : goal.returns
returns c = all_settled
