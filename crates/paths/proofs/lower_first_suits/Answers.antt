use Rattle.paths.proofs.Making.{lower_first_suits_lem}
use Rattle.paths.proofs.lower_first_suits.Goals as goal

pub returns : goal.returns
returns c = lower_first_suits_lem
