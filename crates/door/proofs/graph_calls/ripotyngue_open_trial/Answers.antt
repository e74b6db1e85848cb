use Rattle.ledger.specs.declared.words.Act.TheVariants.{Open}
use Rattle.held.specs.Held.{held_in, Serves}
use Rattle.door.proofs.Numbers.{of_two}
use Rattle.door.proofs.graph_calls.ripotyngue_open_trial.Goals as goal

pub returns : goal.returns
returns c =
    of_two (λ x y. Serves (held_in c.args.held.now) (Open x y) c.open_trial.result (held_in c.open_trial.new.held))
    c.args.arc c.args.ticks c.ranges.arc c.ranges.ticks c.open_trial.ensures
