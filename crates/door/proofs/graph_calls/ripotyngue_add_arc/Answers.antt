use Rattle.ledger.specs.declared.words.Act.TheVariants.{Make}
use Rattle.ledger.specs.declared.words.Call.TheVariants.{AddArc}
use Rattle.held.specs.Held.{held_in, Serves}
use Rattle.door.proofs.Numbers.{of_two}
use Rattle.door.proofs.graph_calls.ripotyngue_add_arc.Goals as goal

pub returns : goal.returns
returns c =
    of_two (λ x y. Serves (held_in c.args.held.now) (Make (AddArc x y)) c.serve.result (held_in c.serve.new.held))
    c.args.from c.args.to c.ranges.from c.ranges.to c.serve.ensures
