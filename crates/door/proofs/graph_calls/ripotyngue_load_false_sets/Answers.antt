use Rattle.door.proofs.graph_calls.ripotyngue_load_false_sets.Goals as goal

pub returns : goal.returns
returns c = c.serve.ensures
