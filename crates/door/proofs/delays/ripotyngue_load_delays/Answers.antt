use Rattle.door.proofs.delays.ripotyngue_load_delays.Goals as goal

pub returns : goal.returns
returns c = c.load_delays.ensures
