use Rattle.door.proofs.in_ticks.ripotyngue_time_ticks.Goals as goal

pub returns : goal.returns
returns c = c.time.ensures
