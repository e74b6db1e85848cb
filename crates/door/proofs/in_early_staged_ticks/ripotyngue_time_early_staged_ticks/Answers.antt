use Rattle.door.proofs.in_early_staged_ticks.ripotyngue_time_early_staged_ticks.Goals as goal

pub returns : goal.returns
returns c = c.time.ensures
