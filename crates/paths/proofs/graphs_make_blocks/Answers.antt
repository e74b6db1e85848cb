use Rattle.paths.proofs.TagLaws.{has_holds}
use Rattle.paths.proofs.OnGraphs.{graphs_are_sound, blocks_mirror, lowest_stops}
use Rattle.paths.proofs.graphs_make_blocks.Goals as goal

pub returns : goal.returns
returns c = record { sound = graphs_are_sound; mirrors = blocks_mirror; sets = has_holds; stops = lowest_stops }
