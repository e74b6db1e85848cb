-- What the stored places mean.
use Rattle.std.specs.Prelude.{cond, List, map, ℤ, Some, None, Option}
use Rattle.graph.specs.declared.parts.LiveArc.{LiveArc}
use Rattle.graph.specs.declared.parts.ArcSlot.{ArcSlot}
use Rattle.graph.specs.declared.parts.TimeSlot.{TimeSlot}

abbrev pub slot_arc : ArcSlot → Option LiveArc
slot_arc s = cond s.live (Some s.arc) None

abbrev pub slot_time : TimeSlot → Option ℤ
slot_time s = cond s.set (Some s.ticks) None

abbrev pub arcs_of : List ArcSlot → List (Option LiveArc)
arcs_of slots = map slot_arc slots

abbrev pub times_of : List TimeSlot → List (Option ℤ)
times_of slots = map slot_time slots
