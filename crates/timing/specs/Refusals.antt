-- The number of each refusal of a timing, and what is given with it.
use Rattle.std.specs.Prelude.{ℕ, List, ◌++◌, codes, decimal}
use Rattle.delay.specs.declared.fault.Fault.{Fault}
use Rattle.delay.specs.Causes.{fault_words}
use Rattle.paths.specs.Graphs.{Untimed, faulty, beyond}
use Rattle.timing.specs.declared.refusals.TimeRefusal.{TimeRefusal}
use Rattle.timing.specs.declared.refusals.TimeRefusal.TheVariants.{WrongLength, SourceFault, OutOfRange, TooFewLines}

-- what is given: nothing, the source's fault, whole, or the number of an arc
pub data With : Type 0 where
  nothing : With
  the_fault : Fault → With
  the_arc : ℕ → With

pub record Refused : Type 0 where
  pub number : ℕ
  pub given : With

-- 14 a wrong length, 12 a fault, 13 ticks plus trim out of range, 15 fewer lines than arrivals
abbrev pub refused_time : TimeRefusal → Refused
refused_time WrongLength = record { number = 14; given = nothing }
refused_time (SourceFault f) = record { number = 12; given = the_fault f }
refused_time (OutOfRange n) = record { number = 13; given = the_arc n }
refused_time TooFewLines = record { number = 15; given = nothing }

-- the words of each, and what it is shown by
abbrev pub time_cause : TimeRefusal → List ℕ
time_cause WrongLength = codes "a table has the wrong length"
time_cause (SourceFault f) = fault_words f
time_cause (OutOfRange n) = codes "the delay and trim of arc " ++ decimal n ++ codes " are out of range"
time_cause TooFewLines = codes "the tables have too few lines"

abbrev pub time_words : TimeRefusal → List ℕ
time_words r = codes "number " ++ decimal (refused_time r).number ++ codes ": " ++ time_cause r

-- the refusal of a timing that has no block
abbrev pub stopped : Untimed → TimeRefusal
stopped (faulty f) = SourceFault f
stopped (beyond n) = OutOfRange n
