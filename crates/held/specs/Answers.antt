-- What an answer says.
use Rattle.std.specs.Prelude.{ℕ, true, false, ℤ, pos, Some, None, Ok, Err, Option, Result}
use Rattle.reader.specs.Faults.{number_of}
use Rattle.delay.specs.Causes.{cause_number}
use Rattle.ledger.specs.Answers as ledger
use Rattle.ledger.specs.Answers.{done, taken, shows}
use Rattle.timing.specs.Refusals.{With, nothing, the_fault, the_arc, Refused}
use Rattle.held.specs.declared.answer.Answer.{Answer}

abbrev pub accepted : Answer
accepted = record { number = 0; shown = false; ticks = pos 0; value = 0; line = 0; arc = 0; cause = 0; level = 0 }

-- accepted, with a count or the number of a new arc
abbrev pub with_value : ℕ → Answer
with_value n = record accepted { shown = true; value = n }

-- accepted, with the ticks of a node
abbrev pub with_ticks : ℤ → Answer
with_ticks t = record accepted { shown = true; ticks = t }

-- accepted, with the ticks if there are any
abbrev pub optional : Option ℤ → Answer
optional None = accepted
optional (Some t) = with_ticks t

-- refused by a number
abbrev pub refused : ℕ → Answer
refused n = record accepted { number = n }

-- refused by a number, in a line of a file
abbrev pub refused_at : ℕ → ℕ → Answer
refused_at n l = record accepted { number = n; line = l }

-- the answer of an act
abbrev pub told : ledger.Answer → Answer
told done = accepted
told (taken n) = with_value n
told (ledger.refused n) = refused n
told (ledger.refused_file e) = refused_at (number_of e.fault) e.line
told (shows o) = accepted

-- a refusal with what is given
abbrev pub refused_with : ℕ → With → Answer
refused_with n nothing = refused n
refused_with n (the_fault f) = record accepted { number = n; arc = f.arc; cause = cause_number f.cause; level = f.level }
refused_with n (the_arc arc) = record accepted { number = n; arc = arc }

-- the count of lines, or the refusal
abbrev pub told_time : Result ℕ Refused → Answer
told_time (Ok n) = with_value n
told_time (Err r) = refused_with r.number r.given

-- the count of arcs, nothing where the node has no slack, or the number of the refusal
abbrev pub told_trace : Result (Option ℕ) ℕ → Answer
told_trace (Ok None) = accepted
told_trace (Ok (Some n)) = with_value n
told_trace (Err n) = refused n
