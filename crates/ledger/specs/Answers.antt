-- What a history's acts answer.
use Rattle.std.specs.Prelude.{ℕ, Some, None, Ok, Err, Option, Result}
use Rattle.reader.specs.declared.faults.FileRefusal.{FileRefusal}
use Rattle.graph.specs.declared.parts.LiveArc.{LiveArc}
use Rattle.graph.specs.Refusals.{refusal_number}
use Rattle.ledger.specs.declared.words.Reply.{Reply}
use Rattle.ledger.specs.declared.words.Reply.TheVariants.{Done, Taken, Refused, FileRefused, Shown}

pub data Answer : Type 0 where
  -- accepted
  done : Answer
  -- accepted, with the number of the new arc
  taken : ℕ → Answer
  -- refused by a number
  refused : ℕ → Answer
  -- a file is refused, for a fault in a line; line 0 is the whole file
  refused_file : FileRefusal → Answer
  -- the arc of a number, if it is live
  shows : Option LiveArc → Answer

-- what each reply says
abbrev pub answer_of : Reply → Answer
answer_of Done = done
answer_of (Taken n) = taken n
answer_of (Refused e) = refused (refusal_number e)
answer_of (FileRefused e) = refused_file e
answer_of (Shown o) = shows o

abbrev pub call_answer : Result Unit ℕ → Answer
call_answer (Ok _) = done
call_answer (Err n) = refused n

abbrev pub arc_answer : Result ℕ ℕ → Answer
arc_answer (Ok n) = taken n
arc_answer (Err n) = refused n

abbrev pub load_answer : Result Unit FileRefusal → Answer
load_answer (Ok _) = done
load_answer (Err e) = refused_file e

abbrev pub open_answer : Option ℕ → Answer
open_answer None = done
open_answer (Some n) = refused n
