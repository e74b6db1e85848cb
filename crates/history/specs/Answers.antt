-- What the steps of a history answer.
use Rattle.std.specs.Prelude.{ℕ, Option, Result}
use Rattle.std.specs.Result.{result_map_both}
use Rattle.ledger.specs.Answers as answers
use Rattle.sheet.specs.Traces.{refusal_number}
use Rattle.timing.specs.Refusals.{Refused, refused_time}
use Rattle.history.specs.declared.steps.StepReply.{StepReply}
use Rattle.history.specs.declared.steps.StepReply.TheVariants.{Act, Time, Trace}

pub data Answer : Type 0 where
  -- what an act answers
  acted : answers.Answer → Answer
  -- the number of lines, or a refusal with what is given
  timed : Result ℕ Refused → Answer
  -- the number of arcs, or nothing, or the number of a refusal
  traced : Result (Option ℕ) ℕ → Answer

-- what each reply says
abbrev pub answer_of : StepReply → Answer
answer_of (Act r) = acted (answers.answer_of r)
answer_of (Time r) = timed (result_map_both (λ n. n) refused_time r)
answer_of (Trace r) = traced (result_map_both (λ o. o) refusal_number r)
