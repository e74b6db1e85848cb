-- The ledger, kept from the acts alone, and a run of acts.
use Rattle.std.specs.Prelude.{◌≡◌, ℕ, Bool, true, false, cond, List, length, ℤ, Some, None, Ok, Err, Option, Result, ◌≢◌}
use Rattle.graph.specs.Block.{Block, with_trim, arc_at}
use Rattle.graph.specs.Trials.{earlier_of}
use Rattle.ledger.specs.declared.words.Act.{Act}
use Rattle.ledger.specs.declared.words.Act.TheVariants.{Make, Open, Read, End}
use Rattle.ledger.specs.declared.words.Reply.{Reply}
use Rattle.ledger.specs.declared.words.Misuse.{Misuse}
use Rattle.ledger.specs.declared.words.Misuse.TheVariants.{Lengths, Nesting}
use Rattle.ledger.specs.Answers.{Answer, done, shows, call_answer}
use Rattle.ledger.specs.Calls.{Calls}
use Rattle.ledger.specs.Histories.{RunsBy, nested_by}

-- the trial of a ledger: none is open, a refused one is, or an accepted one, with its arc and that arc's earlier trim
pub data Trying : Type 0 where
  no_trial : Trying
  refused_trial : Trying
  trial_of : ℤ → ℤ → Trying

pub record Ledger : Type 0 where
  pub block : Block
  pub trial : Trying

abbrev pub closed : Block → Ledger
closed b = record { block = b; trial = no_trial }

-- what an opening with that answer keeps
abbrev pub kept_by : Result Unit ℕ → ℤ → ℤ → Trying
kept_by (Ok _) arc earlier = trial_of arc earlier
kept_by (Err n) arc earlier = refused_trial

abbrev pub opened : Block → ℤ → ℤ → Ledger
opened b arc ticks = record { block = (with_trim b arc ticks).after; trial = kept_by (with_trim b arc ticks).answer arc (earlier_of b arc) }

-- the end of a trial puts the earlier trim back
abbrev pub put_back : Block → Trying → Block
put_back b no_trial = b
put_back b refused_trial = b
put_back b (trial_of arc earlier) = (with_trim b arc earlier).after

-- l is the ledger before the act, l' after it. Under an open trial only readings come.
abbrev pub Acts : Ledger → Act → Answer → Ledger → Type 0
Acts l (Make call) a l' = (l.trial ≡ no_trial) × (l'.trial ≡ no_trial) × Calls l.block call a l'.block
Acts l (Open arc ticks) a l' = (l.trial ≡ no_trial) × (a ≡ call_answer (with_trim l.block arc ticks).answer) × (l' ≡ opened l.block arc ticks)
Acts l (Read arc) a l' = (a ≡ shows (arc_at l.block arc)) × (l' ≡ l)
Acts l End a l' = (l.trial ≢ no_trial) × (a ≡ done) × (l' ≡ closed (put_back l.block l.trial))

-- the acts in their order, each with its answer
abbrev pub Runs : Ledger → List Act → List Answer → Ledger → Type 0
Runs l acts answers l' = RunsBy Acts l acts answers l'

-- whether a trial is open after an act, where the flag says whether one is before it; nothing where the act may not come
abbrev pub open_after : Act → Bool → Option Bool
open_after (Make call) trying = cond trying None (Some false)
open_after (Open arc ticks) trying = cond trying None (Some true)
open_after (Read arc) trying = Some trying
open_after End trying = cond trying (Some false) None

-- each trial is ended before the next call, and the last before the end
abbrev pub nested : List Act → Bool → Bool
nested acts trying = nested_by open_after acts trying

-- when a list of acts is not run
abbrev pub Misused : Misuse → List Act → List Reply → Type 0
Misused Lengths acts replies = length replies ≡ length acts → ⊥
Misused Nesting acts replies = (length replies ≡ length acts) × (nested acts false ≡ false)
