-- What a caller's memory holds, and what an act on it answers and leaves.
use Rattle.std.specs.Prelude.{◌≡◌, ℕ, cond, Some, None, Option, ◌==◌}
use Rattle.graph.specs.Block.{block_of}
use Rattle.ledger.specs.declared.words.Act.{Act}
use Rattle.ledger.specs.declared.words.Act.TheVariants as act
use Rattle.ledger.specs.Answers as ledger
use Rattle.ledger.specs.Ledger.{Ledger, Trying, no_trial, refused_trial, trial_of, Acts}
use Rattle.held.specs.declared.memory.TheConstants.{SEAL}
use Rattle.held.specs.declared.answer.Answer.{Answer}
use Rattle.held.specs.declared.memory.HeldGraph.{HeldGraph}
use Rattle.held.specs.Answers.{refused, told}

abbrev pub trial_in : HeldGraph → Trying
trial_in h = cond h.on_trial (trial_of h.arc h.earlier) no_trial

-- a ledger, once a graph was made
abbrev pub held_in : HeldGraph → Option Ledger
held_in h = cond (h.seal == SEAL) (Some (record { block = block_of h.graph; trial = trial_in h })) None

-- a refused opening opens no trial
abbrev pub still_open : Trying → Trying
still_open no_trial = no_trial
still_open refused_trial = no_trial
still_open (trial_of arc earlier) = trial_of arc earlier

abbrev pub settled : Ledger → Ledger
settled l = record { block = l.block; trial = still_open l.trial }

-- the ledger goes by the act, and its answer is told
abbrev pub Goes : Ledger → Act → Answer → Option Ledger → Type 0
Goes l x a h = (y : ledger.Answer) × (m : Ledger) × Acts l x y m × (a ≡ told y) × (h ≡ Some (settled m))

abbrev pub Refuses : Ledger → ℕ → Answer → Option Ledger → Type 0
Refuses l n a h = (a ≡ refused n) × (h ≡ Some l)

-- an act that needs that no trial is open: refused by 31 where one is
abbrev pub ServesUnder : Trying → Ledger → Act → Answer → Option Ledger → Type 0
ServesUnder no_trial l x a h = Goes l x a h
ServesUnder refused_trial l x a h = Refuses l 31 a h
ServesUnder (trial_of arc earlier) l x a h = Refuses l 31 a h

-- h is what the memory holds before the act, h' after it; refused by 30 where no graph was made
abbrev pub Serves : Option Ledger → Act → Answer → Option Ledger → Type 0
Serves None x a h' = (a ≡ refused 30) × (h' ≡ None)
Serves (Some l) x a h' = ServesUnder l.trial l x a h'

-- the end of a trial: refused by 32 where none is open
abbrev pub EndsUnder : Trying → Ledger → Answer → Option Ledger → Type 0
EndsUnder no_trial l a h = Refuses l 32 a h
EndsUnder refused_trial l a h = Goes l act.End a h
EndsUnder (trial_of arc earlier) l a h = Goes l act.End a h

abbrev pub Ends : Option Ledger → Answer → Option Ledger → Type 0
Ends None a h' = (a ≡ refused 30) × (h' ≡ None)
Ends (Some l) a h' = EndsUnder l.trial l a h'
