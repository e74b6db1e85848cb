-- What holds of every run of acts.
use Rattle.std.specs.Prelude.{◌≡◌, ℕ, ◌<◌, true, ◌⊎◌, List, [], ◌∷◌, ◌++◌, length, ℤ, pos}
use Rattle.reader.specs.declared.records.Record.{Record}
use Rattle.reader.specs.declared.records.Record.TheVariants as line
use Rattle.reader.specs.declared.records.Kind.TheVariants as kind
use Rattle.reader.specs.Format.{scanned}
use Rattle.graph.specs.declared.parts.LiveArc.{LiveArc}
use Rattle.graph.specs.declared.parts.GraphFile.TheVariants.{Arcs, Bounds, FalseSets}
use Rattle.graph.specs.Kept.{Live}
use Rattle.graph.specs.Block.{Block, Kept, blank}
use Rattle.graph.specs.Sets.{holds}
use Rattle.graph.specs.Paths.{Between}
use Rattle.ledger.specs.declared.words.Call.{Call}
use Rattle.ledger.specs.declared.words.Call.TheVariants.{AddArc, DropArc, SetStart, SetEnd, SetTrim, Pair, Clear, Load}
use Rattle.ledger.specs.declared.words.Act.{Act}
use Rattle.ledger.specs.declared.words.Act.TheVariants.{Make, Open, Read, End}
use Rattle.ledger.specs.Answers.{Answer, done}
use Rattle.ledger.specs.Ledger.{Ledger, closed, Acts, Runs}

-- the acts settle the answers and the ledger after them
abbrev pub Settled : Type 0
Settled = (l : Ledger) (acts : List Act) (answers answers' : List Answer) (m m' : Ledger)
    → Runs l acts answers m → Runs l acts answers' m' → (answers ≡ answers') × (m ≡ m')

-- every ledger keeps what every graph keeps
abbrev pub LedgersKeep : Type 0
LedgersKeep = (acts : List Act) (answers : List Answer) (l : Ledger) → Runs (closed blank) acts answers l → Kept l.block

-- set s holds arc n
abbrev pub Holds : Block → ℕ → ℕ → Type 0
Holds b s n = (e : LiveArc) × Live b.arcs n e × (holds e.sets s ≡ true)

abbrev pub Filled : Block → ℕ → Type 0
Filled b s = (n : ℕ) × Holds b s n

-- one of the lines is the pair (s, from, to)
abbrev pub PairLine : List Record → ℕ → ℕ → ℕ → Type 0
PairLine [] s from to = ⊥
PairLine (x ∷ xs) s from to = (x ≡ line.Pair (pos s) (pos from) (pos to)) ⊎ PairLine xs s from to

-- the call makes the pair (s, from, to): by itself, or by a line of a false-set file
abbrev pub Pairs : Call → ℕ → ℕ → ℕ → Type 0
Pairs (Pair set from to) s u v = (set ≡ pos s) × (from ≡ pos u) × (to ≡ pos v)
Pairs (Load FalseSets bytes) s u v = PairLine (scanned kind.FalseSets bytes.now).records s u v
Pairs (Load Arcs bytes) s u v = ⊥
Pairs (Load Bounds bytes) s u v = ⊥
Pairs (AddArc from to) s u v = ⊥
Pairs (DropArc arc) s u v = ⊥
Pairs (SetStart node ticks) s u v = ⊥
Pairs (SetEnd node ticks) s u v = ⊥
Pairs (SetTrim arc ticks) s u v = ⊥
Pairs (Clear set) s u v = ⊥

-- a run in which set s is never empty, from the first ledger to the last
abbrev pub RunsFilled : ℕ → Ledger → List Act → List Answer → Ledger → Type 0
RunsFilled s l [] [] l' = Filled l.block s × (l' ≡ l)
RunsFilled s l [] (a ∷ answers) l' = ⊥
RunsFilled s l (x ∷ xs) [] l' = ⊥
RunsFilled s l (x ∷ xs) (a ∷ answers) l' = Filled l.block s × ((m : Ledger) × Acts l x a m × RunsFilled s m xs answers l')

-- in the run from l₀ to l a pair was accepted that had arc n on a live path between its nodes, and set s was not empty since
pub record Put (l₀ : Ledger) (acts : List Act) (answers : List Answer) (l : Ledger) (s n : ℕ) : Type 0 where
  pub earlier : List Act
  pub earlier_answers : List Answer
  pub before : Ledger
  pub call : Call
  pub after : Ledger
  pub later : List Act
  pub later_answers : List Answer
  pub from : ℕ
  pub to : ℕ
  pub acts_are : acts ≡ earlier ++ Make call ∷ later
  pub answers_are : answers ≡ earlier_answers ++ done ∷ later_answers
  pub ran : Runs l₀ earlier earlier_answers before
  pub accepted : Acts before (Make call) done after
  pub pairs : Pairs call s from to
  pub between : Between before.block.arcs from to n
  pub since : RunsFilled s after later later_answers l

-- a set holds an arc exactly when a pair accepted since the set was last empty had that arc on a live path between its nodes
abbrev pub SetsHoldPairs : Type 0
SetsHoldPairs = (acts : List Act) (answers : List Answer) (l : Ledger) → Runs (closed blank) acts answers l → (s n : ℕ) → s < 16
    → (Holds l.block s n → Put (closed blank) acts answers l s n) × (Put (closed blank) acts answers l s n → Holds l.block s n)

abbrev pub Readings : List Act → Type 0
Readings [] = Unit {0}
Readings (Make call ∷ xs) = ⊥
Readings (Open arc ticks ∷ xs) = ⊥
Readings (Read arc ∷ xs) = Readings xs
Readings (End ∷ xs) = ⊥

-- a run with a trial opened and ended in it leaves the ledger, and the answers before and after the trial, as if it had never been opened
abbrev pub Undone : Type 0
Undone = (xs reads ys : List Act) (arc ticks : ℤ) (answers : List Answer) (l : Ledger) → Readings reads
    → Runs (closed blank) (xs ++ Open arc ticks ∷ (reads ++ End ∷ ys)) answers l
    → (before : List Answer) × (under : List Answer) × (after : List Answer) × (answers ≡ before ++ (under ++ after))
    × (length before ≡ length xs) × (length after ≡ length ys) × Runs (closed blank) (xs ++ ys) (before ++ after) l
