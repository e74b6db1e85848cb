-- What each call answers, and what it makes of a ledger's block.
use Rattle.std.specs.Prelude.{◌≡◌, ℕ, Result}
use Rattle.reader.specs.declared.faults.FileRefusal.{FileRefusal}
use Rattle.reader.specs.Format.{scanned}
use Rattle.graph.specs.Block.{Block, Outcome, with_arc, without_arc, with_start, with_end, with_trim}
use Rattle.graph.specs.Sets.{with_cleared}
use Rattle.graph.specs.Pair.{Paired}
use Rattle.graph.specs.Lines.{kind_of, Loads}
use Rattle.ledger.specs.declared.words.Call.{Call}
use Rattle.ledger.specs.declared.words.Call.TheVariants.{AddArc, DropArc, SetStart, SetEnd, SetTrim, Pair, Clear, Load}
use Rattle.ledger.specs.Answers.{Answer, call_answer, arc_answer, load_answer}

abbrev pub Gives : {A : Type 0} → (Result A ℕ → Answer) → Outcome A → Answer → Block → Type 0
Gives f w a b' = (a ≡ f w.answer) × (b' ≡ w.after)

-- b is the block before the call, b' after it
abbrev pub Calls : Block → Call → Answer → Block → Type 0
Calls b (AddArc from to) a b' = Gives arc_answer (with_arc b from to) a b'
Calls b (DropArc arc) a b' = Gives call_answer (without_arc b arc) a b'
Calls b (SetStart node ticks) a b' = Gives call_answer (with_start b node ticks) a b'
Calls b (SetEnd node ticks) a b' = Gives call_answer (with_end b node ticks) a b'
Calls b (SetTrim arc ticks) a b' = Gives call_answer (with_trim b arc ticks) a b'
Calls b (Pair set from to) a b' = (r : Result Unit ℕ) × (a ≡ call_answer r) × Paired b set from to r b'
Calls b (Clear set) a b' = Gives call_answer (with_cleared b set) a b'
Calls b (Load file bytes) a b' = (r : Result Unit FileRefusal) × (a ≡ load_answer r) × Loads b (scanned (kind_of file) bytes.now) r b'
