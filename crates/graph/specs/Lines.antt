-- Loads: a file's value lines make their calls in order, all or none.
use Rattle.std.specs.Prelude.{◌≡◌, ℕ, ◌+◌, List, [], ◌∷◌, Some, None, Ok, Err, Option, Result, MatchResult}
use Rattle.reader.specs.declared.records.Kind.{Kind}
use Rattle.reader.specs.declared.records.Kind.TheVariants.{Arcs, Bounds, FalseSets}
use Rattle.reader.specs.declared.records.Side.TheVariants.{Start, End}
use Rattle.reader.specs.declared.records.Record.{Record}
use Rattle.reader.specs.declared.records.Record.TheVariants.{Arc, Delay, Bound, Pair}
use Rattle.reader.specs.declared.faults.FileRefusal.{FileRefusal}
use Rattle.reader.specs.declared.faults.FileFault.TheVariants.{Call}
use Rattle.reader.specs.Format.{Scan}
use Rattle.reader.specs.Loading.{Leaves}
use Rattle.graph.specs.declared.parts.GraphFile.{GraphFile}
use Rattle.graph.specs.declared.parts.GraphFile.TheVariants as of
use Rattle.graph.specs.Block.{Block, Outcome, verdict, with_arc, with_start, with_end}
use Rattle.graph.specs.Pair.{Paired}

abbrev pub kind_of : GraphFile → Kind
kind_of of.Arcs = Arcs
kind_of of.Bounds = Bounds
kind_of of.FalseSets = FalseSets

abbrev pub Gives : {A : Type 0} → Outcome A → Result Unit ℕ → Block → Type 0
Gives w r b' = (r ≡ verdict w.answer) × (b' ≡ w.after)

-- what a value line's call answers and leaves; no file of a graph has a delay
abbrev pub Line : Block → Record → Result Unit ℕ → Block → Type 0
Line b (Arc from to) r b' = Gives (with_arc b from to) r b'
Line b (Bound node Start ticks) r b' = Gives (with_start b node ticks) r b'
Line b (Bound node End ticks) r b' = Gives (with_end b node ticks) r b'
Line b (Pair set from to) r b' = Paired b set from to r b'
Line b (Delay arc ticks) r b' = (r ≡ Err 6) × (b' ≡ b)

-- the lines' calls, of which the first is line l, and then the file's own ending:
-- the block after all of them, or the first refusal: a call's, by its number, in its line, or else the file's own
abbrev pub Lines : Block → List Record → Option FileRefusal → ℕ → Result Block FileRefusal → Type 0
Lines b [] None l w = w ≡ Ok b
Lines b [] (Some e) l w = w ≡ Err e
Lines b (x ∷ xs) e l w = (r : Result Unit ℕ) × (m : Block) × Line b x r m × MatchResult r (λ _. Lines m xs e (l + 1) w) (λ n. w ≡ Err (record { fault = Call n; line = l }))

-- all or none
abbrev pub Loads : Block → Scan → Result Unit FileRefusal → Block → Type 0
Loads b file r b' = (w : Result Block FileRefusal) × Lines b file.records file.ending 2 w × Leaves w b r b'
