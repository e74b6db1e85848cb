-- What the reader's load does is what the lines' calls do.
use Rattle.std.proofs.Common.{◌≡◌, ℕ, ◌+◌, List, [], ◌∷◌, ℤ, Some, None, Ok, Err, Option, Result, sym, refl, ◌∙◌, subst, arith, MatchResult}
use Rattle.reader.specs.declared.records.Side.TheVariants.{Start, End}
use Rattle.reader.specs.declared.records.Record.{Record}
use Rattle.reader.specs.declared.records.Record.TheVariants.{Arc, Delay, Bound, Pair}
use Rattle.reader.specs.declared.faults.FileRefusal.{FileRefusal}
use Rattle.reader.specs.declared.faults.FileFault.TheVariants.{Call}
use Rattle.reader.specs.Format.{Scan}
use Rattle.reader.specs.Loading.{Leaves, Answers, replay, loaded}
use Rattle.graph.specs.declared.store.TimingGraph.{TimingGraph}
use Rattle.graph.specs.Block.{Block, Kept, block_of, verdict}
use Rattle.graph.specs.Pair.{Paired}
use Rattle.graph.specs.Computed.{line_outcome, after_by, line_step, with_pair}
use Rattle.graph.specs.Lines.{Line, Lines, Loads}
use Rattle.graph.proofs.Keeping.{kept_arc, kept_start, kept_end, kept_paired}
use Rattle.graph.proofs.Leading.{with_pair_holds, paired_same, paired_refused}

verdict_same : (r : Result Unit ℕ) → r ≡ verdict r
verdict_same (Ok tt') = refl
verdict_same (Err n) = refl

pub line_holds : (b : Block) (x : Record) → Kept b → Line b x (line_outcome b x).answer (line_outcome b x).after
line_holds b (Arc u v) k = (refl, refl)
line_holds b (Bound n Start t) k = (verdict_same _, refl)
line_holds b (Bound n End t) k = (verdict_same _, refl)
line_holds b (Pair s u v) k = with_pair_holds b s u v k.rising
line_holds b (Delay a t) k = (refl, refl)

pub kept_line : (b : Block) (x : Record) (r : Result Unit ℕ) (m : Block) → Kept b → Line b x r m → Kept m
kept_line b (Arc u v) r m k l = subst Kept (sym l.1) (kept_arc b u v k)
kept_line b (Bound n Start t) r m k l = subst Kept (sym l.1) (kept_start b n t k)
kept_line b (Bound n End t) r m k l = subst Kept (sym l.1) (kept_end b n t k)
kept_line b (Pair s u v) r m k l = kept_paired b s u v r m k l
kept_line b (Delay a t) r m k l = subst Kept (sym l.1) k

pub lines_replay : (b : Block) (xs : List Record) (e : Option FileRefusal) (l : ℕ) → Kept b → Lines b xs e l (replay line_step xs e l b)
lines_replay b [] None l k = refl
lines_replay b [] (Some e) l k = refl
lines_replay b (x ∷ xs) e l k =
    let r = (line_outcome b x).answer in
    let m = (line_outcome b x).after in
    let held = line_holds b x k in
    (r, m, held, onward b xs e l r m (lines_replay m xs e (l + 1) (kept_line b x r m k held)))
  where
    onward : (b : Block) (xs : List Record) (e : Option FileRefusal) (l : ℕ) (r : Result Unit ℕ) (m : Block) → Lines m xs e (l + 1) (replay line_step xs e (l + 1) m)
        → MatchResult r (λ _. Lines m xs e (l + 1) (elim (after_by r m) [ Ok n ↦ replay line_step xs e (l + 1) n | Err n ↦ Err (record { fault = Call n; line = l }) ]))
        (λ n. (elim (after_by r m) [ Ok n ↦ replay line_step xs e (l + 1) n | Err n ↦ Err (record { fault = Call n; line = l }) ]) ≡ Err (record { fault = Call n; line = l }))
    onward b xs e l (Ok _) m h = h
    onward b xs e l (Err n) m h = refl

-- what a run on a copy answers is what the load answers, once the copy is kept after an accepted file alone
pub loads_ok : (b : Block) (file : Scan) (b' : Block) (r : Result Unit FileRefusal) → Kept b → r ≡ Ok tt → (stop : Block) → Answers (loaded line_step file b) stop r b' → Loads b file (Ok tt) b'
loads_ok b file b' r k q stop a = (loaded line_step file b, lines_replay b file.records file.ending 2 k, leaves (loaded line_step file b) a)
  where
    leaves : (w : Result Block FileRefusal) → Answers w stop r b' → Leaves w b (Ok tt) b'
    leaves (Ok n) a = (refl, a.1)
    leaves (Err e) a = absurd (let h = a.0 in let z : ◌≡◌ {A = ℕ} 0 1 = cc in omega arith)

pub loads_err : (b : Block) (file : Scan) (b' : Block) (r : Result Unit FileRefusal) (e : FileRefusal) → Kept b → r ≡ Err e → (stop : Block) → Answers (loaded line_step file b) stop r b'
    → Loads b file (Err e) b
loads_err b file b' r e k q stop a = (loaded line_step file b, lines_replay b file.records file.ending 2 k, leaves (loaded line_step file b) a)
  where
    leaves : (w : Result Block FileRefusal) → Answers w stop r b' → Leaves w b (Err e) b
    leaves (Ok n) a = absurd (let h = a.0 in let z : ◌≡◌ {A = ℕ} 0 1 = cc in omega arith)
    leaves (Err f) a = (sym q ∙ a.0, refl)

-- a pair line: what the relation says is what the step computes
pair_leaves_by : (b : Block) (s u v : ℤ) (a : Result Unit ℕ) (m : Block) → Paired b s u v a m → Leaves (after_by a m) b a m
pair_leaves_by b s u v (Ok _) m p = (refl, refl)
pair_leaves_by b s u v (Err n) m p = (refl, paired_refused b s u v n m p)

pub pair_leaves : (b : Block) (s u v : ℤ) (r : Result Unit ℕ) (b' : Block) → Kept b → Paired b s u v r b' → Leaves (line_step b (Pair s u v)) b r b'
pair_leaves b s u v r b' k p =
    let w = with_pair b s u v in
    let held = with_pair_holds b s u v k.rising in
    let same = paired_same b s u v w.answer r w.after b' held p in
    subst (λ a. Leaves (line_step b (Pair s u v)) b a b') same.0 (subst (λ m. Leaves (line_step b (Pair s u v)) b w.answer m) same.1 (pair_leaves_by b s u v w.answer w.after held))

pub kept_of : (g : TimingGraph) → Kept (block_of g)
kept_of g = record { room = g.room; numbers = g.numbered; rising = g.rising; nodes = g.noded; trims = g.trimmed; starts = g.started; ends = g.ended }
