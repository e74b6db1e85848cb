-- The acts of a run settle its answers and ledgers.
use Rattle.std.proofs.Common.{◌≡◌, ℕ, ◌+◌, List, [], ◌∷◌, Some, None, Ok, Err, Option, Result, sym, refl, ap, ◌∙◌, subst, MatchResult}
use Rattle.reader.specs.declared.records.Side.TheVariants.{Start, End as Ending}
use Rattle.reader.specs.declared.records.Record.{Record}
use Rattle.reader.specs.declared.records.Record.TheVariants as line
use Rattle.reader.specs.declared.faults.FileRefusal.{FileRefusal}
use Rattle.reader.specs.declared.faults.FileFault.TheVariants.{Call as Turned}
use Rattle.reader.specs.Format.{Scan, scanned}
use Rattle.reader.specs.Loading.{Leaves}
use Rattle.graph.specs.Block.{Block}
use Rattle.graph.specs.Lines.{Line, Lines, Loads, kind_of}
use Rattle.graph.proofs.Leading.{paired_same}
use Rattle.ledger.specs.declared.words.Call.{Call}
use Rattle.ledger.specs.declared.words.Call.TheVariants.{AddArc, DropArc, SetStart, SetEnd, SetTrim, Pair, Clear, Load}
use Rattle.ledger.specs.declared.words.Act.{Act}
use Rattle.ledger.specs.declared.words.Act.TheVariants.{Make, Open, Read, End}
use Rattle.ledger.specs.Answers.{Answer, call_answer, load_answer}
use Rattle.ledger.specs.Calls.{Calls}
use Rattle.ledger.specs.Ledger.{Ledger, Acts, Runs}
use Rattle.ledger.specs.Laws.{Settled}

-- two answers, with a block each, are one
abbrev Same : {A B : Type 0} → A → A → B → B → Type 0
Same a a' b b' = (a ≡ a') × (b ≡ b')

-- two that are both the same third
both : {A B : Type 0} (a a' x : A) (b b' y : B) → (a ≡ x) × (b ≡ y) → (a' ≡ x) × (b' ≡ y) → Same a a' b b'
both a a' x b b' y p q = (p.0 ∙ sym q.0, p.1 ∙ sym q.1)

line_same : (b : Block) (x : Record) (r r' : Result Unit ℕ) (m m' : Block) → Line b x r m → Line b x r' m' → Same r r' m m'
line_same b (line.Arc u v) r r' m m' p q = both _ _ _ _ _ _ p q
line_same b (line.Bound n Start t) r r' m m' p q = both _ _ _ _ _ _ p q
line_same b (line.Bound n Ending t) r r' m m' p q = both _ _ _ _ _ _ p q
line_same b (line.Pair s u v) r r' m m' p q = paired_same b s u v r r' m m' p q
line_same b (line.Delay a t) r r' m m' p q = both _ _ _ _ _ _ p q

lines_same : (b : Block) (xs : List Record) (e : Option FileRefusal) (l : ℕ) (w w' : Result Block FileRefusal) → Lines b xs e l w → Lines b xs e l w' → w ≡ w'
lines_same b [] None l w w' p q = p ∙ sym q
lines_same b [] (Some e) l w w' p q = p ∙ sym q
lines_same b (x ∷ xs) e l w w' p q =
    let h = line_same b x p.0 q.0 p.1 q.1 p.2 q.2 in
    let next = subst (λ r. MatchResult r (λ _. Lines p.1 xs e (l + 1) w') (λ n. w' ≡ Err (record { fault = Turned n; line = l }))) (sym h.0)
    (subst (λ m. MatchResult q.0 (λ _. Lines m xs e (l + 1) w') (λ n. w' ≡ Err (record { fault = Turned n; line = l }))) (sym h.1) q.3) in
    onward p.0 p.1 xs e l w w' (lines_same p.1 xs e (l + 1) w w') p.3 next
  where
    onward : (r : Result Unit ℕ) (m : Block) (xs : List Record) (e : Option FileRefusal) (l : ℕ) (w w' : Result Block FileRefusal)
        → (Lines m xs e (l + 1) w → Lines m xs e (l + 1) w' → w ≡ w')
        → MatchResult r (λ _. Lines m xs e (l + 1) w) (λ n. w ≡ Err (record { fault = Turned n; line = l })) → MatchResult r (λ _. Lines m xs e (l + 1) w') (λ n. w' ≡ Err (record { fault = Turned n; line = l })) → w ≡ w'
    onward (Ok _) m xs e l w w' again p q = again p q
    onward (Err n) m xs e l w w' again p q = p ∙ sym q

leaves_same : (w : Result Block FileRefusal) (b : Block) (r r' : Result Unit FileRefusal) (m m' : Block) → Leaves w b r m → Leaves w b r' m' → Same r r' m m'
leaves_same (Ok n) b r r' m m' p q = both _ _ _ _ _ _ p q
leaves_same (Err e) b r r' m m' p q = both _ _ _ _ _ _ p q

loads_same : (b : Block) (file : Scan) (r r' : Result Unit FileRefusal) (m m' : Block) → Loads b file r m → Loads b file r' m' → Same r r' m m'
loads_same b file r r' m m' p q =
    leaves_same p.0 b r r' m m' p.2 (subst (λ w. Leaves w b r' m') (sym (lines_same b file.records file.ending 2 p.0 q.0 p.1 q.1)) q.2)

calls_same : (b : Block) (c : Call) (a a' : Answer) (m m' : Block) → Calls b c a m → Calls b c a' m' → Same a a' m m'
calls_same b (AddArc _ _) a a' m m' p q = both _ _ _ _ _ _ p q
calls_same b (DropArc _) a a' m m' p q = both _ _ _ _ _ _ p q
calls_same b (SetStart _ _) a a' m m' p q = both _ _ _ _ _ _ p q
calls_same b (SetEnd _ _) a a' m m' p q = both _ _ _ _ _ _ p q
calls_same b (SetTrim _ _) a a' m m' p q = both _ _ _ _ _ _ p q
calls_same b (Pair s u v) a a' m m' p q =
    let h = paired_same b s u v p.0 q.0 m m' p.2 q.2 in (p.1 ∙ ap call_answer h.0 ∙ sym q.1, h.1)
calls_same b (Clear _) a a' m m' p q = both _ _ _ _ _ _ p q
calls_same b (Load file bytes) a a' m m' p q =
    let h = loads_same b (scanned (kind_of file) bytes.now) p.0 q.0 m m' p.2 q.2 in (p.1 ∙ ap load_answer h.0 ∙ sym q.1, h.1)

acts_same : (l : Ledger) (x : Act) (a a' : Answer) (m m' : Ledger) → Acts l x a m → Acts l x a' m' → Same a a' m m'
acts_same l (Make c) a a' m m' p q =
    let h = calls_same l.block c a a' m.block m'.block p.2 q.2 in
    let trial = p.1 ∙ sym q.1 in
    (h.0, λ i. record { block = h.1 i; trial = trial i })
acts_same l (Open n t) a a' m m' p q = (p.1 ∙ sym q.1, p.2 ∙ sym q.2)
acts_same l (Read n) a a' m m' p q = both _ _ _ _ _ _ p q
acts_same l End a a' m m' p q = (p.1 ∙ sym q.1, p.2 ∙ sym q.2)

pub all_settled : Settled
all_settled l [] [] [] m m' p q = (refl, p ∙ sym q)
all_settled l [] [] (r ∷ rs) m m' p q = absurd q
all_settled l [] (r ∷ rs) rs' m m' p q = absurd p
all_settled l (x ∷ xs) [] rs' m m' p q = absurd p
all_settled l (x ∷ xs) (r ∷ rs) [] m m' p q = absurd q
all_settled l (x ∷ xs) (r ∷ rs) (r' ∷ rs') m m' p q =
    let h = acts_same l x r r' p.0 q.0 p.1 q.1 in
    let t = all_settled p.0 xs rs rs' m m' p.2 (subst (λ k. Runs k xs rs' m') (sym h.1) q.2) in
    ((λ i. h.0 i ∷ t.0 i), t.1)
