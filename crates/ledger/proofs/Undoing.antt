-- Every ledger keeps what every graph keeps, and a trial that has ended leaves no trace.
use Rattle.std.proofs.Common.{◌≡◌, ℕ, suc, ◌+◌, List, [], ◌∷◌, ◌++◌, length, ℤ, Some, None, Ok, Err, Option, Result, sym, refl, ap, ◌∙◌, subst, arith, MatchResult}
use Rattle.reader.specs.declared.records.Record.{Record}
use Rattle.reader.specs.declared.faults.FileRefusal.{FileRefusal}
use Rattle.reader.specs.declared.faults.FileFault.TheVariants.{Call as Turned}
use Rattle.reader.specs.Format.{Scan, scanned}
use Rattle.reader.specs.Loading.{Leaves}
use Rattle.graph.specs.Block.{Block, Kept, blank, with_trim}
use Rattle.graph.specs.Trials as trials
use Rattle.graph.specs.Trials.{refusal_in, earlier_of}
use Rattle.graph.specs.Lines.{Lines, Loads, kind_of}
use Rattle.graph.proofs.Back.{back}
use Rattle.graph.proofs.Keeping.{kept_blank, kept_arc, kept_drop, kept_start, kept_end, kept_trim, kept_clear, kept_paired}
use Rattle.graph.proofs.Replayed.{kept_line}
use Rattle.ledger.specs.declared.words.Call.{Call}
use Rattle.ledger.specs.declared.words.Call.TheVariants.{AddArc, DropArc, SetStart, SetEnd, SetTrim, Pair, Clear, Load}
use Rattle.ledger.specs.declared.words.Act.{Act}
use Rattle.ledger.specs.declared.words.Act.TheVariants.{Make, Open, Read, End}
use Rattle.ledger.specs.Answers.{Answer}
use Rattle.ledger.specs.Calls.{Calls}
use Rattle.ledger.specs.Ledger.{Ledger, Trying, no_trial, refused_trial, trial_of, closed, opened, kept_by, put_back, Acts, Runs}
use Rattle.ledger.specs.Laws.{LedgersKeep, Readings, Undone}

-- the block after the lines, in an accepted load
pub ok_same : (b m : Block) → ◌≡◌ {A = Result Block FileRefusal} (Ok b) (Ok m) → b ≡ m
ok_same b m h = cc

pub ok_err : (m : Block) (e : FileRefusal) → ◌≡◌ {A = Result Block FileRefusal} (Ok m) (Err e) → ⊥
ok_err m e h = let z : ◌≡◌ {A = ℕ} 0 1 = cc in omega arith

kept_lines : (b : Block) (xs : List Record) (e : Option FileRefusal) (l : ℕ) (m : Block) → Kept b → Lines b xs e l (Ok m) → Kept m
kept_lines b [] None l m k p = subst Kept (sym (ok_same m b p)) k
kept_lines b [] (Some e) l m k p = absurd (ok_err m _ p)
kept_lines b (x ∷ xs) e l m k p = onward p.0 p.3 (kept_lines p.1 xs e (l + 1) m (kept_line b x p.0 p.1 k p.2))
  where
    onward : (r : Result Unit ℕ) → MatchResult r (λ _. Lines p.1 xs e (l + 1) (Ok m)) (λ i. ◌≡◌ {A = Result Block FileRefusal} (Ok m) (Err (record { fault = Turned i; line = l })))
        → (Lines p.1 xs e (l + 1) (Ok m) → Kept m) → Kept m
    onward (Ok _) q again = again q
    onward (Err i) q again = absurd (ok_err m _ q)

kept_loads : (b : Block) (file : Scan) (r : Result Unit FileRefusal) (b' : Block) → Kept b → Loads b file r b' → Kept b'
kept_loads b file r b' k p = by p.0 p.1 p.2
  where
    by : (w : Result Block FileRefusal) → Lines b file.records file.ending 2 w → Leaves w b r b' → Kept b'
    by (Ok m) h q = subst Kept (sym q.1) (kept_lines b file.records file.ending 2 m k h)
    by (Err e) h q = subst Kept (sym q.1) k

kept_calls : (b : Block) (c : Call) (a : Answer) (b' : Block) → Kept b → Calls b c a b' → Kept b'
kept_calls b (AddArc u v) a b' k s = subst Kept (sym s.1) (kept_arc b u v k)
kept_calls b (DropArc n) a b' k s = subst Kept (sym s.1) (kept_drop b n k)
kept_calls b (SetStart v t) a b' k s = subst Kept (sym s.1) (kept_start b v t k)
kept_calls b (SetEnd v t) a b' k s = subst Kept (sym s.1) (kept_end b v t k)
kept_calls b (SetTrim n t) a b' k s = subst Kept (sym s.1) (kept_trim b n t k)
kept_calls b (Pair g u v) a b' k s = kept_paired b g u v s.0 b' k s.2
kept_calls b (Clear g) a b' k s = subst Kept (sym s.1) (kept_clear b g k)
kept_calls b (Load file bytes) a b' k s = kept_loads b (scanned (kind_of file) bytes.now) s.0 b' k s.2

kept_back : (b : Block) (t : Trying) → Kept b → Kept (put_back b t)
kept_back b no_trial k = k
kept_back b refused_trial k = k
kept_back b (trial_of n t) k = kept_trim b n t k

pub kept_acts : (l : Ledger) (x : Act) (a : Answer) (m : Ledger) → Kept l.block → Acts l x a m → Kept m.block
kept_acts l (Make c) a m k s = kept_calls l.block c a m.block k s.2
kept_acts l (Open n t) a m k s = subst (λ h. Kept h.block) (sym s.2) (kept_trim l.block n t k)
kept_acts l (Read n) a m k s = subst (λ h. Kept h.block) (sym s.1) k
kept_acts l End a m k s = subst (λ h. Kept h.block) (sym s.2) (kept_back l.block l.trial k)

pub kept_runs : (l : Ledger) (xs : List Act) (rs : List Answer) (m : Ledger) → Kept l.block → Runs l xs rs m → Kept m.block
kept_runs l [] [] m k s = subst (λ h. Kept h.block) (sym s) k
kept_runs l [] (r ∷ rs) m k s = absurd s
kept_runs l (x ∷ xs) [] m k s = absurd s
kept_runs l (x ∷ xs) (r ∷ rs) m k s = kept_runs s.0 xs rs m (kept_acts l x r s.0 k s.1) s.2

pub all_keep : LedgersKeep
all_keep xs rs l s = kept_runs (closed blank) xs rs l kept_blank s

-- ---- a run in two parts
pub split : (l : Ledger) (xs ys : List Act) (rs : List Answer) (m : Ledger) → Runs l (xs ++ ys) rs m
    → (k : Ledger) × (rs₁ : List Answer) × (rs₂ : List Answer) × (rs ≡ rs₁ ++ rs₂) × Runs l xs rs₁ k × Runs k ys rs₂ m
split l [] ys rs m s = (l, [], rs, refl, refl, s)
split l (x ∷ xs) ys [] m s = absurd s
split l (x ∷ xs) ys (r ∷ rs) m s =
    let h = split s.0 xs ys rs m s.2 in (h.0, r ∷ h.1, h.2, ap (λ zs. r ∷ zs) h.3, (s.0, s.1, h.4), h.5)

pub join : (l : Ledger) (xs ys : List Act) (rs₁ rs₂ : List Answer) (k m : Ledger) → Runs l xs rs₁ k → Runs k ys rs₂ m → Runs l (xs ++ ys) (rs₁ ++ rs₂) m
join l [] ys [] rs₂ k m s t = subst (λ x. Runs x ys rs₂ m) s t
join l [] ys (r ∷ rs₁) rs₂ k m s t = absurd s
join l (x ∷ xs) ys [] rs₂ k m s t = absurd s
join l (x ∷ xs) ys (r ∷ rs₁) rs₂ k m s t = (s.0, s.1, join s.0 xs ys rs₁ rs₂ k m s.2 t)

lengths : (l : Ledger) (xs : List Act) (rs : List Answer) (m : Ledger) → Runs l xs rs m → length rs ≡ length xs
lengths l [] [] m s = refl
lengths l [] (r ∷ rs) m s = absurd s
lengths l (x ∷ xs) [] m s = absurd s
lengths l (x ∷ xs) (r ∷ rs) m s = ap suc (lengths s.0 xs rs m s.2)

-- ---- a trial, from its opening to its end
only_read : (l : Ledger) (xs : List Act) (rs : List Answer) (m : Ledger) → Readings xs → Runs l xs rs m → m ≡ l
only_read l [] [] m h s = s
only_read l [] (r ∷ rs) m h s = absurd s
only_read l (Make c ∷ xs) rs m h s = absurd h
only_read l (Open n t ∷ xs) rs m h s = absurd h
only_read l (End ∷ xs) rs m h s = absurd h
only_read l (Read n ∷ xs) [] m h s = absurd s
only_read l (Read n ∷ xs) (r ∷ rs) m h s = only_read s.0 xs rs m h s.2 ∙ s.1.1

put_back_is : (b : Block) (r : Result Unit ℕ) (n t : ℤ) → put_back b (kept_by r n t) ≡ trials.put_back b n t (refusal_in r)
put_back_is b (Ok _) n t = refl
put_back_is b (Err i) n t = refl

over : (l : Ledger) (n t : ℤ) (r r' : Answer) (k k' m : Ledger) → Kept l.block → Acts l (Open n t) r k → k' ≡ k → Acts k' End r' m → m ≡ l
over l n t r r' k k' m kept o e d =
    let b = l.block in
    let w = with_trim b n t in
    let q : k' ≡ opened b n t = e ∙ o.2 in
    let block : m.block ≡ b =
    ap (λ x. x.block) d.2 ∙ ap (λ (x : Ledger). put_back x.block x.trial) q ∙ put_back_is w.after w.answer n (earlier_of b n) ∙ back b n t kept.trims in
    let trial : m.trial ≡ l.trial = ap (λ x. x.trial) d.2 ∙ sym o.0 in
    λ i. record { block = block i; trial = trial i }

ending : (xs ys : List Act) (n t : ℤ) (k : Ledger) (before : List Answer) (r : Answer) (k₁ k₂ : Ledger) (read rs : List Answer) (m : Ledger)
    → Runs (closed blank) xs before k → Acts k (Open n t) r k₁ → k₂ ≡ k₁ → Runs k₂ (End ∷ ys) rs m
    → (under : List Answer) × (after : List Answer) × (r ∷ (read ++ rs) ≡ under ++ after) × (length after ≡ length ys) × Runs (closed blank) (xs ++ ys) (before ++ after) m
ending xs ys n t k before r k₁ k₂ read [] m s o e u = absurd u
ending xs ys n t k before r k₁ k₂ read (r' ∷ rs) m s o e u =
    let q = over k n t r r' k₁ k₂ u.0 (kept_runs (closed blank) xs before k kept_blank s) o e u.1 in
    (r ∷ (read ++ r' ∷ []), rs, ap (λ zs. r ∷ zs) (regroup read r' rs), lengths u.0 ys rs m u.2, join (closed blank) xs ys before rs k m s (subst (λ x. Runs x ys rs m) q u.2))
  where
    regroup : (as' : List Answer) (z : Answer) (zs : List Answer) → as' ++ z ∷ zs ≡ (as' ++ z ∷ []) ++ zs
    regroup [] z zs = refl
    regroup (y ∷ ys) z zs = ap (λ ws. y ∷ ws) (regroup ys z zs)

opening : (xs reads ys : List Act) (n t : ℤ) (k : Ledger) (before rs : List Answer) (m : Ledger) → Readings reads
    → Runs (closed blank) xs before k → Runs k (Open n t ∷ (reads ++ End ∷ ys)) rs m
    → (under : List Answer) × (after : List Answer) × (rs ≡ under ++ after) × (length after ≡ length ys) × Runs (closed blank) (xs ++ ys) (before ++ after) m
opening xs reads ys n t k before [] m h s u = absurd u
opening xs reads ys n t k before (r ∷ rs) m h s u =
    let v = split u.0 reads (End ∷ ys) rs m u.2 in
    let w = ending xs ys n t k before r u.0 v.0 v.1 v.2 m s u.1 (only_read u.0 reads v.1 v.0 h v.4) v.5 in
    (w.0, w.1, ap (λ zs. r ∷ zs) v.3 ∙ w.2, w.3, w.4)

pub all_undone : Undone
all_undone xs reads ys n t rs m h s =
    let a = split (closed blank) xs (Open n t ∷ (reads ++ End ∷ ys)) rs m s in
    let w = opening xs reads ys n t a.0 a.1 a.2 m h a.4 a.5 in
    (a.1, w.0, w.1, a.3 ∙ ap (λ zs. a.1 ++ zs) w.2, lengths (closed blank) xs a.1 a.0 a.4, w.3, w.4)
