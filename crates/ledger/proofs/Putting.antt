-- A set holds an arc exactly when a pair accepted since the set was last empty had it on a live path.
use Rattle.std.proofs.Common.{◌≡◌, ℕ, ◌+◌, ◌<◌, ◌⊎◌, List, [], ◌∷◌, ℤ, pos, Some, None, Ok, Err, Option, Result, sym, refl, ap, ◌∙◌, subst, inl, inr, ⊎_elim, arith, MatchResult}
use Rattle.std.proofs.ByRecursion.{All-weaker}
use Rattle.std.specs.List.{AllByRecursion}
use Rattle.reader.specs.declared.records.Kind.TheVariants as kind
use Rattle.reader.specs.declared.records.Side.TheVariants.{Start, End as Ending}
use Rattle.reader.specs.declared.records.Record.{Record}
use Rattle.reader.specs.declared.records.Record.TheVariants as line
use Rattle.reader.specs.declared.faults.FileRefusal.{FileRefusal}
use Rattle.reader.specs.declared.faults.FileFault.TheVariants.{Call as Turned}
use Rattle.reader.specs.Files.{Fitting, AcceptedGood}
use Rattle.reader.specs.Format.{Scan, scanned}
use Rattle.reader.specs.Loading.{Leaves}
use Rattle.graph.specs.declared.parts.GraphFile.TheVariants.{Arcs, Bounds, FalseSets}
use Rattle.graph.specs.Block.{Block, Kept, blank}
use Rattle.graph.specs.Paths.{Between}
use Rattle.graph.specs.Lines.{Line, Lines, Loads}
use Rattle.graph.specs.Pair.{Paired}
use Rattle.graph.proofs.Keeping.{kept_blank}
use Rattle.graph.proofs.Leading.{paired_refused}
use Rattle.graph.proofs.Replayed.{kept_line}
use Rattle.graph.proofs.Slots.{none_live}
use Rattle.ledger.specs.declared.words.Call.{Call}
use Rattle.ledger.specs.declared.words.Call.TheVariants.{AddArc, DropArc, SetStart, SetEnd, SetTrim, Pair, Clear, Load}
use Rattle.ledger.specs.declared.words.Act.{Act}
use Rattle.ledger.specs.declared.words.Act.TheVariants.{Make, Open, Read, End}
use Rattle.ledger.specs.Answers.{Answer, done, call_answer, load_answer}
use Rattle.ledger.specs.Calls.{Calls}
use Rattle.ledger.specs.Ledger.{Ledger, Trying, no_trial, refused_trial, trial_of, closed, put_back, Acts, Runs}
use Rattle.ledger.specs.Laws.{Holds, Filled, PairLine, Pairs, RunsFilled, Put, SetsHoldPairs}
use Rattle.ledger.proofs.Undoing.{kept_acts, kept_runs, ok_same, ok_err}
use Rattle.ledger.proofs.Holding.{SameSets, same_sets, same_then, same_arc, same_drop, same_start, same_end, same_trim, clear_back, clear_keep, pair_back, pair_keep, pair_put, pair_paths_on, pair_paths_back}

-- an accepted pair of the call had arc n on a live path
abbrev Cause : Block → Call → Answer → ℕ → ℕ → Type 0
Cause b c a s n = (from : ℕ) × (to : ℕ) × (a ≡ done) × Pairs c s from to × Between b.arcs from to n

-- what a call does to the sets: an arc that a set holds was there or has a cause; it stays unless the set is emptied; a cause puts it in
pub record Moves (b : Block) (c : Call) (a : Answer) (b' : Block) (s n : ℕ) : Type 0 where
  pub back : Holds b' s n → Holds b s n ⊎ Cause b c a s n
  pub keep : Holds b s n → Filled b' s → Holds b' s n
  pub put : Cause b c a s n → Holds b' s n

refusal_done : (n : ℕ) → call_answer (Err n) ≡ done → ⊥
refusal_done n h = let z : ◌≡◌ {A = ℕ} 0 1 = cc in omega arith

load_refusal_done : (e : FileRefusal) → load_answer (Err e) ≡ done → ⊥
load_refusal_done e h = let z : ◌≡◌ {A = ℕ} 0 1 = cc in omega arith

-- a call that moves no arc in or out of a set
still : (b : Block) (c : Call) (a : Answer) (b' : Block) (s n : ℕ) → SameSets b b' → (Cause b c a s n → ⊥) → Moves b c a b' s n
still b c a b' s n same none = record { back = λ h. inl (same.back s n h); keep = λ h _. same.on s n h; put = λ k. absurd (none k) }

-- ---- the lines of a load
abbrev NoPair : Record → Type 0
NoPair (line.Arc u v) = Unit {0}
NoPair (line.Bound n side t) = Unit {0}
NoPair (line.Pair g u v) = ⊥
NoPair (line.Delay k t) = Unit {0}

same_line : (b : Block) (x : Record) (r : Result Unit ℕ) (m : Block) → Kept b → NoPair x → Line b x r m → SameSets b m
same_line b (line.Arc u v) r m k no-pair l = subst (SameSets b) (sym l.1) (same_arc b u v k)
same_line b (line.Bound n Start t) r m k no-pair l = subst (SameSets b) (sym l.1) (same_start b n t)
same_line b (line.Bound n Ending t) r m k no-pair l = subst (SameSets b) (sym l.1) (same_end b n t)
same_line b (line.Pair g u v) r m k no-pair l = absurd no-pair
same_line b (line.Delay i t) r m k no-pair l = subst (SameSets b) (sym l.1) (same_sets b)

-- the first line was accepted, where all were
next : (r : Result Unit ℕ) (m : Block) (xs : List Record) (e : Option FileRefusal) (l : ℕ) (b' : Block)
    → MatchResult r (λ _. Lines m xs e (l + 1) (Ok b')) (λ i. ◌≡◌ {A = Result Block FileRefusal} (Ok b') (Err (record { fault = Turned i; line = l }))) → (r ≡ Ok tt) × Lines m xs e (l + 1) (Ok b')
next (Ok _) m xs e l b' q = (refl, q)
next (Err i) m xs e l b' q = absurd (ok_err b' _ q)

same_lines : (b : Block) (xs : List Record) (e : Option FileRefusal) (l : ℕ) (b' : Block) → Kept b → AllByRecursion NoPair xs → Lines b xs e l (Ok b') → SameSets b b'
same_lines b [] None l b' k f p = subst (SameSets b) (sym (ok_same b' b p)) (same_sets b)
same_lines b [] (Some e) l b' k f p = absurd (ok_err b' _ p)
same_lines b (x ∷ xs) e l b' k f p =
    same_then b p.1 b' (same_line b x p.0 p.1 k f.0 p.2)
    (same_lines p.1 xs e (l + 1) b' (kept_line b x p.0 p.1 k p.2) f.1 (next p.0 p.1 xs e l b' p.3).1)

-- the lines of a false-set file
abbrev Lined : Block → List Record → ℕ → ℕ → Type 0
Lined b xs s n = (from : ℕ) × (to : ℕ) × PairLine xs s from to × Between b.arcs from to n

record Pairings (b : Block) (xs : List Record) (b' : Block) (s n : ℕ) : Type 0 where
  back : Holds b' s n → Holds b s n ⊎ Lined b xs s n
  keep : Holds b s n → Holds b' s n
  put : Lined b xs s n → Holds b' s n

first_pair : (g u v : ℤ) (s from to : ℕ) → line.Pair g u v ≡ line.Pair (pos s) (pos from) (pos to) → (g ≡ pos s) × (u ≡ pos from) × (v ≡ pos to)
first_pair g u v s from to h = ((cc), (cc), (cc))

pair_lines : (b : Block) (xs : List Record) (e : Option FileRefusal) (l : ℕ) (b' : Block) → AllByRecursion (Fitting kind.FalseSets) xs → Lines b xs e l (Ok b')
    → (s n : ℕ) → s < 16 → Pairings b xs b' s n
pair_lines b [] None l b' f p s n ls =
    let q = sym (ok_same b' b p) in
    record { back = λ h. inl (subst (λ x. Holds x s n) (sym q) h); keep = λ h. subst (λ x. Holds x s n) q h; put = λ w. absurd w.2 }
pair_lines b [] (Some e) l b' f p s n ls = absurd (ok_err b' _ p)
pair_lines b (line.Arc u v ∷ xs) e l b' f p s n ls = absurd (let q = f.0.kind in let z : ◌≡◌ {A = ℕ} 0 1 = cc in omega arith)
pair_lines b (line.Bound i side t ∷ xs) e l b' f p s n ls = absurd (let q = f.0.kind in let z : ◌≡◌ {A = ℕ} 0 1 = cc in omega arith)
pair_lines b (line.Delay i t ∷ xs) e l b' f p s n ls = absurd (let q = f.0.kind in let z : ◌≡◌ {A = ℕ} 0 1 = cc in omega arith)
pair_lines b (line.Pair g u v ∷ xs) e l b' f p s n ls =
    let m = p.1 in
    let ok = next p.0 m xs e l b' p.3 in
    let paired : Paired b g u v (Ok tt) m = subst (λ r. Paired b g u v r m) ok.0 p.2 in
    let rest = pair_lines m xs e (l + 1) b' f.1 ok.1 s n ls in
    record {
      back = λ h. ⊎_elim
          (λ w. ⊎_elim inl (λ why. inr (why.0, why.1, inl (λ i. line.Pair (why.2 i) (why.3 i) (why.4 i)), why.5)) (pair_back b g u v m s n ls paired w))
          (λ w. inr (w.0, w.1, inr w.2, pair_paths_back b g u v m paired w.0 w.1 n w.3))
          (rest.back h);
      keep = λ h. rest.keep (pair_keep b g u v m s n ls paired h);
      put = λ w. ⊎_elim
          (λ q. let a = first_pair g u v s w.0 w.1 q in rest.keep (pair_put b g u v m s n ls paired (w.0, w.1, a.0, a.1, a.2, w.3)))
          (λ q. rest.put (w.0, w.1, q, pair_paths_on b g u v m paired w.0 w.1 n w.3))
          w.2;
    }

-- an accepted file has no fault of form
ending_none : (b : Block) (xs : List Record) (e : Option FileRefusal) (l : ℕ) (b' : Block) → Lines b xs e l (Ok b') → e ≡ None
ending_none b [] None l b' p = refl
ending_none b [] (Some e) l b' p = absurd (ok_err b' _ p)
ending_none b (x ∷ xs) e l b' p = ending_none p.1 xs e (l + 1) b' (next p.0 p.1 xs e l b' p.3).1

no_pair_arc : (x : Record) → Fitting kind.Arcs x → NoPair x
no_pair_arc (line.Arc u v) h = tt
no_pair_arc (line.Bound n side t) h = tt
no_pair_arc (line.Pair g u v) h = absurd (let q = h.kind in let z : ◌≡◌ {A = ℕ} 0 1 = cc in omega arith)
no_pair_arc (line.Delay k t) h = tt

no_pair_bound : (x : Record) → Fitting kind.Bounds x → NoPair x
no_pair_bound (line.Arc u v) h = tt
no_pair_bound (line.Bound n side t) h = tt
no_pair_bound (line.Pair g u v) h = absurd (let q = h.kind in let z : ◌≡◌ {A = ℕ} 0 1 = cc in omega arith)
no_pair_bound (line.Delay k t) h = tt

-- a refused load
load_refused : (b : Block) (c : Call) (a : Answer) (b' : Block) (s n : ℕ) (e : FileRefusal) → b' ≡ b → a ≡ load_answer (Err e) → Moves b c a b' s n
load_refused b c a b' s n e q h = still b c a b' s n (subst (SameSets b) (sym q) (same_sets b)) (λ k. load_refusal_done e (sym h ∙ k.2))

module _ (good : AcceptedGood) where
  -- a load whose file has no pair line
  same_load : (b : Block) (k : _) (bs : List ℕ) (r : Result Unit FileRefusal) (b' : Block) → Kept b → ((x : Record) → Fitting k x → NoPair x) → Loads b (scanned k bs) r b' → SameSets b b'
  same_load b k bs r b' kept none p = by p.0 p.1 p.2
    where
      by : (w : Result Block FileRefusal) → Lines b (scanned k bs).records (scanned k bs).ending 2 w → Leaves w b r b' → SameSets b b'
      by (Err e) h q = subst (SameSets b) (sym q.1) (same_sets b)
      by (Ok m) h q =
          let fits = (good k bs (ending_none b (scanned k bs).records (scanned k bs).ending 2 m h)).fitting in
          subst (SameSets b) (sym q.1) (same_lines b (scanned k bs).records (scanned k bs).ending 2 m kept (All-weaker (Fitting k) NoPair none (scanned k bs).records fits) h)

  call_moves : (b : Block) (c : Call) (a : Answer) (b' : Block) (s n : ℕ) → s < 16 → Kept b → Calls b c a b' → Moves b c a b' s n
  call_moves b (AddArc u v) a b' s n ls k p = still b (AddArc u v) a b' s n (subst (SameSets b) (sym p.1) (same_arc b u v k)) (λ w. w.3)
  call_moves b (DropArc i) a b' s n ls k p = still b (DropArc i) a b' s n (subst (SameSets b) (sym p.1) (same_drop b i)) (λ w. w.3)
  call_moves b (SetStart v t) a b' s n ls k p = still b (SetStart v t) a b' s n (subst (SameSets b) (sym p.1) (same_start b v t)) (λ w. w.3)
  call_moves b (SetEnd v t) a b' s n ls k p = still b (SetEnd v t) a b' s n (subst (SameSets b) (sym p.1) (same_end b v t)) (λ w. w.3)
  call_moves b (SetTrim i t) a b' s n ls k p = still b (SetTrim i t) a b' s n (subst (SameSets b) (sym p.1) (same_trim b i t)) (λ w. w.3)
  call_moves b (Clear g) a b' s n ls k p = record {
    back = λ h. inl (clear_back b g s n ls (subst (λ x. Holds x s n) p.1 h));
    keep = λ h f. subst (λ x. Holds x s n) (sym p.1) (clear_keep b g s n ls h (subst (λ x. Filled x s) p.1 f));
    put = λ w. absurd w.3;
  }
  call_moves b (Pair g u v) a b' s n ls k p = by p.0 p.1 p.2
    where
      by : (r : Result Unit ℕ) → a ≡ call_answer r → Paired b g u v r b' → Moves b (Pair g u v) a b' s n
      by (Err i) q h = still b (Pair g u v) a b' s n (subst (SameSets b) (sym (paired_refused b g u v i b' h)) (same_sets b)) (λ w. refusal_done i (sym q ∙ w.2))
      by (Ok _) q h = record {
        back = λ x. ⊎_elim inl (λ why. inr (why.0, why.1, q, (why.2, why.3, why.4), why.5)) (pair_back b g u v b' s n ls h x);
        keep = λ x f. pair_keep b g u v b' s n ls h x;
        put = λ w. pair_put b g u v b' s n ls h (w.0, w.1, w.3.0, w.3.1, w.3.2, w.4);
      }
  call_moves b (Load Arcs bytes) a b' s n ls k p =
      still b (Load Arcs bytes) a b' s n (same_load b kind.Arcs bytes.now p.0 b' k no_pair_arc p.2) (λ w. w.3)
  call_moves b (Load Bounds bytes) a b' s n ls k p =
      still b (Load Bounds bytes) a b' s n (same_load b kind.Bounds bytes.now p.0 b' k no_pair_bound p.2) (λ w. w.3)
  call_moves b (Load FalseSets bytes) a b' s n ls k p = by p.2.0 p.2.1 p.0 p.1 p.2.2
    where
      file : Scan
      file = scanned kind.FalseSets bytes.now

      by : (w : Result Block FileRefusal) → Lines b file.records file.ending 2 w → (r : Result Unit FileRefusal) → a ≡ load_answer r → Leaves w b r b'
          → Moves b (Load FalseSets bytes) a b' s n
      by (Err e) h r q l = load_refused b (Load FalseSets bytes) a b' s n e l.1 (q ∙ ap load_answer l.0)
      by (Ok m) h r q l =
          let fits = (good kind.FalseSets bytes.now (ending_none b file.records file.ending 2 m h)).fitting in
          let made = pair_lines b file.records file.ending 2 m fits h s n ls in
          record {
            back = λ x. ⊎_elim inl (λ w. inr (w.0, w.1, q ∙ ap load_answer l.0, w.2, w.3)) (made.back (subst (λ y. Holds y s n) l.1 x));
            keep = λ x f. subst (λ y. Holds y s n) (sym l.1) (made.keep x);
            put = λ w. subst (λ y. Holds y s n) (sym l.1) (made.put (w.0, w.1, w.3, w.4));
          }

  -- ---- acts
  same_back : (b : Block) (t : Trying) → SameSets b (put_back b t)
  same_back b no_trial = same_sets b
  same_back b refused_trial = same_sets b
  same_back b (trial_of i t) = same_trim b i t

  -- an arc that a set holds after an act was there, or the act is a call with a cause
  abbrev Came : Ledger → Act → Answer → ℕ → ℕ → Type 0
  Came l x a s n = (c : Call) × (x ≡ Make c) × Cause l.block c a s n

  act_back : (l : Ledger) (x : Act) (a : Answer) (m : Ledger) (s n : ℕ) → s < 16 → Kept l.block → Acts l x a m → Holds m.block s n → Holds l.block s n ⊎ Came l x a s n
  act_back l (Make c) a m s n ls k p h = ⊎_elim inl (λ w. inr (c, refl, w)) ((call_moves l.block c a m.block s n ls k p.2).back h)
  act_back l (Open i t) a m s n ls k p h = inl ((same_trim l.block i t).back s n (subst (λ y. Holds y.block s n) p.2 h))
  act_back l (Read i) a m s n ls k p h = inl (subst (λ y. Holds y.block s n) p.1 h)
  act_back l End a m s n ls k p h = inl ((same_back l.block l.trial).back s n (subst (λ y. Holds y.block s n) p.2 h))

  act_keep : (l : Ledger) (x : Act) (a : Answer) (m : Ledger) (s n : ℕ) → s < 16 → Kept l.block → Acts l x a m → Holds l.block s n → Filled m.block s → Holds m.block s n
  act_keep l (Make c) a m s n ls k p h f = (call_moves l.block c a m.block s n ls k p.2).keep h f
  act_keep l (Open i t) a m s n ls k p h f = subst (λ y. Holds y.block s n) (sym p.2) ((same_trim l.block i t).on s n h)
  act_keep l (Read i) a m s n ls k p h f = subst (λ y. Holds y.block s n) (sym p.1) h
  act_keep l End a m s n ls k p h f = subst (λ y. Holds y.block s n) (sym p.2) ((same_back l.block l.trial).on s n h)

  -- ---- runs
  later : (l : Ledger) (xs : List Act) (rs : List Answer) (m : Ledger) (s n : ℕ) (x : Act) (r : Answer) (k : Ledger) → Acts k x r l → Put l xs rs m s n → Put k (x ∷ xs) (r ∷ rs) m s n
  later l xs rs m s n x r k act put = record {
    earlier = x ∷ put.earlier;
    earlier_answers = r ∷ put.earlier_answers;
    before = put.before;
    call = put.call;
    after = put.after;
    later = put.later;
    later_answers = put.later_answers;
    from = put.from;
    to = put.to;
    acts_are = ap (λ ys. x ∷ ys) put.acts_are;
    answers_are = ap (λ ys. r ∷ ys) put.answers_are;
    ran = (l, act, put.ran);
    accepted = put.accepted;
    pairs = put.pairs;
    between = put.between;
    since = put.since;
  }

  here : (l : Ledger) (xs : List Act) (rs : List Answer) (m : Ledger) (s n : ℕ) (x : Act) (r : Answer) (k : Ledger) → Acts k x r l → Came k x r s n → RunsFilled s l xs rs m
      → Put k (x ∷ xs) (r ∷ rs) m s n
  here l xs rs m s n x r k act came filled = record {
    earlier = [];
    earlier_answers = [];
    before = k;
    call = came.0;
    after = l;
    later = xs;
    later_answers = rs;
    from = came.2.0;
    to = came.2.1;
    acts_are = ap (λ y. y ∷ xs) came.1;
    answers_are = ap (λ a. a ∷ rs) came.2.2;
    ran = refl;
    accepted = subst (λ y. Acts k y done l) came.1 (subst (λ a. Acts k x a l) came.2.2 act);
    pairs = came.2.3;
    between = came.2.4;
    since = filled;
  }

  -- an arc that a set holds at the end was there all along, or a pair put it in
  traced : (l : Ledger) (xs : List Act) (rs : List Answer) (m : Ledger) (s n : ℕ) → s < 16 → Kept l.block → Runs l xs rs m → Holds m.block s n
      → (Holds l.block s n × RunsFilled s l xs rs m) ⊎ Put l xs rs m s n
  traced l [] [] m s n ls k p h = let q = subst (λ y. Holds y.block s n) p h in inl (q, ((n, q), p))
  traced l [] (r ∷ rs) m s n ls k p h = absurd p
  traced l (x ∷ xs) [] m s n ls k p h = absurd p
  traced l (x ∷ xs) (r ∷ rs) m s n ls k p h =
      let j = p.0 in
      ⊎_elim
      (λ w. ⊎_elim (λ q. inl (q, ((n, q), (j, p.1, w.1)))) (λ came. inr (here j xs rs m s n x r l p.1 came w.1)) (act_back l x r j s n ls k p.1 w.0))
      (λ put. inr (later j xs rs m s n x r l p.1 put))
      (traced j xs rs m s n ls (kept_acts l x r j k p.1) p.2 h)

  first_filled : (s : ℕ) (l : Ledger) (xs : List Act) (rs : List Answer) (m : Ledger) → RunsFilled s l xs rs m → Filled l.block s
  first_filled s l [] [] m p = p.0
  first_filled s l [] (r ∷ rs) m p = absurd p
  first_filled s l (x ∷ xs) [] m p = absurd p
  first_filled s l (x ∷ xs) (r ∷ rs) m p = p.0

  -- an arc stays in a set that is never empty
  stays : (l : Ledger) (xs : List Act) (rs : List Answer) (m : Ledger) (s n : ℕ) → s < 16 → Kept l.block → RunsFilled s l xs rs m → Holds l.block s n → Holds m.block s n
  stays l [] [] m s n ls k p h = subst (λ y. Holds y.block s n) (sym p.1) h
  stays l [] (r ∷ rs) m s n ls k p h = absurd p
  stays l (x ∷ xs) [] m s n ls k p h = absurd p
  stays l (x ∷ xs) (r ∷ rs) m s n ls k p h =
      let j = p.1.0 in
      stays j xs rs m s n ls (kept_acts l x r j k p.1.1) p.1.2 (act_keep l x r j s n ls k p.1.1 h (first_filled s j xs rs m p.1.2))

  none_held : (s n : ℕ) → Holds blank s n → ⊥
  unfolding blank
  none_held s n h = none_live 1024 n h.0 h.1

  pub all_hold : SetsHoldPairs
  all_hold xs rs l run s n ls = (
    (λ h. ⊎_elim (λ w. absurd (none_held s n w.0)) (λ put. put) (traced (closed blank) xs rs l s n ls kept_blank run h)),
    (λ put.
        let k = kept_runs (closed blank) put.earlier put.earlier_answers put.before kept_blank put.ran in
        stays put.after put.later put.later_answers l s n ls (kept_acts put.before (Make put.call) done put.after k put.accepted) put.since
        ((call_moves put.before.block put.call done put.after.block s n ls k put.accepted.2).put (put.from, put.to, refl, put.pairs, put.between))),
  )
