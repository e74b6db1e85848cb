-- The computed calls are the ledger's, and the worked cases meet what the theorems ask.
use Rattle.std.proofs.Common.{◌≡◌, ℕ, T, List, [], ◌∷◌, map, is_ok, None, Ok, Err, Result, sym, refl, ap, subst, arith}
use Rattle.std.specs.Result.{result_unwrap_or}
use Rattle.reader.specs.declared.faults.FileRefusal.{FileRefusal}
use Rattle.reader.specs.Faults.{number_of}
use Rattle.reader.specs.Format.{Scan, scanned}
use Rattle.reader.specs.Loading.{loaded}
use Rattle.measure.specs.Laws.{Laws}
use Rattle.measure.specs.Rows.{Row}
use Rattle.measure.specs.Bounds.{bounded_negated}
use Rattle.measure.specs.Lex.{lex_order}
use Rattle.graph.specs.Block.{Block, Kept, blank}
use Rattle.graph.specs.Computed.{lies_between, with_pair, line_step}
use Rattle.graph.specs.Lines.{Lines, Loads, kind_of}
use Rattle.graph.proofs.Keeping.{kept_blank}
use Rattle.graph.proofs.Leading.{with_pair_holds}
use Rattle.graph.proofs.Replayed.{lines_replay}
use Rattle.ledger.specs.declared.words.Call.{Call}
use Rattle.ledger.specs.declared.words.Call.TheVariants.{AddArc, DropArc, SetStart, SetEnd, SetTrim, Pair, Clear, Load}
use Rattle.ledger.specs.declared.words.Act.TheVariants.{Make}
use Rattle.ledger.specs.Answers.{Answer, done, taken, refused, refused_file, shows, load_answer}
use Rattle.ledger.specs.Ledger.{Acts, Runs, closed}
use Rattle.ledger.proofs.Undoing.{kept_acts}
use Rattle.paths.specs.Blocks.{RowBlock}
use Rattle.paths.specs.Calls.{load_turn, called, accepted, ran, CallsAreComputed}
use Rattle.paths.specs.Cases.{Measured, in_ticks, in_early_ticks, not_after, time_row, arc_row, block_in, Met, CasesAreMet}
use Rattle.paths.proofs.Making.{lower_first_suits_lem}

-- ---- calls
load_holds : (g : Block) (file : Scan) (w : Result Block FileRefusal) → Lines g file.records file.ending 2 w
    → (r : Result Unit FileRefusal) × ((load_turn g w).answer ≡ load_answer r) × Loads g file r (load_turn g w).after
load_holds g file (Ok g') h = (Ok tt, refl, (Ok g', h, (refl, refl)))
load_holds g file (Err e) h = (Err e, refl, (Err e, h, (refl, refl)))

pub calls_are_computed_lem : CallsAreComputed
calls_are_computed_lem g k (AddArc u v) = (refl, refl)
calls_are_computed_lem g k (DropArc n) = (refl, refl)
calls_are_computed_lem g k (SetStart v t) = (refl, refl)
calls_are_computed_lem g k (SetEnd v t) = (refl, refl)
calls_are_computed_lem g k (SetTrim n t) = (refl, refl)
calls_are_computed_lem g k (Pair s u v) = ((with_pair g s u v).answer, refl, with_pair_holds g s u v k.rising)
calls_are_computed_lem g k (Clear s) = (refl, refl)
calls_are_computed_lem g k (Load file bytes) =
    let f = scanned (kind_of file) bytes.now in load_holds g f (loaded line_step f g) (lines_replay g f.records f.ending 2 k)

pub call_acts : (g : Block) → Kept g → (c : Call) → Acts (closed g) (Make c) (called g c).answer (closed (called g c).after)
call_acts g k c = (refl, refl, calls_are_computed_lem g k c)

-- calls that are all accepted are a run of the ledger
record Run (g : Block) (cs : List Call) (x : Block) : Type 0 where
  answers : List Answer
  run : Runs (closed g) (map Make cs) answers (closed x)
  kept : Kept x

ran_refused : (cs : List Call) (n : ℕ) (x : Block) → ran (Err n) cs ≡ Ok x → ⊥
ran_refused [] n x h = let z : ◌≡◌ {A = ℕ} 0 1 = cc in omega arith
ran_refused (c ∷ cs) n x h = let z : ◌≡◌ {A = ℕ} 0 1 = cc in omega arith

ran_ok : (cs : List Call) (a : Answer) (g x : Block) → ran (accepted a g) cs ≡ Ok x → ran (Ok g) cs ≡ Ok x
ran_ok cs done g x h = h
ran_ok cs (taken n) g x h = h
ran_ok cs (shows o) g x h = h
ran_ok cs (refused n) g x h = absurd (ran_refused cs n x h)
ran_ok cs (refused_file e) g x h = absurd (ran_refused cs (number_of e.fault) x h)

ran_runs : (cs : List Call) (g x : Block) → Kept g → ran (Ok g) cs ≡ Ok x → Run g cs x
ran_runs [] g x k h = let e : g ≡ x = cc in record { answers = []; run = ap closed (sym e); kept = subst Kept e k }
ran_runs (c ∷ cs) g x k h =
    let g' = (called g c).after in
    let acts = call_acts g k c in
    let rest = ran_runs cs g' x (kept_acts (closed g) (Make c) (called g c).answer (closed g') k acts) (ran_ok cs (called g c).answer g' x h) in
    record { answers = (called g c).answer ∷ rest.answers; run = (closed g', acts, rest.run); kept = rest.kept }

-- ---- the measures and the cases
pub laws_in : (m : Measured) → Laws 1 (not_after m) (time_row m) (arc_row m)
laws_in in_ticks = record { some = omega arith; few = omega arith; time = λ t h. (h, tt); arc = λ d h. (h, tt); order = lex_order 1 }
laws_in in_early_ticks = record {
  some = omega arith;
  few = omega arith;
  time = λ t h. bounded_negated 1 1000000 (t, tt) (h, tt);
  arc = λ d h. bounded_negated 1 1000000 (d, tt) (h, tt);
  order = lex_order 1;
}

ok_value : {A E : Type 0} (r : Result A E) (d : A) → T (is_ok r) → r ≡ Ok (result_unwrap_or r d)
ok_value (Ok x) d h = refl
ok_value (Err e) d h = absurd h

content_after : List Call → Block
content_after cs = result_unwrap_or (ran (Ok blank) cs) blank

met : (cs : List Call) (m : Measured) → T (is_ok (ran (Ok blank) cs)) → T (is_ok (block_in m (content_after cs))) → Met cs m
unfolding content_after
met cs m h k =
    let r = ran_runs cs blank (content_after cs) kept_blank (ok_value (ran (Ok blank) cs) blank h) in
    record {
      content = content_after cs;
      answers = r.answers;
      block = result_unwrap_or (block_in m (content_after cs)) bare;
      run = r.run;
      kept = r.kept;
      suits = lower_first_suits_lem (content_after cs) r.kept;
      laws = laws_in m;
      made = ok_value (block_in m (content_after cs)) bare k;
    }
  where
    bare : RowBlock (Row 1)
    bare = record { arcs = []; start = λ _. None; end = λ _. None }

pub cases_are_met_lem : CasesAreMet
unfolding blank lies_between content_after
cases_are_met_lem =
    (met _ _ tt tt, (met _ _ tt tt, (met _ _ tt tt, (met _ _ tt tt, (met _ _ tt tt, (met _ _ tt tt, (met _ _ tt tt, (met _ _ tt tt, (met _ _ tt tt, (met _ _ tt tt, (tt, (tt, (tt, (tt, (tt, tt)))))))))))))))
