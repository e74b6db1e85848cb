-- What a timing answers and leaves agrees with the list of all open complete paths.
use Rattle.std.proofs.Common.{◌≡◌, ℕ, ◌<◌, ◌≤◌, Bool, true, cond, ltb, leb, List, length, get_or, ℤ, pos, Some, None, Ok, Err, Option, Result, sym, ap, ◌∙◌, subst}
use Rattle.std.proofs.lemmas.Bool.{lt-ltb, le-ltb, leb-true, and_parts, both_ways}
use Rattle.measure.specs.Rows.{Row}
use Rattle.measure.specs.Laws.{Laws}
use Rattle.delay.specs.Entries.{Entry}
use Rattle.graph.specs.Block.{Block, Kept}
use Rattle.paths.specs.Rows.{Rows, Before, rows}
use Rattle.paths.specs.Blocks.{RowBlock}
use Rattle.paths.specs.Paths.{slack, LeastSlack}
use Rattle.paths.specs.Graphs.{Untimed, Suits, by_node, row_block, node_count}
use Rattle.paths.specs.Sheets.{Told, Timed, sheet, node_slack, row_of}
use Rattle.paths.specs.Relations.{Shows, IsSheet}
use Rattle.paths.specs.Traces.{trace}
use Rattle.paths.specs.Theorems.{Settled, SlackIsLeast, TraceShowsLeast, SheetIsSettled}
use Rattle.paths.proofs.Making.{lower_first_suits_lem}
use Rattle.paths.proofs.OnGraphs.{on_graphs, blocks_mirror, lowest_stops}
use Rattle.paths.proofs.Theorems as theorems
use Rattle.sheet.specs.Blanks.{blank_entry}
use Rattle.sheet.specs.Tables.{Tables, well_sized}
use Rattle.sheet.specs.Written.{row_or, entry_of, written}
use Rattle.sheet.specs.Traces.{trace_outcome}
use Rattle.sheet.specs.Theorems.{traced_outcome, SheetsAreTraced}
use Rattle.sheet.proofs.Traced.{by_nodes_at, sheets_are_traced_lem}
use Rattle.timing.specs.declared.refusals.TimeRefusal.{TimeRefusal}
use Rattle.timing.specs.declared.refusals.TimeRefusal.TheVariants.{WrongLength, TooFewLines}
use Rattle.timing.specs.Refusals.{Refused, stopped}
use Rattle.timing.specs.Times.{TimeOutcome, untimed, block_outcome, time_outcome}
use Rattle.timing.specs.Terms.{Terms, terms}
use Rattle.timing.specs.Agreement.{NodeAgrees, RefusedBy, Accepted, TimingAgrees}
use Rattle.timing.proofs.Outcomes as outcomes

-- ---- one node
module _ {R : Type 0} (m : Rows R) (b : RowBlock R) (t : Tables R) (v : ℕ) where
  node_agrees : (o : Option (Told R)) (q : Option (List ℕ)) → get_or t.nodes v blank_entry ≡ entry_of o → get_or t.slacks v m.origin ≡ row_or m.origin o
      → LeastSlack m b v (row_of o) → Shows m b v (row_of o) q → ((room : ℕ) → 255 ≤ room → trace_outcome t (pos v) room ≡ traced_outcome room q) → NodeAgrees m b t v
  node_agrees None q e f low shows told = record {
    none = λ h. low;
    some = λ h. absurd (both_ways _ (ap (λ x. x.timed) e) h);
    least = λ h. absurd (both_ways _ (ap (λ x. x.timed) e) h);
  }
  node_agrees (Some a) None e f low shows told = absurd shows
  node_agrees (Some a) (Some ks) e f low shows told = record {
    none = λ h. absurd (both_ways _ h (ap (λ x. x.timed) e));
    some = λ h. (shows.0, record { slack_is = shows.1 ∙ sym f; traced_as = λ room g. told room g ∙ ap (λ zs. traced_outcome room (Some zs)) (sym shows.2) });
    least = λ h p. subst (λ x. Before m x (slack m p)) (sym f) (low.1 p);
  }

-- ---- one timing
lines_few : {R : Type 0} (t : Tables R) → well_sized t ≡ true → length t.lines ≤ 4096
lines_few t h = leb-true (length t.lines) 4096 (and_parts (leb (length t.lines) 4096) _ h).0

module _ {R : Type 0} (k : Terms R) (g : Block) (t : Tables R) (a : Result ℕ Refused) (t' : Tables R) where
  refused_by : (x : TimeRefusal) (o : TimeOutcome R) → a ≡ o.answer → t' ≡ o.tables → o ≡ untimed k.rows t x → RefusedBy k g t a t' x
  refused_by x o p q e = record { answer_is = p ∙ ap (λ (y : TimeOutcome R). y.answer) e; blank_tables = q ∙ ap (λ (y : TimeOutcome R). y.tables) e }

module _ {R : Type 0} (m : Rows R) (t : Tables R) where
  few_outcome : (ts : List (Timed R)) (written-so : TimeOutcome R) → length t.lines < length ts → cond (ltb (length t.lines) (length ts)) (untimed m t TooFewLines) written-so ≡ untimed m t TooFewLines
  few_outcome ts o h = ap (λ w. cond w (untimed m t TooFewLines) o) (lt-ltb (length t.lines) (length ts) h)

  full_outcome : (ts : List (Timed R)) (written-so : TimeOutcome R) → length ts ≤ length t.lines → cond (ltb (length t.lines) (length ts)) (untimed m t TooFewLines) written-so ≡ written-so
  full_outcome ts o h = ap (λ w. cond w (untimed m t TooFewLines) o) (le-ltb (length t.lines) (length ts) h)

module _ (w : ℕ) (not_later : Row w → Row w → Bool) (row_of_time row_of_arc : ℤ → Row w) (laws : Laws w not_later row_of_time row_of_arc) (means : ℕ → Entry) where
  abbrev these : Terms (Row w)
  these = terms w not_later row_of_time row_of_arc means

  module _ (g : Block) (kept : Kept g) (b : RowBlock (Row w)) (made : row_block by_node row_of_time row_of_arc g means ≡ Ok b) where
    abbrev ts : List (Timed (Row w))
    ts = sheet (rows w not_later) b node_count

    suits : Suits by_node g
    suits = lower_first_suits_lem g kept

    written_agrees : (size : ℕ) → length ts ≤ size → size ≤ 4096 → (v : ℕ) → v < node_count → NodeAgrees (rows w not_later) b (written (rows w not_later) size ts) v
    written_agrees size fits limit v h =
        let m = rows w not_later in
        node_agrees m b (written m size ts) v (node_slack m v ts) (trace m v ts) (by_nodes_at (λ u. entry_of (node_slack m u ts)) v blank_entry h)
        (by_nodes_at (λ u. row_or m.origin (node_slack m u ts)) v m.origin h)
        (on_graphs SlackIsLeast theorems.least w not_later row_of_time row_of_arc laws g kept means by_node suits b made v h)
        (on_graphs TraceShowsLeast theorems.traced w not_later row_of_time row_of_arc laws g kept means by_node suits b made v)
        (λ room enough. on_graphs SheetsAreTraced sheets_are_traced_lem w not_later row_of_time row_of_arc laws g kept means by_node suits b made size fits limit v h room enough)

    pub settled : Settled (rows w not_later) b node_count
    settled = on_graphs SheetIsSettled theorems.settled w not_later row_of_time row_of_arc laws g kept means by_node suits b made

    -- what is true of the lines of a sheet is true of the computed ones alone
    at_sheet : (P : List (Timed (Row w)) → Type 0) (us : List (Timed (Row w))) → IsSheet (rows w not_later) b node_count us → P us → P ts
    at_sheet P us is p = subst P (settled.one_sheet us ts is settled.sheet_is) p

    from_sheet : (P : List (Timed (Row w)) → Type 0) (us : List (Timed (Row w))) → IsSheet (rows w not_later) b node_count us → P ts → P us
    from_sheet P us is p = subst P (settled.one_sheet ts us settled.sheet_is is) p

    accepted : (t : Tables (Row w)) (a : Result ℕ Refused) (t' : Tables (Row w)) → length ts ≤ length t.lines → length t.lines ≤ 4096
        → a ≡ Ok (length ts) → t' ≡ written (rows w not_later) (length t.lines) ts → Accepted these g t a t' b ts
    accepted t a t' fits limit p q =
        record {
          are_entries = settled.entry_is;
          answer_is = p;
          tables_are = q;
          agree = λ v h. subst (λ z. NodeAgrees (rows w not_later) b z v) (sym q) (written_agrees (length t.lines) fits limit v h);
        }

  pub timing_agrees : (g : Block) → Kept g → (t : Tables (Row w)) (a : Result ℕ Refused) (t' : Tables (Row w))
      → a ≡ (time_outcome (rows w not_later) t (row_block by_node row_of_time row_of_arc g means)).answer
      → t' ≡ (time_outcome (rows w not_later) t (row_block by_node row_of_time row_of_arc g means)).tables
      → TimingAgrees these g t a t'
  timing_agrees g kept t a t' p q =
      let m = rows w not_later in
      let block = row_block by_node row_of_time row_of_arc g means in
      let sized-so : well_sized t ≡ true → (r : Result (RowBlock (Row w)) Untimed) → block ≡ r → time_outcome m t block ≡ block_outcome m t r =
      λ s r e. outcomes.right_length m t block s ∙ ap (block_outcome m t) e in
      record {
        wrong_length = λ s. refused_by these g t a t' WrongLength (time_outcome m t block) p q (outcomes.wrong_length m t block s);
        without_ticks = λ s x e. (lowest_stops w row_of_time row_of_arc g means by_node x e, refused_by these g t a t' (stopped x) (time_outcome m t block) p q (sized-so s (Err x) e));
        has_lines = λ b e.
            let is = settled g kept b e in
            record {
              mirrors = blocks_mirror w not_later row_of_time row_of_arc laws g kept means by_node (lower_first_suits_lem g kept) b e;
              lines = sheet m b node_count;
              are_lines = is.sheet_is;
              no_others = λ us o. is.one_sheet us (sheet m b node_count) o is.sheet_is;
            };
        few_lines = λ s b e us is h.
            refused_by these g t a t' TooFewLines (time_outcome m t block) p q
            (sized-so s (Ok b) e ∙ few_outcome m t (sheet m b node_count) _ (at_sheet g kept b e (λ xs. length t.lines < length xs) us is h));
        accepted = λ s b e us is h.
            let fits = at_sheet g kept b e (λ xs. length xs ≤ length t.lines) us is h in
            let so = sized-so s (Ok b) e ∙ full_outcome m t (sheet m b node_count) _ fits in
            from_sheet g kept b e (Accepted these g t a t' b) us is
            (accepted g kept b e t a t' fits (lines_few t s) (p ∙ ap (λ (y : TimeOutcome (Row w)). y.answer) so) (q ∙ ap (λ (y : TimeOutcome (Row w)). y.tables) so));
      }
