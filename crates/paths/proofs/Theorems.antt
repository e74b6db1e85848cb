-- The theorems of all sound blocks.
use Rattle.std.proofs.Common.{◌≡◌, ℕ, suc, ◌-◌, ◌*◌, ◌<◌, ◌≤◌, Some, None, Option, refl, ap, subst, arith}
use Rattle.measure.specs.Rows.{Row, Bounded, negated}
use Rattle.measure.specs.Bounds.{bounded_negated}
use Rattle.measure.proofs.Bounds.{summed_within}
use Rattle.paths.specs.Rows.{Rows, rows}
use Rattle.paths.specs.Sheets.{Line, Told, Timed, arrivals, sheet, node_slack, row_of}
use Rattle.paths.specs.Times.{NodeSlack}
use Rattle.paths.specs.Relations.{IsEntry}
use Rattle.paths.specs.Theorems.{OfBlocks, SlackIsLeast, TraceShowsLeast, RowsStaySmall, SumsAreAnswered, SheetIsSettled, RangeSuffices}
use Rattle.paths.proofs.Choosing.{In}
use Rattle.paths.proofs.Small.{Given, reaches_small, asked_small, reached_tag}
use Rattle.paths.proofs.Arriving.{arrivals_right}
use Rattle.paths.proofs.Requiring.{timed_lines, timed_right}
use Rattle.paths.proofs.Slacks.{sheet_is_right, slack_by_tags, slack_is_least_lem, slack_line, arrival_near, required_near}
use Rattle.paths.proofs.Tracing.{trace_shows_least_lem}
use Rattle.paths.proofs.Ties.{back_links_win}
use Rattle.paths.proofs.ForeTies.{fore_links_win, lowest_line}
use Rattle.paths.proofs.Unique.{one_sheet, one_entry}
use Rattle.paths.proofs.Ranges.{sheet_same, slack_same}
use Rattle.paths.proofs.Joining.{far, far_bounded, given}

pub least : OfBlocks SlackIsLeast
least w not_later order b n sound = slack_is_least_lem (rows w not_later) b n (given w not_later order b n sound)

pub traced : OfBlocks TraceShowsLeast
traced w not_later order b n sound = trace_shows_least_lem (rows w not_later) b n (given w not_later order b n sound)

pub settled : OfBlocks SheetIsSettled
settled w not_later order b n sound = record {
  sheet_is = record { right = sheet_is_right m b n known; backs = back_links_win m b n known; fores = fore_links_win m b n known };
  one_sheet = one_sheet m b n known;
  entry_is = λ v h. entry v h (node_slack m v (sheet m b n)) refl;
  one_entry = one_entry m b n known;
}
  where
    m : Rows (Row w)
    m = rows w not_later

    known : Given m b n
    known = given w not_later order b n sound

    entry : (v : ℕ) → v < n → (o : Option (Told (Row w))) → node_slack m v (sheet m b n) ≡ o → IsEntry m b (sheet m b n) v o
    entry v h None e = subst (λ o. NodeSlack m b v (row_of o)) e (slack_by_tags m b n known v h)
    entry v h (Some a) e = (subst (λ o. NodeSlack m b v (row_of o)) e (slack_by_tags m b n known v h), lowest_line m b n known v a e)

pub ranges : OfBlocks RangeSuffices
ranges w not_later order b n sound other same =
    let known = given w not_later order b n sound in
    let agree : (a c : Row w) → far w a ≤ 1000000000 → far w c ≤ 1000000000 → other a c ≡ not_later a c = λ a c fa fc. same a c (far_bounded w 1000000000 a fa) (far_bounded w 1000000000 c fc) in
    (sheet_same (rows w not_later) b n known other agree, slack_same (rows w not_later) b n known other agree)

pub small : OfBlocks RowsStaySmall
small w not_later order b n sound = record {
  tags = λ t i. reached_tag t.line.node t.line.tag t.line.arrival (arrivals_right m b known.laws n t.line (timed_lines m b 0 (arrivals m b n) t i)).reached;
  arrivals = λ t i. far_bounded w _ _ (arrival t.line (timed_lines m b 0 (arrivals m b n) t i));
  required = λ t y i r. far_bounded w _ _ (required t y i r);
  slacks = λ v a e.
      let s = slack_line m b n known v a e in
      let t = s.by in
      let i = timed_lines m b 0 (arrivals m b n) t s.in_it in
      far_bounded w _ _ (omega (
        arith,
        ap (far w) s.row_is,
        known.laws.sums s.required.row (m.opposite t.line.arrival),
        known.laws.opposites t.line.arrival,
        arrival t.line i,
        required t s.required s.in_it s.required_is,
        (arrivals_right m b known.laws n t.line i).node_below,
      ));
}
  where
    m : Rows (Row w)
    m = rows w not_later

    known : Given m b n
    known = given w not_later order b n sound

    arrival : (l : Line (Row w)) → In l (arrivals m b n) → far w l.arrival ≤ 1_000_000 * suc l.node
    arrival l i = reaches_small known l.node l.tag l.arrival (arrivals_right m b known.laws n l i).reached

    required : (t : Timed (Row w)) (y : Told (Row w)) → In t (sheet m b n) → t.required ≡ Some y → far w y.row ≤ 1_000_000 * (n - t.line.node)
    required t y i r =
        asked_small known n (omega arith) t.line.node t.line.tag y.row
        (arrivals_right m b known.laws n t.line (timed_lines m b 0 (arrivals m b n) t i)).node_below
        (timed_right m b known.laws 0 (arrivals m b n) t y i r)

-- every sum has a place for each of its parts within 257 million
pub answered : OfBlocks SumsAreAnswered
answered w not_later order b n sound = record {
  passing = λ t e i l. summed_within w 256000000 1000000 t.line.arrival e.row (omega arith) (arrival t i) (sound.arcs e l);
  asking = λ t y e i r l.
      summed_within w 256000000 1000000 y.row (negated w e.row) (omega arith) (required t y i r) (bounded_negated w 1000000 e.row (sound.arcs e l));
  slack = λ t y i r.
      summed_within w 256000000 256000000 y.row (negated w t.line.arrival) (omega arith) (required t y i r)
      (bounded_negated w 256000000 t.line.arrival (arrival t i));
}
  where
    m : Rows (Row w)
    m = rows w not_later

    known : Given m b n
    known = given w not_later order b n sound

    arrival : (t : Timed (Row w)) → In t (sheet m b n) → Bounded w 256000000 t.line.arrival
    arrival t i = far_bounded w 256000000 t.line.arrival (arrival_near m b n known t i)

    required : (t : Timed (Row w)) (y : Told (Row w)) → In t (sheet m b n) → t.required ≡ Some y → Bounded w 256000000 y.row
    required t y i r = far_bounded w 256000000 y.row (required_near m b n known t y i r)
