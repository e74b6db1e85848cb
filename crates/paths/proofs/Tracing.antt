-- The path that is traced for a node is an open complete path through it, with the node's slack.
use Rattle.std.proofs.Common.{◌≡◌, ℕ, zero, suc, ◌+◌, ◌<◌, ◌≤◌, Bool, true, false, T, eqb, ◌⊎◌, List, [], ◌∷◌, ◌++◌, length, Some, None, Option, sym, refl, ap, ◌∙◌, subst, ap₂, inl, inr, append_assoc, append-nil, arith, eqb→eq, slice_get}
use mathlib.Core.List.Memᴰ
use Rattle.paths.specs.Rows.{Rows, minus}
use Rattle.paths.specs.Blocks.{Arc, RowBlock, Live, pass, passes}
use Rattle.paths.specs.Sheets.{Line, Told, Timed, no_arc, no_line, first_least, ended, asked_by, started, entered, node_slack, row_of, arrivals, into, timed, sheet}
use Rattle.paths.specs.Paths.{numbers}
use Rattle.paths.specs.Traces.{back_step, backs, fore_step, required_at, fores, traced, trace}
use Rattle.paths.specs.Relations.{Shows}
use Rattle.paths.proofs.Choosing.{In, At, at_below, at_left, at_cases, eq_eqb, none_some, some_is, chosen_in}
use Rattle.paths.proofs.Arriving.{candidates, into_from, started_from, fresh}
use Rattle.paths.proofs.Requiring.{by_from, ended_from}
use Rattle.paths.proofs.Routes.{Route, Onward, route_more, onward_more, join_parts}
use Rattle.paths.proofs.RowLaws.{Laws, minus_none}
use Rattle.paths.proofs.Small.{Given}
use Rattle.paths.proofs.Slacks.{slack_line}

numbers_append : {R : Type 0} (xs ys : List (Arc R)) → numbers (xs ++ ys) ≡ numbers xs ++ numbers ys
numbers_append [] ys = refl
numbers_append (x ∷ xs) ys = ap (λ ks. x.number ∷ ks) (numbers_append xs ys)

-- ---- the steps of a trace
module _ {R : Type 0} where
  pub back_stop : (go : ℕ → List ℕ → List ℕ) (es : List ℕ) (o : Option (Timed R)) (t : Timed R) → o ≡ Some t → t.line.back_arc ≡ no_arc → back_step go es o ≡ es
  back_stop go es o t e p = ap (back_step go es) e ∙ at_flag (eqb t.line.back_arc no_arc) (eq_eqb t.line.back_arc no_arc p)
    where
      at_flag : (f : Bool) → T f → (elim f [ true ↦ es | false ↦ go t.line.back_line (t.line.back_arc ∷ es) ]) ≡ es
      at_flag true h = refl
      at_flag false h = absurd h

  pub back_go : (go : ℕ → List ℕ → List ℕ) (es : List ℕ) (o : Option (Timed R)) (t : Timed R) → o ≡ Some t → t.line.back_arc < no_arc → back_step go es o ≡ go t.line.back_line (t.line.back_arc ∷ es)
  back_go go es o t e p = ap (back_step go es) e ∙ at_flag (eqb t.line.back_arc no_arc) (λ h. omega (arith, p, eqb→eq t.line.back_arc no_arc h))
    where
      at_flag : (f : Bool) → (T f → ⊥) → (elim f [ true ↦ es | false ↦ go t.line.back_line (t.line.back_arc ∷ es) ]) ≡ go t.line.back_line (t.line.back_arc ∷ es)
      at_flag true h = absurd (h tt)
      at_flag false h = refl

  pub fore_stop : (go : ℕ → List ℕ) (o : Option (Told R)) (y : Told R) → o ≡ Some y → y.arc ≡ no_arc → fore_step {R = R} go o ≡ []
  fore_stop go o y e p = ap (fore_step {R = R} go) e ∙ at_flag (eqb y.arc no_arc) (eq_eqb y.arc no_arc p)
    where
      at_flag : (f : Bool) → T f → ◌≡◌ {A = List ℕ} (elim f [ true ↦ [] | false ↦ y.arc ∷ go y.line ]) []
      at_flag true h = refl
      at_flag false h = absurd h

  pub fore_go : (go : ℕ → List ℕ) (o : Option (Told R)) (y : Told R) → o ≡ Some y → y.arc < no_arc → fore_step {R = R} go o ≡ y.arc ∷ go y.line
  fore_go go o y e p = ap (fore_step {R = R} go) e ∙ at_flag (eqb y.arc no_arc) (λ h. omega (arith, p, eqb→eq y.arc no_arc h))
    where
      at_flag : (f : Bool) → (T f → ⊥) → ◌≡◌ {A = List ℕ} (elim f [ true ↦ [] | false ↦ y.arc ∷ go y.line ]) (y.arc ∷ go y.line)
      at_flag true h = absurd (h tt)
      at_flag false h = refl

module _ {R : Type 0} (m : Rows R) (b : RowBlock R) (laws : Laws m) where
  -- ---- back links
  pub record Linked (n i : ℕ) (l : Line R) : Type 0 where
    pub arc : Arc R
    pub line : Line R
    pub live : Live b arc
    pub number_is : l.back_arc ≡ arc.number
    pub stands : At (arrivals m b n) l.back_line line
    pub lower : l.back_line < i
    pub at : line.node ≡ arc.from
    pub may : T (passes b line.tag arc)
    pub node_is : arc.to ≡ l.node
    pub tag_is : pass b line.tag arc ≡ l.tag
    pub arrival_is : l.arrival ≡ m.plus line.arrival arc.row

  abbrev pub BackLink : ℕ → ℕ → Line R → Type 0
  BackLink n i l = ((b.start l.node ≡ Some l.arrival) × (l.tag ≡ 0) × (l.back_arc ≡ no_arc) × (l.back_line ≡ no_line)) ⊎ Linked n i l

  pub back_link : (n i : ℕ) (l : Line R) → At (arrivals m b n) i l → BackLink n i l
  back_link zero i l e = absurd (none_some l e)
  back_link (suc v) i l e = go (at_cases (arrivals m b v) (entered m (candidates m b v) []) i l e) (λ h. back_link v i l h)
    where
      new : List (Line R)
      new = entered m (candidates m b v) []

      old : BackLink v i l → BackLink (suc v) i l
      old (inl w) = inl w
      old (inr w) = inr (record {
        arc = w.arc;
        line = w.line;
        live = w.live;
        number_is = w.number_is;
        stands = at_left (arrivals m b v) new l.back_line w.line w.stands;
        lower = w.lower;
        at = w.at;
        may = w.may;
        node_is = w.node_is;
        tag_is = w.tag_is;
        arrival_is = w.arrival_is;
      })

      came : length (arrivals m b v) ≤ i → In l (started v (b.start v)) ⊎ In l (into m b v b.arcs (arrivals m b v)) → BackLink (suc v) i l
      came h (inl j) =
          let w = started_from m b v (b.start v) l j in
          inl (
            ap (λ (z : Line R). b.start z.node) w.2 ∙ w.1 ∙ ap (λ (z : Line R). Some z.arrival) (sym w.2),
            ap (λ (z : Line R). z.tag) w.2,
            ap (λ (z : Line R). z.back_arc) w.2,
            ap (λ (z : Line R). z.back_line) w.2,
          )
      came h (inr j) =
          let w = into_from m b v b.arcs (arrivals m b v) l j in
          let o = w.brought in
          let place_is : l.back_line ≡ o.place = ap (λ (z : Line R). z.back_line) o.is ∙ omega (arith, o.place_is) in
          inr (record {
            arc = w.arc;
            line = o.by;
            live = w.in_it;
            number_is = ap (λ (z : Line R). z.back_arc) o.is;
            stands = at_left (arrivals m b v) new l.back_line o.by (subst (λ k. At (arrivals m b v) k o.by) (sym place_is) o.stands);
            lower = omega (arith, h, place_is, at_below (arrivals m b v) o.place o.by o.stands);
            at = o.at;
            may = o.may;
            node_is = ap (λ (z : Line R). z.node) (sym o.is);
            tag_is = ap (λ (z : Line R). z.tag) (sym o.is);
            arrival_is = ap (λ (z : Line R). z.arrival) o.is;
          })

      go : At (arrivals m b v) i l ⊎ ((length (arrivals m b v) ≤ i) × In l new) → (At (arrivals m b v) i l → BackLink v i l) → BackLink (suc v) i l
      go (inl h) f = old (f h)
      go (inr h) f = came h.0 (Memᴰ.append_cases (started v (b.start v)) (fresh m b laws v l h.1))

  -- the lines of the sheet stand where those of the arrivals do
  pub timed_at : (k : ℕ) (ls : List (Line R)) (i : ℕ) (t : Timed R) → At (timed m b k ls) i t → At ls i t.line
  timed_at k [] i t e = absurd (none_some t e)
  timed_at k (l ∷ ls) zero t e = ap (λ (z : Timed R). Some z.line) (some_is _ t e)
  timed_at k (l ∷ ls) (suc i) t e = timed_at (suc k) ls i t e

  at_timed : (k : ℕ) (ls : List (Line R)) (i : ℕ) (l : Line R) → At ls i l → (t : Timed R) × At (timed m b k ls) i t × (t.line ≡ l)
  at_timed k [] i l e = absurd (none_some l e)
  at_timed k (x ∷ ls) zero l e = (_, refl, some_is x l e)
  at_timed k (x ∷ ls) (suc i) l e = at_timed (suc k) ls i l e

  module _ (n : ℕ) (numbered : (e : Arc R) → Live b e → e.number < no_arc) where
    backs_right : (fuel i : ℕ) (t : Timed R) (es : List ℕ) → At (sheet m b n) i t → i < fuel
        → (r : Route m b t.line.node t.line.tag t.line.arrival) × (backs fuel (sheet m b n) i es ≡ numbers r.arcs ++ es)
    backs_right zero i t es a h = absurd (omega arith)
    backs_right (suc fuel) i t es a h =
        go (back_link n i t.line (timed_at 0 (arrivals m b n) i t a)) (λ j u ks a' h'. backs_right fuel j u ks a' h')
      where
        Goal : Type 0
        Goal = (r : Route m b t.line.node t.line.tag t.line.arrival) × (backs (suc fuel) (sheet m b n) i es ≡ numbers r.arcs ++ es)

        Below : Type 0
        Below = (j : ℕ) (u : Timed R) (ks : List ℕ) → At (sheet m b n) j u → j < fuel
            → (r : Route m b u.line.node u.line.tag u.line.arrival) × (backs fuel (sheet m b n) j ks ≡ numbers r.arcs ++ ks)

        go : BackLink n i t.line → Below → Goal
        go (inl w) f = (
          record { first = t.line.node; starts_at = t.line.arrival; arcs = []; starts = w.0; leads = refl; carries = sym w.1; is = sym (laws.unit t.line.arrival) },
          back_stop (λ j ks. backs fuel (sheet m b n) j ks) es (slice_get (sheet m b n) i) t a w.2,
        )
        go (inr w) f =
            let u = at_timed 0 (arrivals m b n) t.line.back_line w.line w.stands in
            let below : t.line.back_line < fuel = omega (arith, h, w.lower) in
            let k = f t.line.back_line u.0 (t.line.back_arc ∷ es) u.1 below in
            let r = route_more laws b u.0.line.node t.line.node u.0.line.tag t.line.tag u.0.line.arrival t.line.arrival k.0 w.arc w.live
            (sym w.at ∙ ap (λ (z : Line R). z.node) (sym u.2))
            (subst (λ (z : Line R). T (passes b z.tag w.arc)) (sym u.2) w.may)
            w.node_is
            (ap (λ (z : Line R). pass b z.tag w.arc) u.2 ∙ w.tag_is)
            (w.arrival_is ∙ ap (λ (z : Line R). m.plus z.arrival w.arc.row) (sym u.2)) in (
              r.0,
              back_go (λ j ks. backs fuel (sheet m b n) j ks) es (slice_get (sheet m b n) i) t a (subst (λ x. x < no_arc) (sym w.number_is) (numbered w.arc w.live))
                  ∙ k.1
                  ∙ ap (λ x. numbers k.0.arcs ++ (x ∷ es)) w.number_is
                  ∙ sym (append_assoc (numbers k.0.arcs) (w.arc.number ∷ []) es)
                  ∙ ap (λ xs. xs ++ es) (sym (numbers_append k.0.arcs (w.arc ∷ [])) ∙ ap numbers (sym r.1)),
            )

  -- ---- fore links
  pub record Ahead (k : ℕ) (ts : List (Timed R)) (i : ℕ) (t : Timed R) (y : Told R) : Type 0 where
    pub arc : Arc R
    pub live : Live b arc
    pub number_is : y.arc ≡ arc.number
    pub from_is : arc.from ≡ t.line.node
    pub may : T (passes b t.line.tag arc)
    pub beyond : Timed R
    pub asks_for : Told R
    pub place : ℕ
    pub place_is : y.line ≡ k + place
    pub higher : i < place
    pub stands : At ts place beyond
    pub node_is : arc.to ≡ beyond.line.node
    pub tag_is : pass b t.line.tag arc ≡ beyond.line.tag
    pub required_is : beyond.required ≡ Some asks_for
    pub row_is : y.row ≡ minus m asks_for.row arc.row

  abbrev pub ForeLink : ℕ → List (Timed R) → ℕ → Timed R → Told R → Type 0
  ForeLink k ts i t y = ((b.end t.line.node ≡ Some y.row) × (y.arc ≡ no_arc) × (y.line ≡ no_line)) ⊎ Ahead k ts i t y

  pub fore_link : (k : ℕ) (ls : List (Line R)) (i : ℕ) (t : Timed R) (y : Told R) → At (timed m b k ls) i t → t.required ≡ Some y → ForeLink k (timed m b k ls) i t y
  fore_link k [] i t y a r = absurd (none_some t a)
  fore_link k (l ∷ ls) zero t y a r =
      from (Memᴰ.append_cases (ended (b.end l.node)) (chosen_in laws told y (ap (λ (z : Timed R). z.required) is_here ∙ r)))
    where
      ts : List (Timed R)
      ts = timed m b (suc k) ls

      told : List (Told R)
      told = ended (b.end l.node) ++ asked_by m b l b.arcs (suc k) ts

      here : Timed R
      here = record { line = l; required = first_least m told }

      is_here : here ≡ t
      is_here = some_is here t a

      from : In y (ended (b.end l.node)) ⊎ In y (asked_by m b l b.arcs (suc k) ts) → ForeLink k (here ∷ ts) zero t y
      from (inl j) =
          let w = ended_from m b (b.end l.node) y j in
          inl (ap (λ (z : Timed R). b.end z.line.node) (sym is_here) ∙ w.0, w.1, w.2)
      from (inr j) =
          let w = by_from m b l b.arcs (suc k) ts y j in
          let o = w.told in
          inr (record {
            arc = w.arc;
            live = w.in_it;
            number_is = o.arc_is;
            from_is = w.from_is ∙ ap (λ (z : Timed R). z.line.node) is_here;
            may = subst (λ (z : Timed R). T (passes b z.line.tag w.arc)) is_here w.may;
            beyond = o.by;
            asks_for = o.asks_for;
            place = suc o.place;
            place_is = omega (arith, o.place_is);
            higher = omega arith;
            stands = o.stands;
            node_is = sym o.node_is;
            tag_is = ap (λ (z : Timed R). pass b z.line.tag w.arc) (sym is_here) ∙ sym o.tag_is;
            required_is = o.required_is;
            row_is = o.row_is;
          })
  fore_link k (l ∷ ls) (suc i) t y a r = later (fore_link (suc k) ls i t y a r)
    where
      ts : List (Timed R)
      ts = timed m b (suc k) ls

      later : ForeLink (suc k) ts i t y → ForeLink k (timed m b k (l ∷ ls)) (suc i) t y
      later (inl w) = inl w
      later (inr w) = inr (record {
        arc = w.arc;
        live = w.live;
        number_is = w.number_is;
        from_is = w.from_is;
        may = w.may;
        beyond = w.beyond;
        asks_for = w.asks_for;
        place = suc w.place;
        place_is = omega (arith, w.place_is);
        higher = omega (arith, w.higher);
        stands = w.stands;
        node_is = w.node_is;
        tag_is = w.tag_is;
        required_is = w.required_is;
        row_is = w.row_is;
      })

  module _ (n : ℕ) (numbered : (e : Arc R) → Live b e → e.number < no_arc) where
    fores_right : (fuel i : ℕ) (t : Timed R) (y : Told R) → At (sheet m b n) i t → t.required ≡ Some y → length (sheet m b n) ≤ i + fuel
        → (o : Onward m b t.line.node t.line.tag y.row) × (fores fuel (sheet m b n) i ≡ numbers o.arcs)
    fores_right zero i t y a r h = absurd (omega (arith, at_below (sheet m b n) i t a))
    fores_right (suc fuel) i t y a r h =
        go (fore_link 0 (arrivals m b n) i t y a r) (λ j u z a' r' h'. fores_right fuel j u z a' r' h')
      where
        required_is : required_at (slice_get (sheet m b n) i) ≡ Some y
        required_is = ap required_at a ∙ r

        Below : Type 0
        Below = (j : ℕ) (u : Timed R) (z : Told R) → At (sheet m b n) j u → u.required ≡ Some z → length (sheet m b n) ≤ j + fuel
            → (o : Onward m b u.line.node u.line.tag z.row) × (fores fuel (sheet m b n) j ≡ numbers o.arcs)

        go : ForeLink 0 (sheet m b n) i t y → Below → (o : Onward m b t.line.node t.line.tag y.row) × (fores (suc fuel) (sheet m b n) i ≡ numbers o.arcs)
        go (inl w) f = (
          record { last = t.line.node; ends_at = y.row; arcs = []; tag = t.line.tag; ends = w.0; leads = refl; carries = refl; is = sym (minus_none laws y.row) },
          fore_stop (λ j. fores fuel (sheet m b n) j) (required_at (slice_get (sheet m b n) i)) y required_is w.1,
        )
        go (inr w) f =
            let place_is : y.line ≡ w.place = omega (arith, w.place_is) in
            let k = f w.place w.beyond w.asks_for w.stands w.required_is (omega (arith, h, w.higher)) in
            let o = onward_more laws b w.beyond.line.node t.line.node t.line.tag w.beyond.line.tag w.asks_for.row y.row k.0 w.arc w.live
            w.from_is w.may w.node_is w.tag_is w.row_is in (
              o.0,
              fore_go (λ j. fores fuel (sheet m b n) j) (required_at (slice_get (sheet m b n) i)) y required_is (subst (λ x. x < no_arc) (sym w.number_is) (numbered w.arc w.live))
                  ∙ ap₂ (λ x ks. x ∷ ks) w.number_is (ap (fores fuel (sheet m b n)) place_is ∙ k.1)
                  ∙ ap numbers (sym o.1),
            )

pub trace_shows_least_lem : {R : Type 0} (m : Rows R) (b : RowBlock R) (n : ℕ) → Given m b n → (v : ℕ) → Shows m b v (row_of (node_slack m v (sheet m b n))) (trace m v (sheet m b n))
trace_shows_least_lem {R} m b n sound v = go (node_slack m v (sheet m b n)) refl
  where
    laws : Laws m
    laws = sound.laws

    go : (o : Option (Told R)) → node_slack m v (sheet m b n) ≡ o → Shows m b v (row_of o) (traced (sheet m b n) o)
    go None e = tt
    go (Some s) e =
        let w = slack_line m b n sound v s e in
        let t = w.by in
        let place_is : s.line ≡ w.place = omega (arith, w.place_is) in
        let r = backs_right m b laws n sound.numbered (length (sheet m b n)) w.place t [] w.stands (at_below (sheet m b n) w.place t w.stands) in
        let o = fores_right m b laws n sound.numbered (length (sheet m b n)) w.place t w.required w.stands w.required_is (omega arith) in
        let p = join_parts laws b t.line.node v t.line.tag t.line.arrival w.required.row w.node_is r.0 o.0 in (
          p.0,
          p.1 ∙ sym w.row_is,
          ap₂ (λ xs ys. numbers (xs ++ ys)) p.2 p.3 ∙ numbers_append r.0.arcs o.0.arcs
              ∙ ap₂ (λ xs ys. xs ++ ys)
              (sym (append-nil (numbers r.0.arcs)) ∙ sym r.1 ∙ ap (λ k. backs (length (sheet m b n)) (sheet m b n) k []) (sym place_is))
              (sym o.1 ∙ ap (fores (length (sheet m b n)) (sheet m b n)) (sym place_is)),
        )
