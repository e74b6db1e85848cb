-- Of the links that ask a line's required time, the line has the one that wins; and a node's slack has the lowest line.
use Rattle.std.proofs.Common.{◌≡◌, ℕ, zero, suc, ◌+◌, ◌<◌, ◌≤◌, cond, T, eqb, ◌⊎◌, List, [], ◌∷◌, ◌++◌, Some, None, Option, sym, refl, ap, ◌∙◌, subst, subst₂, inl, inr, arith}
use mathlib.Core.List.Memᴰ
use Rattle.paths.specs.Rows.{Rows, Before, minus}
use Rattle.paths.specs.Blocks.{Arc, RowBlock, Live, Rising, pass, passes, ByNumber}
use Rattle.paths.specs.Sheets.{Line, Told, Timed, no_arc, no_line, first_least, asks, asked_over, asked_by, ended, slack_of, slacks, node_slack, arrivals, timed, sheet}
use Rattle.paths.specs.Relations.{Precedes, InOrder, Wins, Ask, by_end, by_line, ForeLinks, SlackLine, LowestLine}
use Rattle.paths.proofs.RowLaws.{Laws, Fine, before_refl}
use Rattle.paths.proofs.Small.{Given, Tame, tame}
use Rattle.paths.proofs.Choosing.{In, At, in_at, at_in, in_nil, by_cond, cond_true, eq_eqb, all_in, none_some, some_is, Orders, Ascending, append_ascending, chosen_wins}
use Rattle.paths.proofs.Arriving.{Numbered, wins_order, arrivals_order, arrivals_right}
use Rattle.paths.proofs.Requiring.{ToldBy, ToldOver, over_from, by_from, by_has, ended_from, not_before, told_near}
use Rattle.paths.proofs.Slacks.{SlackAt, slacks_from, slack_line, slacks_fine}
use Rattle.paths.proofs.Tracing.{timed_at, fore_link, ForeLink}

abbrev First : {R : Type 0} → Told R → Told R → Type 0
First a c = Wins a.arc a.line c.arc c.line

module _ {R : Type 0} (m : Rows R) (b : RowBlock R) where
  -- ---- what is told comes by its links
  asks_one : (e : Arc R) (k : ℕ) (o : Option (Told R)) → Ascending First (asks m e k o)
  asks_one e k None = tt
  asks_one e k (Some y) = (tt, tt)

  asks_link : (e : Arc R) (k : ℕ) (o : Option (Told R)) (a : Told R) → In a (asks m e k o) → (a.arc ≡ e.number) × (a.line ≡ k)
  asks_link e k None a i = in_nil a i
  asks_link e k (Some y) a i = go (Memᴰ.cases_cons i)
    where
      go : (a ≡ record { row = minus m y.row e.row; arc = e.number; line = k }) ⊎ In a [] → (a.arc ≡ e.number) × (a.line ≡ k)
      go (inl p) = (ap (λ (z : Told R). z.arc) p, ap (λ (z : Told R). z.line) p)
      go (inr j) = in_nil a j

  over_ascending : (l : Line R) (e : Arc R) (k : ℕ) (ts : List (Timed R)) → Ascending First (asked_over m b l e k ts)
  over_ascending l e k [] = tt
  over_ascending l e k (t ∷ ts) =
      let rest = asked_over m b l e (suc k) ts in
      let below : Ascending First rest = over_ascending l e (suc k) ts in
      by_cond (Ascending First) (eqb t.line.node e.to) (cond (eqb t.line.tag (pass b l.tag e)) (asks m e k t.required ++ rest) rest) rest
      (λ _. by_cond (Ascending First) (eqb t.line.tag (pass b l.tag e)) (asks m e k t.required ++ rest) rest
      (λ _. append_ascending First (asks m e k t.required) rest (asks_one e k t.required) below
      (λ x y i j. later x y (asks_link e k t.required x i) (over_from m b l e (suc k) ts y j)))
      (λ _. below))
      (λ _. below)
    where
      later : (x y : Told R) → (x.arc ≡ e.number) × (x.line ≡ k) → ToldBy m b l e (suc k) ts y → First x y
      later x y p w = inr (inr (p.0 ∙ sym w.arc_is, omega (arith, p.1, w.place_is)))

  by_ascending : (l : Line R) (es : List (Arc R)) (k : ℕ) (ts : List (Timed R)) → ByNumber es → ((e : Arc R) → In e es → e.number < no_arc) → Ascending First (asked_by m b l es k ts)
  by_ascending l [] k ts s h = tt
  by_ascending l (e ∷ es) k ts s h =
      let rest = asked_by m b l es k ts in
      let below : Ascending First rest = by_ascending l es k ts s.1 (λ a i. h a (Memᴰ.tail i)) in
      by_cond (Ascending First) (eqb e.from l.node) (cond (passes b l.tag e) (asked_over m b l e k ts ++ rest) rest) rest
      (λ _. by_cond (Ascending First) (passes b l.tag e) (asked_over m b l e k ts ++ rest) rest
      (λ _. append_ascending First (asked_over m b l e k ts) rest (over_ascending l e k ts) below (λ x y i j. less x y (over_from m b l e k ts x i) (by_from m b l es k ts y j)))
      (λ _. below))
      (λ _. below)
    where
      less : (x y : Told R) → ToldBy m b l e k ts x → ToldOver m b l es k ts y → First x y
      less x y w z =
          inr (inl (
            omega (arith, w.arc_is, z.told.arc_is, all_in (λ c. e.number < c.number) es s.0 z.arc z.in_it),
            omega (arith, z.told.arc_is, h z.arc (Memᴰ.tail z.in_it)),
          ))

  ended_one : (o : Option R) → Ascending First (ended o)
  ended_one None = tt
  ended_one (Some y) = (tt, tt)

  told_ascending : Numbered b → (l : Line R) (k : ℕ) (ts : List (Timed R)) → Ascending First (ended (b.end l.node) ++ asked_by m b l b.arcs k ts)
  told_ascending num l k ts =
      append_ascending First (ended (b.end l.node)) (asked_by m b l b.arcs k ts) (ended_one (b.end l.node)) (by_ascending l b.arcs k ts num.0 num.1)
      (λ x y i j. inl (ended_from m b (b.end l.node) x i).1)

  -- the line at a place asks under that number
  over_at : (l : Line R) (e : Arc R) (k : ℕ) (ts : List (Timed R)) (p : ℕ) (t : Timed R) (z : Told R) → At ts p t → t.line.node ≡ e.to → t.line.tag ≡ pass b l.tag e → t.required ≡ Some z
      → In (record { row = minus m z.row e.row; arc = e.number; line = k + p }) (asked_over m b l e k ts)
  over_at l e k [] p t z a n s r = absurd (none_some t a)
  over_at l e k (u ∷ ts) zero t z a n s r =
      let same : u ≡ t = some_is u t a in
      let rest = asked_over m b l e (suc k) ts in
      let x : Told R = record { row = minus m z.row e.row; arc = e.number; line = k + 0 } in
      subst (λ xs. In x xs)
      (sym (cond_true (eqb u.line.node e.to) (cond (eqb u.line.tag (pass b l.tag e)) (asks m e k u.required ++ rest) rest) rest
      (eq_eqb u.line.node e.to (ap (λ (q : Timed R). q.line.node) same ∙ n))
      ∙ cond_true (eqb u.line.tag (pass b l.tag e)) (asks m e k u.required ++ rest) rest
      (eq_eqb u.line.tag (pass b l.tag e) (ap (λ (q : Timed R). q.line.tag) same ∙ s))))
      (Memᴰ.append_left rest
      (subst (λ o. In x (asks m e k o)) (sym (ap (λ (q : Timed R). q.required) same ∙ r))
      (Memᴰ.head (ap (λ j. let c : Told R = record { row = minus m z.row e.row; arc = e.number; line = j } in c) (let q : k + 0 ≡ k = omega arith in q)))))
  over_at l e k (u ∷ ts) (suc p) t z a n s r =
      let rest = asked_over m b l e (suc k) ts in
      let x : Told R = record { row = minus m z.row e.row; arc = e.number; line = k + suc p } in
      let j : In x rest =
      subst (λ i. In (let c : Told R = record { row = minus m z.row e.row; arc = e.number; line = i } in c) rest) (let q : suc k + p ≡ k + suc p = omega arith in q)
      (over_at l e (suc k) ts p t z a n s r) in
      by_cond (λ xs. In x xs) (eqb u.line.node e.to) (cond (eqb u.line.tag (pass b l.tag e)) (asks m e k u.required ++ rest) rest) rest
      (λ _. by_cond (λ xs. In x xs) (eqb u.line.tag (pass b l.tag e)) (asks m e k u.required ++ rest) rest (λ _. Memᴰ.append_right (asks m e k u.required) j) (λ _. j))
      (λ _. j)

  -- ---- links by places from k on
  pub record Placed (k : ℕ) (ts : List (Timed R)) (v s : ℕ) (y : R) (a i : ℕ) : Type 0 where
    pub arc : Arc R
    pub place : ℕ
    pub line : Timed R
    pub asks_for : Told R
    pub live : Live b arc
    pub number_is : arc.number ≡ a
    pub place_is : i ≡ k + place
    pub from_is : arc.from ≡ v
    pub may : T (passes b s arc)
    pub stands : At ts place line
    pub node_is : line.line.node ≡ arc.to
    pub tag_is : line.line.tag ≡ pass b s arc
    pub required_is : line.required ≡ Some asks_for
    pub row_is : minus m asks_for.row arc.row ≡ y

  abbrev AskFrom : ℕ → List (Timed R) → ℕ → ℕ → R → ℕ → ℕ → Type 0
  AskFrom k ts v s y a i = ((b.end v ≡ Some y) × (a ≡ no_arc) × (i ≡ no_line)) ⊎ Placed k ts v s y a i

  ask_from : (ts : List (Timed R)) (v s : ℕ) (y : R) (a i : ℕ) → Ask m b ts v s y a i → AskFrom 0 ts v s y a i
  ask_from ts v s y a i (by_end e) = inl (e, refl, refl)
  ask_from ts v s y a i (by_line e j t z live from may stands node tag req row) =
      inr (record {
        arc = e;
        place = j;
        line = t;
        asks_for = z;
        live = live;
        number_is = refl;
        place_is = omega arith;
        from_is = from;
        may = may;
        stands = stands;
        node_is = node;
        tag_is = tag;
        required_is = req;
        row_is = row;
      })

  module _ (laws : Laws m) (tamed : Tame m b laws) (num : Numbered b) (rising : Rising b) where
    wins : (k : ℕ) (ls : List (Line R)) → ((l : Line R) → In l ls → l.node < 256) → InOrder ls → (p : ℕ) (t : Timed R) (y : Told R) → At (timed m b k ls) p t → t.required ≡ Some y
        → (a i : ℕ) → AskFrom k (timed m b k ls) t.line.node t.line.tag y.row a i → Wins y.arc y.line a i
    wins k [] low o p t y at r a i q = absurd (none_some t at)
    wins k (l ∷ ls) low o zero t y at r a i q = go q
      where
        ts : List (Timed R)
        ts = timed m b (suc k) ls

        told : List (Told R)
        told = ended (b.end l.node) ++ asked_by m b l b.arcs (suc k) ts

        here : Timed R
        here = record { line = l; required = first_least m told }

        is_here : here ≡ t
        is_here = some_is here t at

        fine : (x : Told R) → In x told → Fine laws x.row
        fine x j = omega (arith, told_near m b laws tamed l (low l (Memᴰ.head refl)) (suc k) ls x j)

        won : (x : Told R) → In x told → x.row ≡ y.row → Wins y.arc y.line x.arc x.line
        won x j e =
            chosen_wins laws First (wins_order (λ t. t.arc) (λ t. t.line)) told fine (told_ascending num l (suc k) ts) y x (ap (λ (z : Timed R). z.required) is_here ∙ r) j
            (subst (λ z. Before m x.row z) e (before_refl laws x.row (fine x j)))

        later : (w : Placed k (here ∷ ts) t.line.node t.line.tag y.row a i) (p : ℕ) → w.place ≡ p → Wins y.arc y.line a i
        later w zero e =
            let same : here ≡ w.line = some_is here w.line (subst (λ j. At (here ∷ ts) j w.line) e w.stands) in
            absurd (omega (arith, rising w.arc w.live, w.from_is, ap (λ (z : Timed R). z.line.node) is_here, ap (λ (z : Timed R). z.line.node) same, w.node_is))
        later w (suc j) e =
            let n : w.arc.from ≡ l.node = w.from_is ∙ ap (λ (z : Timed R). z.line.node) (sym is_here) in
            let may : T (passes b l.tag w.arc) = subst (λ (z : Timed R). T (passes b z.line.tag w.arc)) (sym is_here) w.may in
            let tag : w.line.line.tag ≡ pass b l.tag w.arc = w.tag_is ∙ ap (λ (z : Timed R). pass b z.line.tag w.arc) (sym is_here) in
            let x : Told R = record { row = minus m w.asks_for.row w.arc.row; arc = w.arc.number; line = suc k + j } in
            let inside = over_at l w.arc (suc k) ts j w.line w.asks_for (subst (λ i. At (here ∷ ts) i w.line) e w.stands) w.node_is tag w.required_is in
            let told_in : In x told = Memᴰ.append_right (ended (b.end l.node)) (by_has m b l b.arcs (suc k) ts w.arc x w.live n may inside) in
            let line_is : suc k + j ≡ i = omega (arith, w.place_is, e) in
            subst₂ (λ c d. Wins y.arc y.line c d) w.number_is line_is (won x told_in w.row_is)

        go : AskFrom k (here ∷ ts) t.line.node t.line.tag y.row a i → Wins y.arc y.line a i
        go (inr w) = later w w.place refl
        go (inl w) =
            let x : Told R = record { row = y.row; arc = no_arc; line = no_line } in
            let end_is : b.end l.node ≡ Some y.row = ap (λ (z : Timed R). b.end z.line.node) is_here ∙ w.0 in
            subst₂ (λ c d. Wins y.arc y.line c d) (sym w.1) (sym w.2)
            (won x (Memᴰ.append_left (asked_by m b l b.arcs (suc k) ts) (subst (λ z. In x (ended z)) (sym end_is) (Memᴰ.head refl))) refl)
    wins k (l ∷ ls) low o (suc p) t y at r a i q = wins (suc k) ls (λ z j. low z (Memᴰ.tail j)) o.1 p t y at r a i (go q)
      where
        ts : List (Timed R)
        ts = timed m b (suc k) ls

        here : Timed R
        here = record { line = l; required = first_least m (ended (b.end l.node) ++ asked_by m b l b.arcs (suc k) ts) }

        after : l.node ≤ t.line.node
        after = not_before m b laws l t.line (all_in (Precedes l) ls o.0 t.line (at_in ls p t.line (timed_at m b laws (suc k) ls p t at)))

        later : (w : Placed k (here ∷ ts) t.line.node t.line.tag y.row a i) (j : ℕ) → w.place ≡ j → AskFrom (suc k) ts t.line.node t.line.tag y.row a i
        later w zero e =
            let same : here ≡ w.line = some_is here w.line (subst (λ j. At (here ∷ ts) j w.line) e w.stands) in
            absurd (omega (arith, after, rising w.arc w.live, w.from_is, ap (λ (z : Timed R). z.line.node) same, w.node_is))
        later w (suc j) e =
            inr (record {
              arc = w.arc;
              place = j;
              line = w.line;
              asks_for = w.asks_for;
              live = w.live;
              number_is = w.number_is;
              place_is = omega (arith, w.place_is, e);
              from_is = w.from_is;
              may = w.may;
              stands = subst (λ i. At (here ∷ ts) i w.line) e w.stands;
              node_is = w.node_is;
              tag_is = w.tag_is;
              required_is = w.required_is;
              row_is = w.row_is;
            })

        go : AskFrom k (here ∷ ts) t.line.node t.line.tag y.row a i → AskFrom (suc k) ts t.line.node t.line.tag y.row a i
        go (inl w) = inl w
        go (inr w) = later w w.place refl

pub fore_links_win : {R : Type 0} (m : Rows R) (b : RowBlock R) (n : ℕ) → Given m b n → ForeLinks m b (sheet m b n)
fore_links_win {R} m b n sound t y i r =
    let p = in_at (sheet m b n) t i in (
      own (fore_link m b laws 0 (arrivals m b n) p.0 t y p.1 r),
      λ a j q. wins m b laws (tame sound) (sound.by_number, sound.numbered) sound.rising 0 (arrivals m b n) (λ l z. omega (arith, (arrivals_right m b laws n l z).node_below, sound.few)) (arrivals_order m b laws n) p.0 t y p.1 r a j
          (ask_from m b (sheet m b n) t.line.node t.line.tag y.row a j q),
    )
  where
    laws : Laws m
    laws = sound.laws

    own : {p : ℕ} → ForeLink m b laws 0 (sheet m b n) p t y → Ask m b (sheet m b n) t.line.node t.line.tag y.row y.arc y.line
    own (inl w) = subst₂ (λ c d. Ask m b (sheet m b n) t.line.node t.line.tag y.row c d) (sym w.1) (sym w.2) (by_end w.0)
    own (inr w) =
        let place_is : w.place ≡ y.line = omega (arith, w.place_is) in
        subst₂ (λ c d. Ask m b (sheet m b n) t.line.node t.line.tag y.row c d) (sym w.number_is) place_is
        (by_line w.arc w.place w.beyond w.asks_for w.live w.from_is w.may w.stands (sym w.node_is) (sym w.tag_is) w.required_is (sym w.row_is))

-- ---- the line of a slack
module _ {R : Type 0} (m : Rows R) where
  abbrev Lower : Told R → Told R → Type 0
  Lower a c = a.line ≤ c.line

  lower_order : Orders Lower
  lower_order = record { itself = λ x. omega arith; chain = λ x y z p q. omega (arith, p, q) }

  slack_link : (k : ℕ) (t : Timed R) (o : Option (Told R)) (a : Told R) → In a (slack_of m k t o) → a.line ≡ k
  slack_link k t None a i = in_nil a i
  slack_link k t (Some y) a i = go (Memᴰ.cases_cons i)
    where
      go : (a ≡ record { row = minus m y.row t.line.arrival; arc = no_arc; line = k }) ⊎ In a [] → a.line ≡ k
      go (inl p) = ap (λ (z : Told R). z.line) p
      go (inr j) = in_nil a j

  slack_one : (k : ℕ) (t : Timed R) (o : Option (Told R)) → Ascending Lower (slack_of m k t o)
  slack_one k t None = tt
  slack_one k t (Some y) = (tt, tt)

  slacks_ascending : (v k : ℕ) (ts : List (Timed R)) → Ascending Lower (slacks m v k ts)
  slacks_ascending v k [] = tt
  slacks_ascending v k (t ∷ ts) =
      let rest = slacks m v (suc k) ts in
      let below : Ascending Lower rest = slacks_ascending v (suc k) ts in
      by_cond (Ascending Lower) (eqb t.line.node v) (slack_of m k t t.required ++ rest) rest
      (λ _. append_ascending Lower (slack_of m k t t.required) rest (slack_one k t t.required) below
      (λ x y i j. omega (arith, slack_link k t t.required x i, (slacks_from m v (suc k) ts y j).place_is)))
      (λ _. below)

  slacks_at : (v k : ℕ) (ts : List (Timed R)) (p : ℕ) (t : Timed R) (y : Told R) → At ts p t → t.line.node ≡ v → t.required ≡ Some y
      → (x : Told R) × In x (slacks m v k ts) × (x.row ≡ minus m y.row t.line.arrival) × (x.line ≡ k + p)
  slacks_at v k [] p t y a n r = absurd (none_some t a)
  slacks_at v k (u ∷ ts) zero t y a n r =
      let same : u ≡ t = some_is u t a in
      let rest = slacks m v (suc k) ts in
      let x : Told R = record { row = minus m y.row u.line.arrival; arc = no_arc; line = k } in (
        x,
        subst (λ xs. In x xs) (sym (cond_true (eqb u.line.node v) (slack_of m k u u.required ++ rest) rest (eq_eqb u.line.node v (ap (λ (q : Timed R). q.line.node) same ∙ n))))
            (Memᴰ.append_left rest (subst (λ o. In x (slack_of m k u o)) (sym (ap (λ (q : Timed R). q.required) same ∙ r)) (Memᴰ.head refl))),
        ap (λ (q : Timed R). minus m y.row q.line.arrival) same,
        omega arith,
      )
  slacks_at v k (u ∷ ts) (suc p) t y a n r =
      let w = slacks_at v (suc k) ts p t y a n r in
      let rest = slacks m v (suc k) ts in (
        w.0,
        by_cond (λ xs. In w.0 xs) (eqb u.line.node v) (slack_of m k u u.required ++ rest) rest (λ _. Memᴰ.append_right (slack_of m k u u.required) w.1) (λ _. w.1),
        w.2,
        omega (arith, w.3),
      )

pub lowest_line : {R : Type 0} (m : Rows R) (b : RowBlock R) (n : ℕ) → Given m b n → (v : ℕ) (a : Told R) → node_slack m v (sheet m b n) ≡ Some a → LowestLine m (sheet m b n) v a
lowest_line {R} m b n given v a e = record {
  own = record {
    line = w.by;
    required = w.required;
    stands = subst (λ i. At (sheet m b n) i w.by) (let q : w.place ≡ a.line = omega (arith, w.place_is) in q) w.stands;
    node_is = w.node_is;
    required_is = w.required_is;
    slack_is = sym w.row_is;
  };
  lowest = λ i o. low i o;
  unlinked = w.unlinked;
}
  where
    w : SlackAt m v 0 (sheet m b n) a
    w = slack_line m b n given v a e

    low : (i : ℕ) → SlackLine m (sheet m b n) v a.row i → a.line ≤ i
    low i o =
        let x = slacks_at m v 0 (sheet m b n) i o.line o.required o.stands o.node_is o.required_is in
        let fine = slacks_fine m b n given v in
        let lower : a.line ≤ x.0.line =
        chosen_wins given.laws (Lower m) (lower_order m) (slacks m v 0 (sheet m b n)) fine (slacks_ascending m v 0 (sheet m b n)) a x.0 e x.1
        (subst (λ z. Before m x.0.row z) (x.2 ∙ o.slack_is) (before_refl given.laws x.0.row (fine x.0 x.1))) in
        omega (arith, lower, x.3)
