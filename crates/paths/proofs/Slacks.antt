-- The sheet is right, and the slack of a node is the least slack of the open complete paths through it.
use Rattle.std.proofs.Common.{◌≡◌, ℕ, suc, ◌+◌, ◌<◌, cond, eqb, ◌⊎◌, List, [], ◌∷◌, ◌++◌, Some, None, Option, sym, refl, ap, ◌∙◌, subst, subst₂, inl, inr, arith, eqb→eq}
use mathlib.Core.List.Memᴰ
use Rattle.paths.specs.Rows.{Rows, Before, minus}
use Rattle.paths.specs.Blocks.{RowBlock, pass}
use Rattle.paths.specs.Paths.{slack, LeastSlack}
use Rattle.paths.specs.Times.{Reaches, passed, Asked, Arrival, Required, TagSlack, NodeSlack}
use Rattle.paths.specs.Sheets.{Line, Told, Timed, lines, no_arc, slack_of, slacks, node_slack, row_of, arrivals, timed, sheet}
use Rattle.paths.specs.Relations.{Precedes, InOrder, RequiredIs, RightLines}
use Rattle.paths.proofs.RowLaws.{Laws, Fine, Near, minus_fine, before_minus}
use Rattle.paths.proofs.Small.{Given, tame}
use Rattle.paths.proofs.Choosing.{In, At, in_nil, by_cond, cond_true, eq_eqb, all_in, none_some, some_is, ToldFine, chosen_in, chosen_least}
use Rattle.paths.proofs.Arriving.{arrivals_right, arrivals_order, arrivals_complete}
use Rattle.paths.proofs.Requiring.{timed_lines, lines_timed, timed_right, timed_complete, Onto}
use Rattle.paths.proofs.Routes.{Meeting, meet, through}

-- ---- lines in order differ in node or tag
pub order_unique : {R : Type 0} (ls : List (Line R)) → InOrder ls → (x y : Line R) → In x ls → In y ls → x.node ≡ y.node → x.tag ≡ y.tag → x ≡ y
order_unique [] o x y i j n t = in_nil x i
order_unique {R} (l ∷ ls) o x y i j n t = go (Memᴰ.cases_cons i) (Memᴰ.cases_cons j) (λ i' j'. order_unique ls o.1 x y i' j' n t)
  where
    apart : (k : Line R) → Precedes l k → l.node ≡ k.node → l.tag ≡ k.tag → ⊥
    apart k (inl h) p q = omega (arith, h, p)
    apart k (inr h) p q = omega (arith, h.1, q)

    go : (x ≡ l) ⊎ In x ls → (y ≡ l) ⊎ In y ls → (In x ls → In y ls → x ≡ y) → x ≡ y
    go (inl p) (inl q) f = p ∙ sym q
    go (inl p) (inr j') f =
        absurd (apart y (all_in (Precedes l) ls o.0 y j') (ap (λ (z : Line R). z.node) (sym p) ∙ n) (ap (λ (z : Line R). z.tag) (sym p) ∙ t))
    go (inr i') (inl q) f =
        absurd (apart x (all_in (Precedes l) ls o.0 x i') (ap (λ (z : Line R). z.node) (sym q) ∙ sym n) (ap (λ (z : Line R). z.tag) (sym q) ∙ sym t))
    go (inr i') (inr j') f = f i' j'

-- ---- the slacks of a node
pub record SlackAt {R : Type 0} (m : Rows R) (v k : ℕ) (ts : List (Timed R)) (a : Told R) : Type 0 where
  pub by : Timed R
  pub place : ℕ
  pub place_is : a.line ≡ k + place
  pub stands : At ts place by
  pub required : Told R
  pub in_it : In by ts
  pub node_is : by.line.node ≡ v
  pub required_is : by.required ≡ Some required
  pub row_is : a.row ≡ minus m required.row by.line.arrival
  pub unlinked : a.arc ≡ no_arc

module _ {R : Type 0} (m : Rows R) where
  slack_of_from : (k : ℕ) (t : Timed R) (o : Option (Told R)) (a : Told R) → In a (slack_of m k t o) → (y : Told R) × (o ≡ Some y) × (a.row ≡ minus m y.row t.line.arrival) × (a.line ≡ k) × (a.arc ≡ no_arc)
  slack_of_from k t None a i = in_nil a i
  slack_of_from k t (Some y) a i = go (Memᴰ.cases_cons i)
    where
      here : Told R
      here = record { row = minus m y.row t.line.arrival; arc = no_arc; line = k }

      go : (a ≡ here) ⊎ In a [] → (z : Told R) × (Some y ≡ Some z) × (a.row ≡ minus m z.row t.line.arrival) × (a.line ≡ k) × (a.arc ≡ no_arc)
      go (inl p) = (y, refl, ap (λ (z : Told R). z.row) p, ap (λ (z : Told R). z.line) p, ap (λ (z : Told R). z.arc) p)
      go (inr j) = in_nil a j

  pub slacks_from : (v k : ℕ) (ts : List (Timed R)) (a : Told R) → In a (slacks m v k ts) → SlackAt m v k ts a
  slacks_from v k [] a = λ i. in_nil a i
  slacks_from v k (t ∷ ts) a =
      let rest = slacks m v (suc k) ts in
      by_cond (λ xs. In a xs → SlackAt m v k (t ∷ ts) a) (eqb t.line.node v) (slack_of m k t t.required ++ rest) rest
      (λ n i. here (eqb→eq t.line.node v n) (Memᴰ.append_cases (slack_of m k t t.required) i) (λ j. slacks_from v (suc k) ts a j))
      (λ _ i. more (slacks_from v (suc k) ts a i))
    where
      more : SlackAt m v (suc k) ts a → SlackAt m v k (t ∷ ts) a
      more w = record { by = w.by; place = suc w.place; place_is = omega (arith, w.place_is); stands = w.stands; required = w.required; in_it = Memᴰ.tail w.in_it; node_is = w.node_is; required_is = w.required_is; row_is = w.row_is; unlinked = w.unlinked }

      here : t.line.node ≡ v → In a (slack_of m k t t.required) ⊎ In a (slacks m v (suc k) ts) → (In a (slacks m v (suc k) ts) → SlackAt m v (suc k) ts a) → SlackAt m v k (t ∷ ts) a
      here n (inl i) f =
          let w = slack_of_from k t t.required a i in
          record { by = t; place = 0; place_is = omega (arith, w.3); stands = refl; required = w.0; in_it = Memᴰ.head refl; node_is = n; required_is = w.1; row_is = w.2; unlinked = w.4 }
      here n (inr i) f = more (f i)

  slacks_has : (v k : ℕ) (ts : List (Timed R)) (t : Timed R) (y : Told R) → In t ts → t.line.node ≡ v → t.required ≡ Some y
      → (a : Told R) × In a (slacks m v k ts) × (a.row ≡ minus m y.row t.line.arrival)
  slacks_has v k [] t y i n r = in_nil t i
  slacks_has v k (u ∷ ts) t y i n r = go (Memᴰ.cases_cons i) (λ j. slacks_has v (suc k) ts t y j n r)
    where
      rest : List (Told R)
      rest = slacks m v (suc k) ts

      whole : List (Told R)
      whole = cond (eqb u.line.node v) (slack_of m k u u.required ++ rest) rest

      here : Told R
      here = record { row = minus m y.row u.line.arrival; arc = no_arc; line = k }

      now : u.line.node ≡ v → u.required ≡ Some y → In here whole
      now n' r' =
          subst (λ xs. In here xs) (sym (cond_true (eqb u.line.node v) (slack_of m k u u.required ++ rest) rest (eq_eqb u.line.node v n')))
          (Memᴰ.append_left rest (subst (λ o. In here (slack_of m k u o)) (sym r') (Memᴰ.head refl)))

      go : (t ≡ u) ⊎ In t ts → (In t ts → (a : Told R) × In a rest × (a.row ≡ minus m y.row t.line.arrival)) → (a : Told R) × In a whole × (a.row ≡ minus m y.row t.line.arrival)
      go (inl p) f =
          (here, now (ap (λ (z : Timed R). z.line.node) (sym p) ∙ n) (ap (λ (z : Timed R). z.required) (sym p) ∙ r), ap (λ (z : Timed R). minus m y.row z.line.arrival) (sym p))
      go (inr j) f =
          let w = f j in
          (w.0, by_cond (λ xs. In w.0 xs) (eqb u.line.node v) (slack_of m k u u.required ++ rest) rest (λ _. Memᴰ.append_right (slack_of m k u u.required) w.1) (λ _. w.1), w.2)

-- ---- the lines are those of the arrivals
pub lines_are : {R : Type 0} (m : Rows R) (b : RowBlock R) (k : ℕ) (ls : List (Line R)) → lines (timed m b k ls) ≡ ls
lines_are m b k [] = refl
lines_are m b k (l ∷ ls) = ap (λ xs. l ∷ xs) (lines_are m b (suc k) ls)

module _ {R : Type 0} (m : Rows R) (b : RowBlock R) (n : ℕ) (sound : Given m b n) where
  abbrev laws : Laws m
  laws = sound.laws

  onto : Onto m b laws (arrivals m b n)
  onto l i e v p may =
      let r = (arrivals_right m b laws n l i).reached in
      let w = arrivals_complete m b laws (tame sound) (sound.by_number, sound.numbered) sound.rising n sound.few e.to (pass b l.tag e) (m.plus l.arrival e.row) (sound.below e v)
      (passed e (subst (λ u. Reaches m b u l.tag l.arrival) (sym p) r) v may) in
      (w.line, w.in_it, w.node_is, w.tag_is)

  arrival_of : (l : Line R) → In l (arrivals m b n) → Arrival m b l.node l.tag l.arrival
  arrival_of l i = record {
    reached = (arrivals_right m b laws n l i).reached;
    latest = λ y r.
        let w = arrivals_complete m b laws (tame sound) (sound.by_number, sound.numbered) sound.rising n sound.few l.node l.tag y (arrivals_right m b laws n l i).node_below r in
        subst (λ (k : Line R). Before m y k.arrival) (order_unique (arrivals m b n) (arrivals_order m b laws n) w.line l w.in_it i w.node_is w.tag_is) w.later;
  }

  complete : (t : Timed R) (z : R) → In t (sheet m b n) → Asked m b t.line.node t.line.tag z → (y : Told R) × (t.required ≡ Some y) × Before m y.row z
  complete t z i a = timed_complete m b laws (tame sound) sound.rising 0 (arrivals m b n) (λ l j. omega (arith, (arrivals_right m b laws n l j).node_below, sound.few)) (arrivals_order m b laws n) onto t z i a

  required_of : (t : Timed R) → In t (sheet m b n) → RequiredIs m b t.line.node t.line.tag (row_of t.required)
  required_of t i = go t.required refl
    where
      go : (o : Option (Told R)) → t.required ≡ o → RequiredIs m b t.line.node t.line.tag (row_of o)
      go None e = λ y a. let w = complete t y i a in none_some w.0 (sym e ∙ w.1)
      go (Some y) e = record {
        asked = timed_right m b laws 0 (arrivals m b n) t y i e;
        earliest = λ z a. let w = complete t z i a in subst (λ (x : Told R). Before m x.row z) (some_is w.0 y (sym w.1 ∙ e)) w.2;
      }

  find : (v s : ℕ) (x : R) → v < n → Reaches m b v s x → (t : Timed R) × In t (sheet m b n) × ((t.line.node ≡ v) × (t.line.tag ≡ s) × Before m x t.line.arrival)
  find v s x h r =
      let w = arrivals_complete m b laws (tame sound) (sound.by_number, sound.numbered) sound.rising n sound.few v s x h r in
      let u = lines_timed m b 0 (arrivals m b n) w.line w.in_it in (
        u.0,
        u.1,
        (
          ap (λ (l : Line R). l.node) u.2 ∙ w.node_is,
          ap (λ (l : Line R). l.tag) u.2 ∙ w.tag_is,
          subst (λ (l : Line R). Before m x l.arrival) (sym u.2) w.later,
        ),
      )

  -- ---- the slack of a node
  -- all rows that are compared are fine
  pub arrival_near : (t : Timed R) → In t (sheet m b n) → Near laws t.line.arrival
  arrival_near t i =
      let w = arrivals_right m b laws n t.line (timed_lines m b 0 (arrivals m b n) t i) in
      (tame sound).reached t.line.node t.line.tag t.line.arrival (omega (arith, w.node_below, sound.few)) w.reached

  pub required_near : (t : Timed R) (y : Told R) → In t (sheet m b n) → t.required ≡ Some y → Near laws y.row
  required_near t y i r =
      let w = arrivals_right m b laws n t.line (timed_lines m b 0 (arrivals m b n) t i) in
      (tame sound).asked t.line.node t.line.tag y.row (omega (arith, w.node_below, sound.few)) (timed_right m b laws 0 (arrivals m b n) t y i r)

  pub slacks_fine : (v : ℕ) → ToldFine laws (slacks m v 0 (sheet m b n))
  slacks_fine v a i =
      let w = slacks_from m v 0 (sheet m b n) a i in
      subst (λ x. Fine laws x) (sym w.row_is) (minus_fine laws w.required.row w.by.line.arrival (required_near w.by w.required w.in_it w.required_is) (arrival_near w.by w.in_it))

  -- where an arrival and what is asked meet, the node has a slack that is no more
  pub met : (v : ℕ) (z : R) → v < n → Meeting laws b v z → (a : Told R) × (node_slack m v (sheet m b n) ≡ Some a) × Before m a.row z
  met v z h w =
      let t = find v w.tag w.arrival h w.comes in
      let y = complete t.0 w.asked t.1 (subst₂ (λ u s. Asked m b u s w.asked) (sym t.2.0) (sym t.2.1) w.goes) in
      let c = slacks_has m v 0 (sheet m b n) t.0 y.0 t.1 t.2.0 y.1 in
      let a = chosen_least laws (slacks m v 0 (sheet m b n)) (slacks_fine v) c.0 c.1 in
      let low : v < 256 = omega (arith, h, sound.few) in
      let nx : Near laws w.arrival = (tame sound).reached v w.tag w.arrival low w.comes in
      let ny : Near laws w.asked = (tame sound).asked v w.tag w.asked low w.goes in (
        a.0,
        a.1,
        laws.chain a.0.row c.0.row z
            (slacks_fine v a.0 (chosen_in laws (slacks m v 0 (sheet m b n)) a.0 a.1))
            (slacks_fine v c.0 c.1)
            (subst (λ x. Fine laws x) (sym w.is) (minus_fine laws w.asked w.arrival ny nx))
            a.2
            (subst₂ (λ p q. Before m p q) (sym c.2) (sym w.is)
            (before_minus laws y.0.row w.asked t.0.line.arrival w.arrival (required_near t.0 y.0 t.1 y.1) ny (arrival_near t.0 t.1) nx y.2 t.2.2)),
      )

  -- a computed slack is that of a line
  pub slack_line : (v : ℕ) (a : Told R) → node_slack m v (sheet m b n) ≡ Some a → SlackAt m v 0 (sheet m b n) a
  slack_line v a e = slacks_from m v 0 (sheet m b n) a (chosen_in laws (slacks m v 0 (sheet m b n)) a e)

  pub tag_slack : (v : ℕ) (a : Told R) → SlackAt m v 0 (sheet m b n) a → TagSlack m b v a.row
  tag_slack v a w =
      let t = w.by in
      record {
        tag = t.line.tag;
        arrival = t.line.arrival;
        required = w.required.row;
        arrives = subst (λ u. Arrival m b u t.line.tag t.line.arrival) w.node_is (arrival_of t.line (timed_lines m b 0 (arrivals m b n) t w.in_it));
        requires = subst (λ u. Required m b u t.line.tag w.required.row) w.node_is
            (subst (λ o. RequiredIs m b t.line.node t.line.tag (row_of o)) w.required_is (required_of t w.in_it));
        is = w.row_is;
      }

  pub meeting : (v : ℕ) (x : R) → TagSlack m b v x → Meeting laws b v x
  meeting v x w = record { tag = w.tag; arrival = w.arrival; asked = w.required; comes = w.arrives.reached; goes = w.requires.asked; is = w.is }

pub sheet_is_right : {R : Type 0} (m : Rows R) (b : RowBlock R) (n : ℕ) → Given m b n → RightLines m b n (sheet m b n)
sheet_is_right {R} m b n sound = record {
  order = subst InOrder (sym (lines_are m b 0 (arrivals m b n))) (arrivals_order m b sound.laws n);
  right = λ t i.
      let j = timed_lines m b 0 (arrivals m b n) t i in
      ((arrivals_right m b sound.laws n t.line j).node_below, arrival_of m b n sound t.line j, required_of m b n sound t i);
  whole = λ v s x h r. let w = find m b n sound v s x h r in (w.0, w.1, w.2.0, w.2.1);
}

pub slack_by_tags : {R : Type 0} (m : Rows R) (b : RowBlock R) (n : ℕ) → Given m b n → (v : ℕ) → v < n → NodeSlack m b v (row_of (node_slack m v (sheet m b n)))
slack_by_tags {R} m b n sound v h = go (node_slack m v (sheet m b n)) refl
  where
    go : (o : Option (Told R)) → node_slack m v (sheet m b n) ≡ o → NodeSlack m b v (row_of o)
    go None e = λ x w. let a = met m b n sound v x h (meeting m b n sound v x w) in none_some a.0 (sym e ∙ a.1)
    go (Some s) e = (
      tag_slack m b n sound v s (slack_line m b n sound v s e),
      λ y w.
          let a = met m b n sound v y h (meeting m b n sound v y w) in
          subst (λ (x : Told R). Before m x.row y) (some_is a.0 s (sym a.1 ∙ e)) a.2,
    )

pub slack_is_least_lem : {R : Type 0} (m : Rows R) (b : RowBlock R) (n : ℕ) → Given m b n → (v : ℕ) → v < n → LeastSlack m b v (row_of (node_slack m v (sheet m b n)))
slack_is_least_lem {R} m b n sound v h = go (node_slack m v (sheet m b n)) refl
  where
    go : (o : Option (Told R)) → node_slack m v (sheet m b n) ≡ o → LeastSlack m b v (row_of o)
    go None e = λ p. let a = met m b n sound v (slack m p) h (meet sound.laws b v p) in none_some a.0 (sym e ∙ a.1)
    go (Some s) e = (
      through sound.laws b v s.row (meeting m b n sound v s.row (tag_slack m b n sound v s (slack_line m b n sound v s e))),
      λ p.
          let a = met m b n sound v (slack m p) h (meet sound.laws b v p) in
          subst (λ (x : Told R). Before m x.row (slack m p)) (some_is a.0 s (sym a.1 ∙ e)) a.2,
    )
