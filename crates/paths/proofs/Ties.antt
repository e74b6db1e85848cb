-- Of the links that bring a line's arrival, the line has the one that wins.
use Rattle.std.proofs.Common.{◌≡◌, ℕ, zero, suc, ◌+◌, ◌<◌, ◌≤◌, ◌⊎◌, List, [], ◌++◌, length, sym, refl, ap, ◌∙◌, subst, subst₂, inl, inr, append_assoc, append-nil, arith}
use mathlib.Core.List.Memᴰ
use Rattle.std.proofs.lemmas.Bool.{cases_lt}
use Rattle.paths.specs.Rows.{Rows, Before}
use Rattle.paths.specs.Blocks.{RowBlock}
use Rattle.paths.specs.Sheets.{Line, no_arc, no_line, started, entered, sent, into, arrivals, sheet}
use Rattle.paths.specs.Relations.{Wins, Link, by_start, by_arc, BackLinks}
use Rattle.paths.proofs.RowLaws.{Laws, before_refl}
use Rattle.paths.proofs.Small.{Given, tame}
use Rattle.paths.proofs.Choosing.{In, At, in_at, at_cases, in_nil}
use Rattle.paths.proofs.Arriving.{candidates, covers, arrivals_right, arrivals_order, fresh, line_right, over_at, into_has}
use Rattle.paths.proofs.Slacks.{order_unique, lines_are}
use Rattle.paths.proofs.Tracing.{back_link, BackLink}

module _ {R : Type 0} (m : Rows R) (b : RowBlock R) (laws : Laws m) where
  -- the lines of the nodes below v stand first among those below n
  record Grown (n v : ℕ) : Type 0 where
    more : List (Line R)
    parts : arrivals m b n ≡ arrivals m b v ++ more
    nodes : (l : Line R) → In l more → v ≤ l.node

  grow : (n v : ℕ) → v ≤ n → Grown n v
  grow zero v h =
      let e : v ≡ 0 = omega arith in
      record { more = []; parts = ap (arrivals m b) (sym e) ∙ sym (append-nil (arrivals m b v)); nodes = λ l i. in_nil l i }
  grow (suc n) v h = go (cases_lt n v) (λ h'. grow n v h')
    where
      new : List (Line R)
      new = entered m (candidates m b n) []

      all : v ≡ suc n → Grown (suc n) v
      all e = record { more = []; parts = ap (arrivals m b) (sym e) ∙ sym (append-nil (arrivals m b v)); nodes = λ l i. in_nil l i }

      go : (n < v) ⊎ (v ≤ n) → (v ≤ n → Grown n v) → Grown (suc n) v
      go (inl k) f = all (omega arith)
      go (inr k) f =
          let w = f k in
          record {
            more = w.more ++ new;
            parts = ap (λ xs. xs ++ new) w.parts ∙ append_assoc (arrivals m b v) w.more new;
            nodes = λ l i. either l w (Memᴰ.append_cases w.more i);
          }
        where
          either : (l : Line R) (w : Grown n v) → In l w.more ⊎ In l new → v ≤ l.node
          either l w (inl j) = w.nodes l j
          either l w (inr j) = omega (arith, k, (line_right m b n (arrivals_right m b laws n) l (fresh m b laws n l j)).0)

  later_in : (n v : ℕ) → v ≤ n → (l : Line R) → In l (arrivals m b v) → In l (arrivals m b n)
  later_in n v h l i = let w = grow n v h in subst (λ xs. In l xs) (sym w.parts) (Memᴰ.append_left w.more i)

  earlier_at : (n v : ℕ) → v ≤ n → (i : ℕ) (l : Line R) → At (arrivals m b n) i l → l.node < v → At (arrivals m b v) i l
  earlier_at n v h i l a k = go (at_cases (arrivals m b v) w.more i l (subst (λ xs. At xs i l) w.parts a))
    where
      w : Grown n v
      w = grow n v h

      go : At (arrivals m b v) i l ⊎ ((length (arrivals m b v) ≤ i) × In l w.more) → At (arrivals m b v) i l
      go (inl p) = p
      go (inr p) = absurd (omega (arith, k, w.nodes l p.1))

  -- a link is a candidate
  pub record Candidate (v s : ℕ) (x : R) (a i : ℕ) : Type 0 where
    pub line : Line R
    pub in_it : In line (candidates m b v)
    pub tag_is : line.tag ≡ s
    pub arrival_is : line.arrival ≡ x
    pub arc_is : line.back_arc ≡ a
    pub line_is : line.back_line ≡ i

  candidate : (n : ℕ) → Given m b n → (v s : ℕ) (x : R) (a i : ℕ) → v < n → Link m b (arrivals m b n) v s x a i → Candidate v s x a i
  candidate n sound v s x a i h (by_start e z) =
      let c : Line R = record { node = v; tag = 0; arrival = x; back_arc = no_arc; back_line = no_line } in
      record {
        line = c;
        in_it = Memᴰ.append_left (into m b v b.arcs (arrivals m b v)) (subst (λ o. In c (started v o)) (sym e) (Memᴰ.head refl));
        tag_is = sym z;
        arrival_is = refl;
        arc_is = refl;
        line_is = refl;
      }
  candidate n sound v s x a i h (by_arc e j k live stands at to may tag_is arrival_is) =
      let low : k.node < v = omega (arith, at, to, sound.rising e live) in
      let q = over_at m b e 0 (arrivals m b v) j k (earlier_at n v (omega arith) j k stands low) at may in
      record {
        line = sent m b e (0 + j) k;
        in_it = Memᴰ.append_right (started v (b.start v)) (into_has m b v b.arcs (arrivals m b v) e (sent m b e (0 + j) k) live to q);
        tag_is = tag_is;
        arrival_is = arrival_is;
        arc_is = refl;
        line_is = omega arith;
      }

links_win : {R : Type 0} (m : Rows R) (b : RowBlock R) (n : ℕ) → Given m b n → (l : Line R) → In l (arrivals m b n)
    → Link m b (arrivals m b n) l.node l.tag l.arrival l.back_arc l.back_line
    × ((a i : ℕ) → Link m b (arrivals m b n) l.node l.tag l.arrival a i → Wins l.back_arc l.back_line a i)
links_win {R} m b n sound l i = (own (in_at (arrivals m b n) l i), λ a j k. win a j k)
  where
    laws : Laws m
    laws = sound.laws

    own : (p : ℕ) × At (arrivals m b n) p l → Link m b (arrivals m b n) l.node l.tag l.arrival l.back_arc l.back_line
    own w = go (back_link m b laws n w.0 l w.1)
      where
        go : BackLink m b laws n w.0 l → Link m b (arrivals m b n) l.node l.tag l.arrival l.back_arc l.back_line
        go (inl z) = subst₂ (λ a j. Link m b (arrivals m b n) l.node l.tag l.arrival a j) (sym z.2) (sym z.3) (by_start z.0 z.1)
        go (inr z) =
            subst (λ a. Link m b (arrivals m b n) l.node l.tag l.arrival a l.back_line) (sym z.number_is)
            (by_arc z.arc l.back_line z.line z.live z.stands z.at z.node_is z.may z.tag_is (sym z.arrival_is))

    win : (a j : ℕ) → Link m b (arrivals m b n) l.node l.tag l.arrival a j → Wins l.back_arc l.back_line a j
    win a j k =
        let h = (arrivals_right m b laws n l i).node_below in
        let c = candidate m b laws n sound l.node l.tag l.arrival a j h k in
        let w = covers m b laws (tame sound) (sound.by_number, sound.numbered) l.node (omega (arith, h, sound.few)) c.line c.in_it in
        let in-new = Memᴰ.append_right (arrivals m b l.node) w.in_it in
        let node_is = (line_right m b l.node (arrivals_right m b laws l.node) w.by (fresh m b laws l.node w.by w.in_it)).0 in
        let same : w.by ≡ l = order_unique (arrivals m b n) (arrivals_order m b laws n) w.by l (later_in m b laws n (suc l.node) h w.by in-new) i node_is (w.tag_is ∙ c.tag_is) in
        let won : Wins w.by.back_arc w.by.back_line c.line.back_arc c.line.back_line =
        w.wins (subst₂ (λ p q. Before m p q) (ap (λ (z : Line R). z.arrival) (sym same)) (sym c.arrival_is) (before_refl laws l.arrival (omega (arith, (tame sound).reached l.node l.tag l.arrival (omega (arith, h, sound.few)) (arrivals_right m b laws n l i).reached)))) in
        subst₂ (λ a' j'. Wins l.back_arc l.back_line a' j') c.arc_is c.line_is
        (subst (λ (z : Line R). Wins z.back_arc z.back_line c.line.back_arc c.line.back_line) same won)

pub back_links_win : {R : Type 0} (m : Rows R) (b : RowBlock R) (n : ℕ) → Given m b n → BackLinks m b (sheet m b n)
back_links_win {R} m b n given = subst Won (sym (lines_are m b 0 (arrivals m b n))) (links_win m b n given)
  where
    Won : List (Line R) → Type 0
    Won ls =
        (l : Line R) → In l ls
        → Link m b ls l.node l.tag l.arrival l.back_arc l.back_line
        × ((a i : ℕ) → Link m b ls l.node l.tag l.arrival a i → Wins l.back_arc l.back_line a i)
