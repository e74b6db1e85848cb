-- An arrival is a carried path from a start, and what is asked is a carried path to an end. So the slacks by tags are the slacks of open complete paths.
use Rattle.std.proofs.Common.{◌≡◌, ℕ, T, List, [], ◌∷◌, ◌++◌, Some, sym, refl, ap, ◌∙◌, subst, ap₂, subst₂}
use Rattle.paths.specs.Rows.{Rows, minus}
use Rattle.paths.specs.Blocks.{Arc, RowBlock, Live, pass, passes}
use Rattle.paths.specs.Paths.{Leads, Carries, total, Through, slack}
use Rattle.paths.specs.Times.{Reaches, starts, passed, Asked, ends, before}
use Rattle.paths.proofs.RowLaws.{Laws, left_unit, minus_none, minus_plus}
use Rattle.paths.proofs.Stretches.{carries_split, carries_join, leads_join, carried_is_open_lem}

-- a path from a start to v that is carried to tag s, and the arrival that it gives
pub record Route {R : Type 0} (m : Rows R) (b : RowBlock R) (v s : ℕ) (x : R) : Type 0 where
  pub first : ℕ
  pub starts_at : R
  pub arcs : List (Arc R)
  pub starts : b.start first ≡ Some starts_at
  pub leads : Leads b first arcs v
  pub carries : Carries b 0 arcs s
  pub is : x ≡ m.plus starts_at (total m arcs)

-- a path from v to an end that carries tag s, and what it asks
pub record Onward {R : Type 0} (m : Rows R) (b : RowBlock R) (v s : ℕ) (y : R) : Type 0 where
  pub last : ℕ
  pub ends_at : R
  pub arcs : List (Arc R)
  pub tag : ℕ
  pub ends : b.end last ≡ Some ends_at
  pub leads : Leads b v arcs last
  pub carries : Carries b s arcs tag
  pub is : y ≡ minus m ends_at (total m arcs)

module _ {R : Type 0} {m : Rows R} (laws : Laws m) (b : RowBlock R) where
  total_append : (xs ys : List (Arc R)) → total m (xs ++ ys) ≡ m.plus (total m xs) (total m ys)
  total_append [] ys = sym (left_unit laws (total m ys))
  total_append (x ∷ xs) ys = ap (m.plus x.row) (total_append xs ys) ∙ sym (laws.assoc x.row (total m xs) (total m ys))

  -- ---- arrivals
  pub reach_on : (es : List (Arc R)) (u v s t : ℕ) (x : R) → Reaches m b u s x → Leads b u es v → Carries b s es t → Reaches m b v t (m.plus x (total m es))
  reach_on [] u v s t x r l c = subst (λ z. Reaches m b v t z) (sym (laws.unit x)) (subst₂ (λ n k. Reaches m b n k x) l c r)
  reach_on (e ∷ es) u v s t x r l c =
      subst (λ z. Reaches m b v t z) (laws.assoc x e.row (total m es))
      (reach_on es e.to v (pass b s e) t (m.plus x e.row) (passed e (subst (λ n. Reaches m b n s x) (sym l.1) r) l.0 c.0) l.2 c.1)

  -- one arc more
  pub route_more : (u v s t : ℕ) (x y : R) (w : Route m b u s x) (e : Arc R) → Live b e → e.from ≡ u → T (passes b s e) → e.to ≡ v → pass b s e ≡ t → y ≡ m.plus x e.row
      → (r : Route m b v t y) × (r.arcs ≡ w.arcs ++ (e ∷ []))
  route_more u v s t x y w e l p q p' q' z = (
    record {
      first = w.first;
      starts_at = w.starts_at;
      arcs = w.arcs ++ (e ∷ []);
      starts = w.starts;
      leads = leads_join b w.arcs (e ∷ []) w.first u v w.leads (l, p, p');
      carries = carries_join b w.arcs (e ∷ []) 0 s t w.carries (q, q');
      is = z ∙ ap (λ y. m.plus y e.row) w.is ∙ laws.assoc w.starts_at (total m w.arcs) e.row
          ∙ ap (m.plus w.starts_at) (ap (m.plus (total m w.arcs)) (sym (laws.unit e.row)) ∙ sym (total_append w.arcs (e ∷ [])));
    },
    refl,
  )

  pub route_of : (v s : ℕ) (x : R) → Reaches m b v s x → Route m b v s x
  route_of v s x (starts e) = record { first = v; starts_at = x; arcs = []; starts = e; leads = refl; carries = refl; is = sym (laws.unit x) }
  route_of v s x (passed {s = r} {x = z} e k l p) = (route_more e.from v r s z x (route_of e.from r z k) e l refl p refl refl refl).0

  -- ---- what is asked
  pub ask_back : (es : List (Arc R)) (v w s t : ℕ) (q : R) → Leads b v es w → Carries b s es t → b.end w ≡ Some q → Asked m b v s (minus m q (total m es))
  ask_back [] v w s t q l c e = subst (λ z. Asked m b v s z) (sym (minus_none laws q)) (ends (ap b.end l ∙ e))
  ask_back (a ∷ es) v w s t q l c e =
      subst₂ (λ n z. Asked m b n s z) l.1 (sym (minus_plus laws q a.row (total m es)))
      (before a l.0 c.0 (ask_back es a.to w (pass b s a) t q l.2 c.1 e))

  -- one arc more, in front
  pub onward_more : (u v s t : ℕ) (x y : R) (w : Onward m b u t x) (e : Arc R) → Live b e → e.from ≡ v → T (passes b s e) → e.to ≡ u → pass b s e ≡ t → y ≡ minus m x e.row
      → (o : Onward m b v s y) × (o.arcs ≡ e ∷ w.arcs)
  onward_more u v s t x y w e l p q p' q' z = (
    record {
      last = w.last;
      ends_at = w.ends_at;
      arcs = e ∷ w.arcs;
      tag = w.tag;
      ends = w.ends;
      leads = (l, p, subst (λ k. Leads b k w.arcs w.last) (sym p') w.leads);
      carries = (q, subst (λ k. Carries b k w.arcs w.tag) (sym q') w.carries);
      is = z ∙ ap (λ x. minus m x e.row) w.is ∙ sym (minus_plus laws w.ends_at e.row (total m w.arcs));
    },
    refl,
  )

  pub onward_of : (v s : ℕ) (y : R) → Asked m b v s y → Onward m b v s y
  onward_of v s y (ends e) = record { last = v; ends_at = y; arcs = []; tag = s; ends = e; leads = refl; carries = refl; is = sym (minus_none laws y) }
  onward_of v s y (before {y = z} e l p k) = (onward_more e.to v s (pass b s e) z y (onward_of e.to (pass b s e) z k) e l refl p refl refl refl).0

  -- ---- a complete path is an arrival and what is asked, at one tag
  -- both parts of a path through v
  pub record Meeting (v : ℕ) (z : R) : Type 0 where
    pub tag : ℕ
    pub arrival : R
    pub asked : R
    pub comes : Reaches m b v tag arrival
    pub goes : Asked m b v tag asked
    pub is : z ≡ minus m asked arrival

  -- q − (r + (x + y)) is (q − y) − (r + x)
  parts_slack : (q r : R) (xs ys : List (Arc R)) → minus m q (m.plus r (total m (xs ++ ys))) ≡ minus m (minus m q (total m ys)) (m.plus r (total m xs))
  parts_slack q r xs ys =
      ap (minus m q) (ap (m.plus r) (total_append xs ys) ∙ sym (laws.assoc r (total m xs) (total m ys)))
      ∙ minus_plus laws q (m.plus r (total m xs)) (total m ys)

  pub meet : (v : ℕ) (p : Through b v) → Meeting v (slack m p)
  meet v p =
      let c = (carried_is_open_lem b p.first p.last (p.before ++ p.after) (leads_join b p.before p.after p.first v p.last p.reaches p.goes_on)).1 p.open_path in
      let k = carries_split b p.before p.after 0 c.0 c.1 in
      record {
        tag = k.0;
        arrival = m.plus p.starts_at (total m p.before);
        asked = minus m p.ends_at (total m p.after);
        comes = reach_on p.before p.first v 0 k.0 p.starts_at (starts p.starts) p.reaches k.1;
        goes = ask_back p.after v p.last k.0 c.0 p.ends_at p.goes_on k.2 p.ends;
        is = parts_slack p.ends_at p.starts_at p.before p.after;
      }

  -- a route and an onward path at one tag are an open complete path
  pub join_parts : (u v s : ℕ) (x y : R) → u ≡ v → (r : Route m b u s x) (o : Onward m b u s y)
      → (p : Through b v) × (slack m p ≡ minus m y x) × (p.before ≡ r.arcs) × (p.after ≡ o.arcs)
  join_parts u v s x y e r o = (
    record {
      first = r.first;
      last = o.last;
      before = r.arcs;
      after = o.arcs;
      starts_at = r.starts_at;
      ends_at = o.ends_at;
      starts = r.starts;
      ends = o.ends;
      reaches = subst (λ k. Leads b r.first r.arcs k) e r.leads;
      goes_on = subst (λ k. Leads b k o.arcs o.last) e o.leads;
      open_path = (carried_is_open_lem b r.first o.last (r.arcs ++ o.arcs) (leads_join b r.arcs o.arcs r.first u o.last r.leads o.leads)).0
          (o.tag, carries_join b r.arcs o.arcs 0 s o.tag r.carries o.carries);
    },
    parts_slack o.ends_at r.starts_at r.arcs o.arcs ∙ ap₂ (minus m) (sym o.is) (sym r.is),
    refl,
    refl,
  )

  pub through : (v : ℕ) (z : R) → Meeting v z → (p : Through b v) × (slack m p ≡ z)
  through v z w =
      let p = join_parts v v w.tag w.arrival w.asked refl (route_of v w.tag w.arrival w.comes) (onward_of v w.tag w.asked w.goes) in
      (p.0, p.1 ∙ sym w.is)
