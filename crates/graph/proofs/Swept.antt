-- Sweeps over the nodes, and the paths that they follow.
use Rattle.std.proofs.Common.{◌≡◌, ℕ, zero, suc, ◌+◌, ◌-◌, ◌<◌, ◌≤◌, Bool, true, false, ◌⊎◌, List, [], ◌∷◌, ◌++◌, length, get_or, set, replicate, Option, sym, refl, ap, ◌∙◌, subst, inl, inr, ⊎_elim, arith}
use Rattle.std.proofs.lemmas.List.{get_or-set_same, get_or-set_other, get_or_past, length-set, length-replicate, length-map}
use Rattle.std.proofs.lemmas.Bool.{cases_eq, both_ways, cases_lt}
use Rattle.graph.specs.declared.parts.LiveArc.{LiveArc}
use Rattle.graph.specs.declared.parts.ArcEnd.{ArcEnd}
use Rattle.graph.specs.declared.parts.ArcEnd.TheVariants.{Tail, Head}
use Rattle.graph.specs.Kept.{Live, Rising}
use Rattle.graph.specs.Index.{node_at, numbers_at}
use Rattle.graph.specs.Paths.{Walks, Reach}
use Rattle.graph.specs.Sweeps.{far_at, nth_from, Reaches, Visited}
use Rattle.graph.specs.declared.parts.ArcSlot.{ArcSlot}
use Rattle.graph.specs.Slots.{slot_arc, arcs_of}
use Rattle.graph.proofs.Slots.{replicate_at, slot_at, slot_live, live_within, no_arc}
use Rattle.graph.proofs.Listed.{listed_at, at_listed}

-- paths grow at either end
pub walks_push : (arcs : List (Option LiveArc)) (u : ℕ) (ns : List ℕ) (n : ℕ) (e : LiveArc) → Live arcs n e → Walks arcs u ns e.from → Walks arcs u (ns ++ n ∷ []) e.to
walks_push arcs u [] n e l w = (e, l, sym w, refl)
walks_push arcs u (m ∷ ns) n e l w = (w.0, w.1, w.2, walks_push arcs w.0.to ns n e l w.3)

pub reach_push : (arcs : List (Option LiveArc)) (u n : ℕ) (e : LiveArc) → Live arcs n e → Reach arcs u e.from → Reach arcs u e.to
reach_push arcs u n e l r = (r.0 ++ n ∷ [], walks_push arcs u r.0 n e l r.1)

-- what is closed under the arcs holds all along a path
pub along : (arcs : List (Option LiveArc)) (P : ℕ → Type 0) → ((n : ℕ) (e : LiveArc) → Live arcs n e → P e.from → P e.to)
    → (u : ℕ) (ns : List ℕ) (v : ℕ) → Walks arcs u ns v → P u → P v
along arcs P closed u [] v w p = subst P w p
along arcs P closed u (n ∷ ns) v w p = along arcs P closed w.0.to ns v w.3 (closed n w.0 w.1 (subst P (sym w.2) p))

pub set_true : (s : List Bool) (i v : ℕ) → get_or s v false ≡ true → get_or (set s i true) v false ≡ true
set_true [] i v h = h
set_true (x ∷ xs) zero zero h = refl
set_true (x ∷ xs) zero (suc v) h = h
set_true (x ∷ xs) (suc i) zero h = h
set_true (x ∷ xs) (suc i) (suc v) h = set_true xs i v h

pub set_true_only : (s : List Bool) (i v : ℕ) → get_or (set s i true) v false ≡ true → (v ≡ i) ⊎ (get_or s v false ≡ true)
set_true_only s i v h =
    ⊎_elim inl (λ (q : v ≡ i → ⊥). inr (sym (get_or-set_other s i v true false q) ∙ h)) (cases_eq v i)

-- a visit after the first i numbers that are listed for the node
pub record Spread (end : ArcEnd) (arcs : List (Option LiveArc)) (node i : ℕ) (s s' : List Bool) : Type 0 where
  pub kept : (v : ℕ) → get_or s v false ≡ true → get_or s' v false ≡ true
  pub sound : (v : ℕ) → get_or s' v false ≡ true → (get_or s v false ≡ true) ⊎ ((n : ℕ) × (e : LiveArc) × Live arcs n e × (node_at end e ≡ node) × (far_at end e ≡ v))
  pub reached : (k : ℕ) (e : LiveArc) → k < i → Live arcs (get_or (numbers_at end node 0 arcs) k 0) e → get_or s' (far_at end e) false ≡ true

module _ (end : ArcEnd) (arcs : List (Option LiveArc)) (node : ℕ) where
  pub spread_none : (s : List Bool) → Spread end arcs node 0 s s
  spread_none s = record { kept = λ v h. h; sound = λ v h. inl h; reached = λ k e l. let z : ⊥ = omega arith in absurd z }

  pub spread_more : (i : ℕ) (s s' : List Bool) (u : ℕ) → Spread end arcs node i s s' → i < length (numbers_at end node 0 arcs)
      → ((e : LiveArc) → Live arcs (get_or (numbers_at end node 0 arcs) i 0) e → u ≡ far_at end e) → u < length s'
      → Spread end arcs node (i + 1) s (set s' u true)
  spread_more i s s' u p l far in' =
      let x = listed_at end node arcs i l in
      record {
        kept = λ v h. set_true s' u v (p.kept v h);
        sound = λ v h. ⊎_elim (λ (q : v ≡ u). inr (_, x.0, x.1, x.2, sym (far x.0 x.1) ∙ sym q)) (p.sound v) (set_true_only s' u v h);
        reached = λ k e h live. ⊎_elim
            (λ (q : k ≡ i). subst (λ w. get_or (set s' u true) w false ≡ true) (far e (subst (λ m. Live arcs (get_or (numbers_at end node 0 arcs) m 0) e) q live)) (get_or-set_same s' u true false in'))
            (λ (q : k ≡ i → ⊥). set_true s' u (far_at end e) (p.reached k e (omega arith) live))
            (cases_eq k i);
      }

  pub visited : (i : ℕ) (s s' : List Bool) → get_or s node false ≡ true → length (numbers_at end node 0 arcs) ≤ i → Spread end arcs node i s s' → Visited end arcs node s s'
  visited i s s' m l p = record {
    kept = p.kept;
    sound = λ v h. ⊎_elim inl (λ x. inr (m, x)) (p.sound v h);
    reached = λ n e live at _. let x = at_listed end node arcs n e live at in p.reached x.0 e (omega (arith, x.1)) (subst (λ k. Live arcs k e) (sym x.2) live);
  }

  pub unvisited : (s : List Bool) → get_or s node false ≡ false → Visited end arcs node s s
  unvisited s m = record { kept = λ v h. h; sound = λ v h. inl h; reached = λ n e live at h. absurd (both_ways _ m h) }

-- the slot of a listed number lies within the table and has its arc
module _ (end : ArcEnd) (slots : List ArcSlot) (node : ℕ) (ns : List ℕ) (q : ns ≡ numbers_at end node 0 (arcs_of slots)) where
  pub listed_within : (i : ℕ) → i < length ns → get_or ns i 0 < length slots
  listed_within i h =
      let h' : i < length (numbers_at end node 0 (arcs_of slots)) = omega (arith, ap length q) in
      let x = listed_at end node (arcs_of slots) i h' in
      omega (arith, live_within (arcs_of slots) _ x.0 x.1, length-map slots slot_arc, ap (λ ms. get_or ms i 0) q)

  pub listed_far : (i u : ℕ) → u ≡ far_at end (get_or slots (get_or ns i 0) no_arc).arc
      → (e : LiveArc) → Live (arcs_of slots) (get_or (numbers_at end node 0 (arcs_of slots)) i 0) e → u ≡ far_at end e
  listed_far i u h e live =
      let live' : Live (arcs_of slots) (get_or ns i 0) e = subst (λ ms. Live (arcs_of slots) (get_or ms i 0) e) (sym q) live in
      h ∙ ap (far_at end) (slot_live _ e (sym (slot_at slot_arc no_arc refl slots (get_or ns i 0)) ∙ live'))

pub marked_within : (s : List Bool) (v n : ℕ) → length s ≡ n → get_or s v false ≡ true → v < n
marked_within s v n h m =
    ⊎_elim (λ l. l) (λ (g : n ≤ v). absurd (both_ways (get_or s v false) (get_or_past s v false (subst (λ k. k ≤ v) (sym h) g)) m)) (cases_lt v n)

back_along : (arcs : List (Option LiveArc)) (P : ℕ → Type 0) → ((n : ℕ) (e : LiveArc) → Live arcs n e → P e.to → P e.from)
    → (u : ℕ) (ns : List ℕ) (v : ℕ) → Walks arcs u ns v → P v → P u
back_along arcs P closed u [] v w p = subst P (sym w) p
back_along arcs P closed u (n ∷ ns) v w p = subst P w.2 (closed n w.0 w.1 (back_along arcs P closed w.0.to ns v w.3 p))

-- ---- what a sweep does alike at either end
reaches_self : (end : ArcEnd) (arcs : List (Option LiveArc)) (u v : ℕ) → v ≡ u → Reaches end arcs u v
reaches_self Tail arcs u v q = ([], sym q)
reaches_self Head arcs u v q = ([], q)

reaches_on : (end : ArcEnd) (arcs : List (Option LiveArc)) (u n : ℕ) (e : LiveArc) → Live arcs n e → Reaches end arcs u (node_at end e) → Reaches end arcs u (far_at end e)
reaches_on Tail arcs u n e l r = reach_push arcs u n e l r
reaches_on Head arcs u n e l r = (n ∷ r.0, (e, l, refl, r.1))

followed : (end : ArcEnd) (arcs : List (Option LiveArc)) (P : ℕ → Type 0) → ((n : ℕ) (e : LiveArc) → Live arcs n e → P (node_at end e) → P (far_at end e))
    → (u v : ℕ) → Reaches end arcs u v → P u → P v
followed Tail arcs P closed u v r p = along arcs P closed u r.0 v r.1 p
followed Head arcs P closed u v r p = back_along arcs P closed v r.0 u r.1 p

place_of : (end : ArcEnd) (v : ℕ) → v < 256 → (j : ℕ) × (j < 256) × (v ≡ nth_from end j)
place_of Tail v h = (v, h, refl)
place_of Head v h = (255 - v, omega arith, omega arith)

-- the far node of an arc is swept after the node at the end
later : (end : ArcEnd) (arcs : List (Option LiveArc)) → Rising arcs → (n : ℕ) (e : LiveArc) → Live arcs n e → (i j : ℕ) → i < 256
    → node_at end e ≡ nth_from end i → far_at end e ≡ nth_from end j → i < j
later Tail arcs up n e l i j h p q = let r = up n e l in omega arith
later Head arcs up n e l i j h p q = let r = up n e l in omega arith

-- a sweep from a node, before place i
pub record Swept (end : ArcEnd) (arcs : List (Option LiveArc)) (node i : ℕ) (s : List Bool) : Type 0 where
  pub size : length s ≡ 256
  pub sound : (v : ℕ) → get_or s v false ≡ true → Reaches end arcs node v
  pub seed : get_or s node false ≡ true
  pub closed : (n : ℕ) (e : LiveArc) (j : ℕ) → Live arcs n e → node_at end e ≡ nth_from end j → j < i → get_or s (node_at end e) false ≡ true → get_or s (far_at end e) false ≡ true

pub swept_start : (end : ArcEnd) (arcs : List (Option LiveArc)) (node : ℕ) → node < 256 → Swept end arcs node 0 (set (replicate 256 false) node true)
swept_start end arcs node h = record {
  size = length-set (replicate 256 false) node true ∙ length-replicate 256 false;
  sound = λ v m. ⊎_elim (reaches_self end arcs node v) (λ k. absurd (both_ways _ (replicate_at false 256 v) k)) (set_true_only (replicate 256 false) node v m);
  seed = get_or-set_same (replicate 256 false) node true false (subst (λ n. node < n) (sym (length-replicate 256 false)) h);
  closed = λ n e j live at l. let z : ⊥ = omega arith in absurd z;
}

pub swept_more : (end : ArcEnd) (arcs : List (Option LiveArc)) → Rising arcs → (node i : ℕ) (s s' : List Bool) → i < 256 → Swept end arcs node i s → length s' ≡ length s
    → Visited end arcs (nth_from end i) s s' → Swept end arcs node (i + 1) s'
swept_more end arcs up node i s s' h p n v = record {
  size = n ∙ p.size;
  sound = λ w m. ⊎_elim (p.sound w)
      (λ x. subst (Reaches end arcs node) x.1.4 (reaches_on end arcs node x.1.0 x.1.1 x.1.2 (subst (Reaches end arcs node) (sym x.1.3) (p.sound (nth_from end i) x.0))))
      (v.sound w m);
  seed = v.kept node p.seed;
  closed = λ n e j live at l m. ⊎_elim
      (λ (k : get_or s (node_at end e) false ≡ true). ⊎_elim
      (λ (q : j ≡ i). let at_i : node_at end e ≡ nth_from end i = at ∙ ap (nth_from end) q in v.reached n e live at_i (subst (λ w. get_or s w false ≡ true) at_i k))
      (λ (q : j ≡ i → ⊥). v.kept (far_at end e) (p.closed n e j live at (omega (arith, q)) k))
      (cases_eq j i))
      (λ x. let z : ⊥ = omega (arith, later end arcs up x.1.0 x.1.1 x.1.2 i j h x.1.3 (x.1.4 ∙ at)) in absurd z)
      (v.sound (node_at end e) m);
}

pub swept_all : (end : ArcEnd) (arcs : List (Option LiveArc)) (node i : ℕ) (s : List Bool) → Swept end arcs node i s → 256 ≤ i → (v : ℕ) → Reaches end arcs node v → get_or s v false ≡ true
swept_all end arcs node i s p h v r =
    followed end arcs (λ w. get_or s w false ≡ true)
    (λ n e live m. let x = place_of end (node_at end e) (marked_within s (node_at end e) 256 p.size m) in let l = x.1 in p.closed n e x.0 live x.2 (omega arith) m)
    node v r p.seed
