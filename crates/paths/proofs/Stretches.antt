-- A tag is the sets of which a stretch is under way, so a path is carried undropped exactly when it is open.
use Rattle.std.proofs.Common.{◌≡◌, ℕ, ◌^◌, ◌<◌, Bool, true, false, not, ◌&&◌, ◌||◌, T, ◌⊎◌, List, [], ◌∷◌, ◌++◌, sym, refl, ap, ◌∙◌, subst, inl, inr, append_assoc, arith, T_not}
use mathlib.Core.List.{nil≢cons, head-eq_of_cons-eq, tail-eq_of_cons-eq}
use lib.Bits.{bit_or, or_lt, and_le_l}
use Rattle.std.specs.List.{AllByRecursion}
use Rattle.std.proofs.ByRecursion.{All-append}
use Rattle.paths.specs.Tags.{set_count, has}
use Rattle.paths.specs.Blocks.{Arc, RowBlock, in_set, leaves, enters, is_begin, is_end, begin_sets, end_sets, pass, passes}
use Rattle.paths.specs.Paths.{Leads, Falsified, Open, Ending, Carries}
use Rattle.paths.specs.Theorems.{TagsAreStretches, CarriedIsOpen}
use Rattle.paths.proofs.TagLaws.{has_and, has_or, has_zero, has_tag_of, tag_of_below, apart_none, shared, both}

-- ---- tests
pub either : (x y : Bool) → T (x || y) → T x ⊎ T y
either true y h = inl tt
either false y h = inr h

pub or_left : (x y : Bool) → T x → T (x || y)
or_left true y h = tt
or_left false y h = absurd h

pub or_right : (x y : Bool) → T y → T (x || y)
or_right true y h = tt
or_right false y h = h

pub and_both : (x y : Bool) → T x → T y → T (x && y)
and_both true y p q = q
and_both false y p q = absurd p

module _ {R : Type 0} (b : RowBlock R) where
  -- ---- one step
  -- whether a stretch in set i is under way at u: it has come there with tag s, or begins there
  abbrev UnderWay : ℕ → ℕ → ℕ → Type 0
  UnderWay i s u = T (has s i || is_begin b i u)

  pass_is : (i s : ℕ) (e : Arc R) → i < set_count → has (pass b s e) i ≡ ((has s i || is_begin b i e.from) && in_set i e)
  unfolding pass begin_sets
  pass_is i s e h =
      has_and i (bit_or s (begin_sets b e.from)) e.sets
      ∙ ap (λ x. x && in_set i e) (has_or i s (begin_sets b e.from) ∙ ap (λ x. has s i || x) (has_tag_of set_count (λ k. is_begin b k e.from) i h))

  -- a tag has the 16 sets only
  pub pass_below : (s : ℕ) (e : Arc R) → s < 2 ^ set_count → pass b s e < 2 ^ set_count
  unfolding pass begin_sets
  pass_below s e h =
      let all = bit_or s (begin_sets b e.from) in
      omega (arith, or_lt set_count s (begin_sets b e.from) h (tag_of_below set_count (λ i. is_begin b i e.from)), and_le_l all e.sets)

  pass_from : (i s : ℕ) (e : Arc R) → i < set_count → T (has (pass b s e) i) → UnderWay i s e.from × T (in_set i e)
  pass_from i s e h p = both (has s i || is_begin b i e.from) (in_set i e) (subst T (pass_is i s e h) p)

  pass_to : (i s : ℕ) (e : Arc R) → i < set_count → UnderWay i s e.from → T (in_set i e) → T (has (pass b s e) i)
  pass_to i s e h p q = subst T (sym (pass_is i s e h)) (and_both (has s i || is_begin b i e.from) (in_set i e) p q)

  -- an arrival that ends a stretch is dropped
  stopped : (i s : ℕ) (e : Arc R) → i < set_count → T (passes b s e) → UnderWay i s e.from → T (in_set i e) → T (is_end b i e.to) → ⊥
  unfolding passes end_sets
  stopped i s e h p w q z =
      apart_none (pass b s e) (end_sets b e.to) p i (pass_to i s e h w q)
      (subst T (sym (has_tag_of set_count (λ k. is_end b k e.to) i h)) z)

  -- and only such a one is
  stops : (s : ℕ) (e : Arc R) → T (not (passes b s e)) → (i : ℕ) × (i < set_count) × (T (has (pass b s e) i) × T (is_end b i e.to))
  unfolding passes end_sets
  stops s e n =
      let w = shared (pass b s e) (end_sets b e.to) (tag_of_below set_count (λ k. is_end b k e.to)) n in
      (w.0, w.1, (w.2.0, subst T (has_tag_of set_count (λ k. is_end b k e.to) w.0 w.1) w.2.1))

  -- ---- tags are stretches
  -- from the tag s
  abbrev Since : ℕ → ℕ → List (Arc R) → Type 0
  Since i s es = Ending b i es ⊎ (T (has s i) × AllByRecursion (λ e. T (in_set i e)) es)

  no_ending : (i : ℕ) → Ending b i [] → ⊥
  no_ending i w = go w.front w.parts
    where
      go : (front : List (Arc R)) → [] ≡ front ++ (w.arc ∷ w.rest) → ⊥
      go [] e = nil≢cons e
      go (f ∷ fs) e = nil≢cons e

  ending_more : (i : ℕ) (e : Arc R) (es : List (Arc R)) → Ending b i es → Ending b i (e ∷ es)
  ending_more i e es w =
      record { front = e ∷ w.front; arc = w.arc; rest = w.rest; parts = ap (λ l. e ∷ l) w.parts; inside = w.inside; begins = w.begins }

  -- an ending stretch starts with the first arc or later
  ending_less : (i : ℕ) (e : Arc R) (es : List (Arc R)) → Ending b i (e ∷ es)
      → Ending b i es ⊎ (AllByRecursion (λ a. T (in_set i a)) (e ∷ es) × T (is_begin b i e.from))
  ending_less i e es w = go w.front w.parts
    where
      go : (front : List (Arc R)) → (e ∷ es) ≡ front ++ (w.arc ∷ w.rest) → Ending b i es ⊎ (AllByRecursion (λ a. T (in_set i a)) (e ∷ es) × T (is_begin b i e.from))
      go [] p = inr (subst (λ l. AllByRecursion (λ a. T (in_set i a)) l) (sym p) w.inside, subst (λ (a : Arc R). T (is_begin b i a.from)) (sym (head-eq_of_cons-eq p)) w.begins)
      go (f ∷ fs) p = inl (record { front = fs; arc = w.arc; rest = w.rest; parts = tail-eq_of_cons-eq p; inside = w.inside; begins = w.begins })

  tags_from : (i : ℕ) → i < set_count → (es : List (Arc R)) (s t : ℕ) → Carries b s es t → T (has t i) → Since i s es
  tags_from i h [] s t c p = inr (subst (λ x. T (has x i)) (sym c) p, tt)
  tags_from i h (e ∷ es) s t c p = go (tags_from i h es (pass b s e) t c.1 p)
    where
      under : AllByRecursion (λ a. T (in_set i a)) es → T (in_set i e) → T (has s i) ⊎ T (is_begin b i e.from) → Since i s (e ∷ es)
      under all q (inl p') = inr (p', (q, all))
      under all q (inr z) = inl (record { front = []; arc = e; rest = es; parts = refl; inside = (q, all); begins = z })

      go : Since i (pass b s e) es → Since i s (e ∷ es)
      go (inl w) = inl (ending_more i e es w)
      go (inr w) =
          let q = pass_from i s e h w.0 in
          under w.1 q.1 (either (has s i) (is_begin b i e.from) q.0)

  tags_to : (i : ℕ) → i < set_count → (es : List (Arc R)) (s t : ℕ) → Carries b s es t → Since i s es → T (has t i)
  tags_to i h [] s t c (inl w) = absurd (no_ending i w)
  tags_to i h [] s t c (inr w) = subst (λ x. T (has x i)) c w.0
  tags_to i h (e ∷ es) s t c (inr w) =
      tags_to i h es (pass b s e) t c.1 (inr (pass_to i s e h (or_left (has s i) (is_begin b i e.from) w.0) w.1.0, w.1.1))
  tags_to i h (e ∷ es) s t c (inl w) = tags_to i h es (pass b s e) t c.1 (go (ending_less i e es w))
    where
      go : Ending b i es ⊎ (AllByRecursion (λ a. T (in_set i a)) (e ∷ es) × T (is_begin b i e.from)) → Since i (pass b s e) es
      go (inl v) = inl v
      go (inr v) = inr (pass_to i s e h (or_right (has s i) (is_begin b i e.from) v.1) v.0.0, v.0.1)

pub tags_are_stretches_lem : {R : Type 0} (b : RowBlock R) → TagsAreStretches b
tags_are_stretches_lem b u v t es l c i h = (λ p. since (tags_from b i h es 0 t c p), λ w. tags_to b i h es 0 t c (inl w))
  where
    since : Since b i 0 es → Ending b i es
    since (inl w) = w
    since (inr w) = absurd (subst T (has_zero i) w.0)

-- ---- carried is open
module _ {R : Type 0} (b : RowBlock R) where
  -- no set begins and ends at one node
  disjoint : (i v : ℕ) → T (is_begin b i v) → T (is_end b i v) → ⊥
  disjoint i v p q =
      T_not (leaves b i v) (both (enters b i v) (not (leaves b i v)) q).1 (both (leaves b i v) (not (enters b i v)) p).0

  pub carries_split : (xs ys : List (Arc R)) (s t : ℕ) → Carries b s (xs ++ ys) t → (r : ℕ) × Carries b s xs r × Carries b r ys t
  carries_split [] ys s t c = (s, refl, c)
  carries_split (x ∷ xs) ys s t c =
      let w = carries_split xs ys (pass b s x) t c.1 in
      (w.0, (c.0, w.1), w.2)

  pub carries_join : (xs ys : List (Arc R)) (s r t : ℕ) → Carries b s xs r → Carries b r ys t → Carries b s (xs ++ ys) t
  carries_join [] ys s r t c d = subst (λ x. Carries b x ys t) (sym c) d
  carries_join (x ∷ xs) ys s r t c d = (c.0, carries_join xs ys (pass b s x) r t c.1 d)

  pub leads_split : (xs ys : List (Arc R)) (u v : ℕ) → Leads b u (xs ++ ys) v → (w : ℕ) × Leads b u xs w × Leads b w ys v
  leads_split [] ys u v l = (u, refl, l)
  leads_split (x ∷ xs) ys u v l =
      let w = leads_split xs ys x.to v l.2 in
      (w.0, (l.0, l.1, w.1), w.2)

  pub leads_join : (xs ys : List (Arc R)) (u w v : ℕ) → Leads b u xs w → Leads b w ys v → Leads b u (xs ++ ys) v
  leads_join [] ys u w v l k = subst (λ x. Leads b x ys v) (sym l) k
  leads_join (x ∷ xs) ys u w v l k = (l.0, l.1, leads_join xs ys x.to w v l.2 k)

  -- a stretch in set i that is under way and comes to where the set ends is not carried
  ended : (i : ℕ) → i < set_count → (e : Arc R) (es : List (Arc R)) (s t v : ℕ) → Leads b e.to es v → Carries b s (e ∷ es) t
      → AllByRecursion (λ a. T (in_set i a)) (e ∷ es) → UnderWay b i s e.from → T (is_end b i v) → ⊥
  ended i h e [] s t v l c all w z = stopped b i s e h c.0 w all.0 (subst (λ x. T (is_end b i x)) (sym l) z)
  ended i h e (a ∷ es) s t v l c all w z =
      ended i h a es (pass b s e) t v l.2 c.1 all.1 (or_left (has (pass b s e) i) (is_begin b i a.from) (pass_to b i s e h w all.0)) z

  carried_open : (es : List (Arc R)) (t : ℕ) → Carries b 0 es t → Open b es
  carried_open es t c w =
      let one = carries_split w.front (w.stretch ++ w.back) 0 t (subst (λ l. Carries b 0 l t) w.parts c) in
      let two = carries_split w.stretch w.back one.0 t one.2 in
      go w.stretch one.0 two.0 w.leads two.1 w.inside
    where
      go : (stretch : List (Arc R)) (s r : ℕ) → Leads b w.first stretch w.last → Carries b s stretch r → AllByRecursion (λ e. T (in_set w.set e)) stretch → ⊥
      go [] s r l d all = disjoint w.set w.last (subst (λ x. T (is_begin b w.set x)) l w.begins) w.ends
      go (e ∷ es') s r l d all =
          ended w.set w.set_below e es' s r w.last l.2 d all
          (or_right (has s w.set) (is_begin b w.set e.from) (subst (λ x. T (is_begin b w.set x)) (sym l.1) w.begins))
          w.ends

  -- the arrival passes all arcs, or is dropped at one of them
  record Dropped (s : ℕ) (es : List (Arc R)) : Type 0 where
    front : List (Arc R)
    arc : Arc R
    back : List (Arc R)
    parts : es ≡ front ++ (arc ∷ back)
    tag : ℕ
    carries : Carries b s front tag
    stops_here : T (not (passes b tag arc))

  fate : (es : List (Arc R)) (s : ℕ) → ((t : ℕ) × Carries b s es t) ⊎ Dropped s es
  fate [] s = inl (s, refl)
  fate (e ∷ es) s = go (passes b s e) refl (fate es (pass b s e))
    where
      go : (p : Bool) → passes b s e ≡ p → ((t : ℕ) × Carries b (pass b s e) es t) ⊎ Dropped (pass b s e) es → ((t : ℕ) × Carries b s (e ∷ es) t) ⊎ Dropped s (e ∷ es)
      go true p (inl w) = inl (w.0, (subst T (sym p) tt, w.1))
      go true p (inr w) = inr (record { front = e ∷ w.front; arc = w.arc; back = w.back; parts = ap (λ l. e ∷ l) w.parts; tag = w.tag; carries = (subst T (sym p) tt, w.carries); stops_here = w.stops_here })
      go false p o = inr (record { front = []; arc = e; back = es; parts = refl; tag = s; carries = refl; stops_here = subst (λ x. T (not x)) (sym p) tt })

  -- where it is dropped a stretch ends
  dropped_false : (u v : ℕ) (es : List (Arc R)) → Leads b u es v → Dropped 0 es → Falsified b es
  dropped_false u v es l d = go (either (has d.tag w.0) (is_begin b w.0 d.arc.from) q.0)
    where
      w : (i : ℕ) × (i < set_count) × (T (has (pass b d.tag d.arc) i) × T (is_end b i d.arc.to))
      w = stops b d.tag d.arc d.stops_here

      q : UnderWay b w.0 d.tag d.arc.from × T (in_set w.0 d.arc)
      q = pass_from b w.0 d.tag d.arc w.1 w.2.0

      whole : (n : ℕ) × Leads b u d.front n × Leads b n (d.arc ∷ d.back) v
      whole = leads_split d.front (d.arc ∷ d.back) u v (subst (λ x. Leads b u x v) d.parts l)

      longer : Ending b w.0 d.front → Falsified b es
      longer k =
          let in_front = leads_split k.front (k.arc ∷ k.rest) u whole.0 (subst (λ x. Leads b u x whole.0) k.parts whole.1) in
          record {
            set = w.0;
            set_below = w.1;
            front = k.front;
            stretch = (k.arc ∷ k.rest) ++ (d.arc ∷ []);
            back = d.back;
            parts = d.parts ∙ ap (λ x. x ++ (d.arc ∷ d.back)) k.parts ∙ append_assoc k.front (k.arc ∷ k.rest) (d.arc ∷ d.back)
                ∙ ap (λ x. k.front ++ x) (sym (append_assoc (k.arc ∷ k.rest) (d.arc ∷ []) d.back));
            inside = All-append (λ e. T (in_set w.0 e)) (k.arc ∷ k.rest) (d.arc ∷ []) k.inside (q.1, tt);
            first = in_front.0;
            last = d.arc.to;
            leads = leads_join (k.arc ∷ k.rest) (d.arc ∷ []) in_front.0 whole.0 d.arc.to in_front.2 (whole.2.0, whole.2.1, refl);
            begins = subst (λ x. T (is_begin b w.0 x)) in_front.2.1 k.begins;
            ends = w.2.1;
          }

      go : T (has d.tag w.0) ⊎ T (is_begin b w.0 d.arc.from) → Falsified b es
      go (inl p) = longer ((tags_are_stretches_lem b u whole.0 d.tag d.front whole.1 d.carries w.0 w.1).0 p)
      go (inr z) =
          record {
            set = w.0;
            set_below = w.1;
            front = d.front;
            stretch = d.arc ∷ [];
            back = d.back;
            parts = d.parts;
            inside = (q.1, tt);
            first = d.arc.from;
            last = d.arc.to;
            leads = (whole.2.0, refl, refl);
            begins = z;
            ends = w.2.1;
          }

pub carried_is_open_lem : {R : Type 0} (b : RowBlock R) → CarriedIsOpen b
carried_is_open_lem b u v es l = (λ w. carried_open b es w.0 w.1, λ o. go o (fate b es 0))
  where
    go : Open b es → ((t : ℕ) × Carries b 0 es t) ⊎ Dropped b 0 es → (t : ℕ) × Carries b 0 es t
    go o (inl w) = w
    go o (inr d) = absurd (o (dropped_false b u v es l d))
