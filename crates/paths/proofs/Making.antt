-- The block that a content makes: its arcs are the live arcs with their ticks, and it is sound.
use Rattle.std.proofs.Common.{◌≡◌, ℕ, zero, suc, ◌+◌, ◌<◌, Bool, true, false, cond, ◌⊎◌, List, [], ◌∷◌, get_or, ℤ, pos, negsuc, ◌+ℤ◌, Some, None, Ok, Err, Option, Result, sym, refl, ap, ◌∙◌, subst, inl, inr, arith}
use mathlib.Core.List.Memᴰ
use lib.Signed.{le_z}
use Rattle.std.specs.Result.{result_map_both}
use Rattle.std.proofs.lemmas.Int.{ints}
use Rattle.std.proofs.lemmas.Bool.{and_parts, and_from, both_ways}
use Rattle.measure.specs.Rows.{Within}
use Rattle.delay.specs.Entries.{Entry}
use Rattle.graph.specs.declared.parts.LiveArc.{LiveArc}
use Rattle.graph.specs.Ranges.{is_ticks}
use Rattle.graph.specs.Block.{Block, Kept}
use Rattle.paths.specs.Blocks.{Arc, RowBlock, Live, ByNumber}
use Rattle.paths.specs.Sound.{Sound}
use Rattle.paths.specs.Graphs.{WorkOrder, by_node, Suits, Untimed, faulty, beyond, arc_ticks, in_front, arc_of, arcs_in_ticks, block_in_ticks, in_ticks, node_count, NoTicks, by_fault, by_range, Stops}
use Rattle.paths.proofs.Choosing.{In, in_nil, in_all, none_some, some_is}

-- ---- answers that are there
err_ok : {A E : Type 0} (e : E) (a : A) → Err e ≡ Ok a → ⊥
err_ok e a h = let z : ◌≡◌ {A = ℕ} 0 1 = cc in omega arith

ok_is : {A E : Type 0} (a c : A) → ◌≡◌ {A = Result A E} (Ok a) (Ok c) → a ≡ c
ok_is a c h = cc

err_is : {A E : Type 0} (x y : E) → ◌≡◌ {A = Result A E} (Err x) (Err y) → x ≡ y
err_is x y h = cc

pub mapped_ok : {A B E : Type 0} (f : A → B) (r : Result A E) (y : B) → result_map_both f (λ e. e) r ≡ Ok y → (x : A) × (r ≡ Ok x) × (y ≡ f x)
mapped_ok f (Ok x) y h = (x, refl, sym (ok_is (f x) y h))
mapped_ok f (Err e) y h = absurd (err_ok e y h)

front_ok : {A : Type 0} (r : Result A Untimed) (rest : Result (List A) Untimed) (xs : List A) → in_front r rest ≡ Ok xs
    → (a : A) × (r ≡ Ok a) × ((ys : List A) × (rest ≡ Ok ys) × (xs ≡ a ∷ ys))
front_ok (Err x) rest xs h = absurd (err_ok x xs h)
front_ok (Ok a) (Err x) xs h = absurd (err_ok x xs h)
front_ok (Ok a) (Ok ys) xs h = (a, refl, (ys, refl, sym (ok_is (a ∷ ys) xs h)))

-- ---- ticks in range
pub ticks_within : (z : ℤ) → is_ticks z ≡ true → Within 1000000 z
ticks_within z h = let p = and_parts (le_z (negsuc 999999) z) (le_z z (pos 1000000)) h in (omega (arith, ints), omega (arith, ints))

-- ticks that are there are the source's plus the trim, in range
pub ticks_are : (n : ℕ) (trim : ℤ) (entry : Entry) (d : ℤ) → arc_ticks n trim entry ≡ Ok d → (x : ℤ) × (entry ≡ Ok x) × (d ≡ x +ℤ trim) × Within 1000000 d
ticks_are n trim (Err f) d h = absurd (err_ok (faulty f) d h)
ticks_are n trim (Ok x) d h = go (is_ticks (x +ℤ trim)) refl _ h
  where
    go : (t : Bool) → is_ticks (x +ℤ trim) ≡ t → (u : Untimed) → cond {A = Result ℤ Untimed} t (Ok (x +ℤ trim)) (Err u) ≡ Ok d → (y : ℤ) × (◌≡◌ {A = Entry} (Ok x) (Ok y)) × (d ≡ y +ℤ trim) × Within 1000000 d
    go true e u q = let s = ok_is (x +ℤ trim) d q in (x, refl, sym s, subst (λ z. Within 1000000 z) s (ticks_within (x +ℤ trim) e))
    go false e u q = absurd (err_ok u d q)

module _ (order : WorkOrder) (means : ℕ → Entry) where
  -- a is the live arc of an index, numbered from n, with its ticks
  pub record Made (n : ℕ) (es : List (Option LiveArc)) (a : Arc ℤ) : Type 0 where
    pub index : ℕ
    pub arc : LiveArc
    pub ticks : ℤ
    pub live : get_or es index None ≡ Some arc
    pub timed : arc_ticks (n + index) arc.trim (means (n + index)) ≡ Ok ticks
    pub is : a ≡ arc_of order (n + index) arc ticks

  later : (n : ℕ) (o : Option LiveArc) (es : List (Option LiveArc)) (a : Arc ℤ) → Made (suc n) es a → Made n (o ∷ es) a
  later n o es a w =
      let same : suc n + w.index ≡ n + suc w.index = omega arith in
      record {
        index = suc w.index;
        arc = w.arc;
        ticks = w.ticks;
        live = w.live;
        timed = subst (λ k. arc_ticks k w.arc.trim (means k) ≡ Ok w.ticks) same w.timed;
        is = w.is ∙ ap (λ k. arc_of order k w.arc w.ticks) same;
      }

  pub made_from : (n : ℕ) (es : List (Option LiveArc)) (xs : List (Arc ℤ)) → arcs_in_ticks order means n es ≡ Ok xs → (a : Arc ℤ) → In a xs → Made n es a
  made_from n [] xs h a i = in_nil a (subst (λ zs. In a zs) (sym (ok_is [] xs h)) i)
  made_from n (None ∷ es) xs h a i = later n None es a (made_from (suc n) es xs h a i)
  made_from n (Some e ∷ es) xs h a i =
      let f = front_ok (result_map_both (arc_of order n e) (λ x. x) (arc_ticks n e.trim (means n))) (arcs_in_ticks order means (suc n) es) xs h in
      let x = mapped_ok (arc_of order n e) (arc_ticks n e.trim (means n)) f.0 f.1 in
      go f.0 f.2.0 x.0 x.1 x.2 (Memᴰ.cases_cons (subst (λ zs. In a zs) f.2.2 i)) (λ j. made_from (suc n) es f.2.0 f.2.1 a j)
    where
      go : (c : Arc ℤ) (cs : List (Arc ℤ)) (d : ℤ) → arc_ticks n e.trim (means n) ≡ Ok d → c ≡ arc_of order n e d → (a ≡ c) ⊎ In a cs → (In a cs → Made (suc n) es a)
          → Made n (Some e ∷ es) a
      go c cs d t q (inl p) g =
          let same : n ≡ n + 0 = omega arith in
          record {
            index = 0;
            arc = e;
            ticks = d;
            live = refl;
            timed = subst (λ k. arc_ticks k e.trim (means k) ≡ Ok d) same t;
            is = p ∙ q ∙ ap (λ k. arc_of order k e d) same;
          }
      go c cs d t q (inr j) g = later n (Some e) es a (g j)

  -- every live arc is there
  pub made_has : (n : ℕ) (es : List (Option LiveArc)) (xs : List (Arc ℤ)) → arcs_in_ticks order means n es ≡ Ok xs
      → (i : ℕ) (e : LiveArc) → get_or es i None ≡ Some e → (d : ℤ) × In (arc_of order (n + i) e d) xs
  made_has n [] xs h i e l = absurd (none_some e l)
  made_has n (None ∷ es) xs h zero e l = absurd (none_some e l)
  made_has n (None ∷ es) xs h (suc i) e l =
      let same : suc n + i ≡ n + suc i = omega arith in
      let w = made_has (suc n) es xs h i e l in (w.0, subst (λ k. In (arc_of order k e w.0) xs) same w.1)
  made_has n (Some x ∷ es) xs h zero e l =
      let f = front_ok (result_map_both (arc_of order n x) (λ z. z) (arc_ticks n x.trim (means n))) (arcs_in_ticks order means (suc n) es) xs h in
      let m = mapped_ok (arc_of order n x) (arc_ticks n x.trim (means n)) f.0 f.1 in
      let same : n ≡ n + 0 = omega arith in (
        m.0,
        subst (λ zs. In (arc_of order (n + 0) e m.0) zs) (sym f.2.2)
            (Memᴰ.head (sym (m.2 ∙ ap (λ z. arc_of order n z m.0) (some_is x e l) ∙ ap (λ k. arc_of order k e m.0) same))),
      )
  made_has n (Some x ∷ es) xs h (suc i) e l =
      let f = front_ok (result_map_both (arc_of order n x) (λ z. z) (arc_ticks n x.trim (means n))) (arcs_in_ticks order means (suc n) es) xs h in
      let same : suc n + i ≡ n + suc i = omega arith in
      let w = made_has (suc n) es f.2.0 f.2.1 i e l in
      (w.0, subst (λ k. In (arc_of order k e w.0) xs) same (subst (λ zs. In (arc_of order (suc n + i) e w.0) zs) (sym f.2.2) (Memᴰ.tail w.1)))

  -- by their numbers
  made_sorted : (n : ℕ) (es : List (Option LiveArc)) (xs : List (Arc ℤ)) → arcs_in_ticks order means n es ≡ Ok xs → ByNumber xs
  made_sorted n [] xs h = subst ByNumber (ok_is [] xs h) tt
  made_sorted n (None ∷ es) xs h = made_sorted (suc n) es xs h
  made_sorted n (Some e ∷ es) xs h =
      let f = front_ok (result_map_both (arc_of order n e) (λ x. x) (arc_ticks n e.trim (means n))) (arcs_in_ticks order means (suc n) es) xs h in
      let x = mapped_ok (arc_of order n e) (arc_ticks n e.trim (means n)) f.0 f.1 in
      let first : f.0.number ≡ n = ap (λ (a : Arc ℤ). a.number) x.2 in
      subst ByNumber (sym f.2.2) (
        in_all (λ k. f.0.number < k.number) f.2.0
            (λ k i. let w = made_from (suc n) es f.2.0 f.2.1 k i in let at : k.number ≡ suc n + w.index = ap (λ (a : Arc ℤ). a.number) w.is in omega (arith, first, at)),
        made_sorted (suc n) es f.2.0 f.2.1,
      )

-- ---- no block
front_err : {A : Type 0} (r : Result A Untimed) (rest : Result (List A) Untimed) (x : Untimed) → in_front r rest ≡ Err x
    → (r ≡ Err x) ⊎ ((a : A) × (r ≡ Ok a) × (rest ≡ Err x))
front_err (Err y) rest x h = inl (ap Err (err_is y x h))
front_err (Ok a) (Err y) x h = inr (a, refl, ap Err (err_is y x h))
front_err (Ok a) (Ok ys) x h = absurd (err_ok x (a ∷ ys) (sym h))

pub mapped_err : {A B E : Type 0} (f : A → B) (r : Result A E) (x : E) → result_map_both f (λ e. e) r ≡ Err x → r ≡ Err x
mapped_err f (Ok y) x h = absurd (err_ok x (f y) (sym h))
mapped_err f (Err e) x h = ap Err (err_is e x h)

within_ticks : (z : ℤ) → Within 1000000 z → is_ticks z ≡ true
within_ticks z h = and_from (le_z (negsuc 999999) z) (le_z z (pos 1000000)) (grind (arith, ints)) (grind (arith, ints))

no_ticks : (n : ℕ) (trim : ℤ) (entry : Entry) (x : Untimed) → arc_ticks n trim entry ≡ Err x → NoTicks n trim entry x
no_ticks n trim (Err f) x h = subst (λ y. NoTicks n trim (Err f) y) (err_is {A = ℤ} (faulty f) x h) (by_fault f refl)
no_ticks n trim (Ok d) x h = go (is_ticks (d +ℤ trim)) refl h
  where
    go : (t : Bool) → is_ticks (d +ℤ trim) ≡ t → cond {A = Result ℤ Untimed} t (Ok (d +ℤ trim)) (Err (beyond n)) ≡ Err x → NoTicks n trim (Ok d) x
    go true e q = absurd (err_ok x (d +ℤ trim) (sym q))
    go false e q = subst (λ y. NoTicks n trim (Ok d) y) (err_is {A = ℤ} (beyond n) x q) (by_range d refl (λ w. both_ways (is_ticks (d +ℤ trim)) e (within_ticks (d +ℤ trim) w)))

module _ (order : WorkOrder) (means : ℕ → Entry) (x : Untimed) where
  -- numbered from n on
  record Stopped (n : ℕ) (es : List (Option LiveArc)) : Type 0 where
    index : ℕ
    arc : LiveArc
    live : get_or es index None ≡ Some arc
    stopped : arc_ticks (n + index) arc.trim (means (n + index)) ≡ Err x
    lower : (i : ℕ) (e : LiveArc) → i < index → get_or es i None ≡ Some e → (d : ℤ) × (arc_ticks (n + i) e.trim (means (n + i)) ≡ Ok d)

  past : (n : ℕ) (o : Option LiveArc) (es : List (Option LiveArc)) → ((e : LiveArc) → o ≡ Some e → (d : ℤ) × (arc_ticks n e.trim (means n) ≡ Ok d))
      → Stopped (suc n) es → Stopped n (o ∷ es)
  past n o es first w = record {
    index = suc w.index;
    arc = w.arc;
    live = w.live;
    stopped = let same : suc n + w.index ≡ n + suc w.index = omega arith in subst (λ k. arc_ticks k w.arc.trim (means k) ≡ Err x) same w.stopped;
    lower = low;
  }
    where
      low : (i : ℕ) (e : LiveArc) → i < suc w.index → get_or (o ∷ es) i None ≡ Some e → (d : ℤ) × (arc_ticks (n + i) e.trim (means (n + i)) ≡ Ok d)
      low zero e h l = let same : n ≡ n + 0 = omega arith in subst (λ k. (d : ℤ) × (arc_ticks k e.trim (means k) ≡ Ok d)) same (first e l)
      low (suc i) e h l = let same : suc n + i ≡ n + suc i = omega arith in subst (λ k. (d : ℤ) × (arc_ticks k e.trim (means k) ≡ Ok d)) same (w.lower i e (omega arith) l)

  stopped_at : (n : ℕ) (es : List (Option LiveArc)) → arcs_in_ticks order means n es ≡ Err x → Stopped n es
  stopped_at n [] h = absurd (err_ok x [] (sym h))
  stopped_at n (None ∷ es) h = past n None es (λ e q. absurd (none_some e q)) (stopped_at (suc n) es h)
  stopped_at n (Some a ∷ es) h =
      go (front_err (result_map_both (arc_of order n a) (λ z. z) (arc_ticks n a.trim (means n))) (arcs_in_ticks order means (suc n) es) x h) (λ q. stopped_at (suc n) es q)
    where
      timed : Result (Arc ℤ) Untimed
      timed = result_map_both (arc_of order n a) (λ z. z) (arc_ticks n a.trim (means n))

      go : (timed ≡ Err x) ⊎ ((c : Arc ℤ) × (timed ≡ Ok c) × (arcs_in_ticks order means (suc n) es ≡ Err x)) → (arcs_in_ticks order means (suc n) es ≡ Err x → Stopped (suc n) es) → Stopped n (Some a ∷ es)
      go (inl q) f =
          let same : n ≡ n + 0 = omega arith in
          record {
            index = 0;
            arc = a;
            live = refl;
            stopped = subst (λ k. arc_ticks k a.trim (means k) ≡ Err x) same (mapped_err (arc_of order n a) (arc_ticks n a.trim (means n)) x q);
            lower = λ i e h l. absurd (omega arith);
          }
      go (inr w) f =
          let m = mapped_ok (arc_of order n a) (arc_ticks n a.trim (means n)) w.0 w.1 in
          past n (Some a) es (λ e q. (m.0, subst (λ (z : LiveArc). arc_ticks n z.trim (means n) ≡ Ok m.0) (some_is a e q) m.1)) (f w.2)

  pub stops : (g : Block) → arcs_in_ticks order means 0 g.arcs ≡ Err x → Stops g means x
  stops g h =
      let w = stopped_at 0 g.arcs h in
      record {
        number = w.index;
        arc = w.arc;
        live = w.live;
        stopped = no_ticks w.index w.arc.trim (means w.index) x
            (subst (λ k. arc_ticks k w.arc.trim (means k) ≡ Err x) (let same : 0 + w.index ≡ w.index = omega arith in same) w.stopped);
        lower = λ n e i l.
            let d = w.lower n e i l in
            let t = ticks_are (0 + n) e.trim (means (0 + n)) d.0 d.1 in
            let same : 0 + n ≡ n = omega arith in
            (t.0, ap means (sym same) ∙ t.1, subst (λ z. Within 1000000 z) t.2 t.3);
      }

-- ---- the block
module _ (order : WorkOrder) (g : Block) (means : ℕ → Entry) (b : RowBlock ℤ) (h : in_ticks order g means ≡ Ok b) where
  pub listed : (xs : List (Arc ℤ)) × (arcs_in_ticks order means 0 g.arcs ≡ Ok xs) × (b ≡ block_in_ticks order g xs)
  listed = mapped_ok (block_in_ticks order g) (arcs_in_ticks order means 0 g.arcs) b h

  pub made : (a : Arc ℤ) → Live b a → Made order means 0 g.arcs a
  made a l = made_from order means 0 g.arcs listed.0 listed.1 a (subst (λ (x : RowBlock ℤ). Live x a) listed.2 l)

  pub has_live : (n : ℕ) (e : LiveArc) → get_or g.arcs n None ≡ Some e → (d : ℤ) × Live b (arc_of order n e d)
  has_live n e l =
      let w = made_has order means 0 g.arcs listed.0 listed.1 n e l in
      let same : 0 + n ≡ n = omega arith in
      (w.0, subst (λ (x : RowBlock ℤ). Live x (arc_of order n e w.0)) (sym listed.2) (subst (λ k. In (arc_of order k e w.0) listed.0) same w.1))

  pub sound_in_ticks : Kept g → Suits order g → Sound (Within 1000000) b node_count
  sound_in_ticks t s = record {
    few = omega arith;
    rising = λ a l. let w = made a l in subst (λ (x : Arc ℤ). x.from < x.to) (sym w.is) (s.rising w.index w.arc w.live);
    below = λ a l. let w = made a l in subst (λ (x : Arc ℤ). x.to < node_count) (sym w.is) (s.places w.arc.to (t.nodes w.index w.arc w.live));
    numbered = λ a l.
        let w = made a l in
        let at : a.number ≡ 0 + w.index = ap (λ (x : Arc ℤ). x.number) w.is in
        omega (arith, at, t.numbers w.index w.arc w.live, t.room);
    by_number = subst (λ (x : RowBlock ℤ). ByNumber x.arcs) (sym listed.2) (made_sorted order means 0 g.arcs listed.0 listed.1);
    arcs = λ a l. let w = made a l in subst (λ (x : Arc ℤ). Within 1000000 x.row) (sym w.is) (ticks_are (0 + w.index) w.arc.trim (means (0 + w.index)) w.ticks w.timed).3;
    starts = λ p x e. ticks_within x (t.starts (order.node p) x (ap (λ (y : RowBlock ℤ). y.start p) (sym listed.2) ∙ e));
    ends = λ p x e. ticks_within x (t.ends (order.node p) x (ap (λ (y : RowBlock ℤ). y.end p) (sym listed.2) ∙ e));
  }

pub lower_first_suits_lem : (g : Block) → Kept g → Suits by_node g
lower_first_suits_lem g t = record { places = λ v h. h; nodes = λ v h. refl; rising = t.rising }
