-- The computed required times: each is asked, and none that is asked is earlier.
use Rattle.std.proofs.Common.{◌≡◌, ℕ, suc, ◌+◌, ◌<◌, ◌≤◌, cond, T, eqb, ◌⊎◌, List, [], ◌∷◌, ◌++◌, Some, None, Option, sym, refl, ap, ◌∙◌, subst, subst₂, inl, inr, arith, eqb→eq}
use mathlib.Core.List.Memᴰ
use Rattle.paths.specs.Rows.{Rows, Before, minus}
use Rattle.paths.specs.Blocks.{Arc, RowBlock, Live, Rising, pass, passes}
use Rattle.paths.specs.Times.{Asked, ends, before}
use Rattle.paths.specs.Sheets.{Line, Told, Timed, no_arc, no_line, first_least, asks, asked_over, asked_by, ended, timed}
use Rattle.paths.specs.Relations.{Precedes, InOrder}
use Rattle.paths.proofs.RowLaws.{Laws, Near, before_refl, before_right}
use Rattle.paths.proofs.Small.{Tame}
use Rattle.paths.proofs.Choosing.{In, At, in_nil, by_cond, cond_true, eq_eqb, all_in, chosen_in, chosen_least}

module _ {R : Type 0} (m : Rows R) (b : RowBlock R) where
  -- ---- what an arc asks
  -- a is asked of the line l over e by a line t of ts
  pub record ToldBy (l : Line R) (e : Arc R) (k : ℕ) (ts : List (Timed R)) (a : Told R) : Type 0 where
    pub by : Timed R
    pub place : ℕ
    pub place_is : a.line ≡ k + place
    pub stands : At ts place by
    pub arc_is : a.arc ≡ e.number
    pub asks_for : Told R
    pub in_it : In by ts
    pub node_is : by.line.node ≡ e.to
    pub tag_is : by.line.tag ≡ pass b l.tag e
    pub required_is : by.required ≡ Some asks_for
    pub row_is : a.row ≡ minus m asks_for.row e.row

  asks_from : (e : Arc R) (k : ℕ) (o : Option (Told R)) (a : Told R) → In a (asks m e k o) → (y : Told R) × (o ≡ Some y) × (a.row ≡ minus m y.row e.row) × (a.arc ≡ e.number) × (a.line ≡ k)
  asks_from e k None a i = in_nil a i
  asks_from e k (Some y) a i = go (Memᴰ.cases_cons i)
    where
      here : Told R
      here = record { row = minus m y.row e.row; arc = e.number; line = k }

      go : (a ≡ here) ⊎ In a [] → (z : Told R) × (Some y ≡ Some z) × (a.row ≡ minus m z.row e.row) × (a.arc ≡ e.number) × (a.line ≡ k)
      go (inl p) = (y, refl, ap (λ (z : Told R). z.row) p, ap (λ (z : Told R). z.arc) p, ap (λ (z : Told R). z.line) p)
      go (inr j) = in_nil a j

  pub over_from : (l : Line R) (e : Arc R) (k : ℕ) (ts : List (Timed R)) (a : Told R) → In a (asked_over m b l e k ts) → ToldBy l e k ts a
  over_from l e k [] a = λ i. in_nil a i
  over_from l e k (t ∷ ts) a =
      let rest = asked_over m b l e (suc k) ts in
      let P : List (Told R) → Type 0 = λ xs. In a xs → ToldBy l e k (t ∷ ts) a in
      by_cond P (eqb t.line.node e.to) (cond (eqb t.line.tag (pass b l.tag e)) (asks m e k t.required ++ rest) rest) rest
      (λ n. by_cond P (eqb t.line.tag (pass b l.tag e)) (asks m e k t.required ++ rest) rest
      (λ s i. here (eqb→eq t.line.node e.to n) (eqb→eq t.line.tag (pass b l.tag e) s) (Memᴰ.append_cases (asks m e k t.required) i) (λ j. over_from l e (suc k) ts a j))
      (λ _ i. more (over_from l e (suc k) ts a i)))
      (λ _ i. more (over_from l e (suc k) ts a i))
    where
      more : ToldBy l e (suc k) ts a → ToldBy l e k (t ∷ ts) a
      more w = record { by = w.by; place = suc w.place; place_is = omega (arith, w.place_is); stands = w.stands; arc_is = w.arc_is; asks_for = w.asks_for; in_it = Memᴰ.tail w.in_it; node_is = w.node_is; tag_is = w.tag_is; required_is = w.required_is; row_is = w.row_is }

      here : t.line.node ≡ e.to → t.line.tag ≡ pass b l.tag e → In a (asks m e k t.required) ⊎ In a (asked_over m b l e (suc k) ts)
          → (In a (asked_over m b l e (suc k) ts) → ToldBy l e (suc k) ts a) → ToldBy l e k (t ∷ ts) a
      here n s (inl i) f =
          let w = asks_from e k t.required a i in
          record { by = t; place = 0; place_is = omega (arith, w.4); stands = refl; arc_is = w.3; asks_for = w.0; in_it = Memᴰ.head refl; node_is = n; tag_is = s; required_is = w.1; row_is = w.2 }
      here n s (inr i) f = more (f i)

  over_has : (l : Line R) (e : Arc R) (k : ℕ) (ts : List (Timed R)) (t : Timed R) (y : Told R) → In t ts → t.line.node ≡ e.to → t.line.tag ≡ pass b l.tag e → t.required ≡ Some y
      → (a : Told R) × In a (asked_over m b l e k ts) × (a.row ≡ minus m y.row e.row)
  over_has l e k [] t y i n s r = in_nil t i
  over_has l e k (u ∷ ts) t y i n s r = go (Memᴰ.cases_cons i) (λ j. over_has l e (suc k) ts t y j n s r)
    where
      rest : List (Told R)
      rest = asked_over m b l e (suc k) ts

      here : Told R
      here = record { row = minus m y.row e.row; arc = e.number; line = k }

      whole : List (Told R)
      whole = cond (eqb u.line.node e.to) (cond (eqb u.line.tag (pass b l.tag e)) (asks m e k u.required ++ rest) rest) rest

      deep : (a : Told R) → In a rest → In a whole
      deep a j =
          by_cond (λ xs. In a xs) (eqb u.line.node e.to) (cond (eqb u.line.tag (pass b l.tag e)) (asks m e k u.required ++ rest) rest) rest
          (λ _. by_cond (λ xs. In a xs) (eqb u.line.tag (pass b l.tag e)) (asks m e k u.required ++ rest) rest (λ _. Memᴰ.append_right (asks m e k u.required) j) (λ _. j))
          (λ _. j)

      now : u.line.node ≡ e.to → u.line.tag ≡ pass b l.tag e → u.required ≡ Some y → In here whole
      now n' s' r' =
          subst (λ xs. In here xs)
          (sym (cond_true (eqb u.line.node e.to) (cond (eqb u.line.tag (pass b l.tag e)) (asks m e k u.required ++ rest) rest) rest (eq_eqb u.line.node e.to n')
          ∙ cond_true (eqb u.line.tag (pass b l.tag e)) (asks m e k u.required ++ rest) rest (eq_eqb u.line.tag (pass b l.tag e) s')))
          (Memᴰ.append_left rest (subst (λ o. In here (asks m e k o)) (sym r') (Memᴰ.head refl)))

      go : (t ≡ u) ⊎ In t ts → (In t ts → (a : Told R) × In a rest × (a.row ≡ minus m y.row e.row)) → (a : Told R) × In a whole × (a.row ≡ minus m y.row e.row)
      go (inl p) f = (
        here,
        now (ap (λ (z : Timed R). z.line.node) (sym p) ∙ n) (ap (λ (z : Timed R). z.line.tag) (sym p) ∙ s) (ap (λ (z : Timed R). z.required) (sym p) ∙ r),
        refl,
      )
      go (inr j) f = let w = f j in (w.0, deep w.0 w.1, w.2)

  -- ---- what all arcs ask
  pub record ToldOver (l : Line R) (es : List (Arc R)) (k : ℕ) (ts : List (Timed R)) (a : Told R) : Type 0 where
    pub arc : Arc R
    pub in_it : In arc es
    pub from_is : arc.from ≡ l.node
    pub may : T (passes b l.tag arc)
    pub told : ToldBy l arc k ts a

  pub by_from : (l : Line R) (es : List (Arc R)) (k : ℕ) (ts : List (Timed R)) (a : Told R) → In a (asked_by m b l es k ts) → ToldOver l es k ts a
  by_from l [] k ts a = λ i. in_nil a i
  by_from l (e ∷ es) k ts a =
      let rest = asked_by m b l es k ts in
      let P : List (Told R) → Type 0 = λ xs. In a xs → ToldOver l (e ∷ es) k ts a in
      by_cond P (eqb e.from l.node) (cond (passes b l.tag e) (asked_over m b l e k ts ++ rest) rest) rest
      (λ n. by_cond P (passes b l.tag e) (asked_over m b l e k ts ++ rest) rest
      (λ may i. here (eqb→eq e.from l.node n) may (Memᴰ.append_cases (asked_over m b l e k ts) i) (λ j. by_from l es k ts a j))
      (λ _ i. more (by_from l es k ts a i)))
      (λ _ i. more (by_from l es k ts a i))
    where
      more : ToldOver l es k ts a → ToldOver l (e ∷ es) k ts a
      more w = record { arc = w.arc; in_it = Memᴰ.tail w.in_it; from_is = w.from_is; may = w.may; told = w.told }

      here : e.from ≡ l.node → T (passes b l.tag e) → In a (asked_over m b l e k ts) ⊎ In a (asked_by m b l es k ts) → (In a (asked_by m b l es k ts) → ToldOver l es k ts a) → ToldOver l (e ∷ es) k ts a
      here n may (inl i) f = record { arc = e; in_it = Memᴰ.head refl; from_is = n; may = may; told = over_from l e k ts a i }
      here n may (inr i) f = more (f i)

  pub by_has : (l : Line R) (es : List (Arc R)) (k : ℕ) (ts : List (Timed R)) (e : Arc R) (a : Told R) → In e es → e.from ≡ l.node → T (passes b l.tag e) → In a (asked_over m b l e k ts)
      → In a (asked_by m b l es k ts)
  by_has l [] k ts e a i n may j = in_nil e i
  by_has l (d ∷ es) k ts e a i n may j = go (Memᴰ.cases_cons i) (λ z. by_has l es k ts e a z n may j)
    where
      rest : List (Told R)
      rest = asked_by m b l es k ts

      whole : List (Told R)
      whole = cond (eqb d.from l.node) (cond (passes b l.tag d) (asked_over m b l d k ts ++ rest) rest) rest

      deep : In a rest → In a whole
      deep z =
          by_cond (λ xs. In a xs) (eqb d.from l.node) (cond (passes b l.tag d) (asked_over m b l d k ts ++ rest) rest) rest
          (λ _. by_cond (λ xs. In a xs) (passes b l.tag d) (asked_over m b l d k ts ++ rest) rest (λ _. Memᴰ.append_right (asked_over m b l d k ts) z) (λ _. z))
          (λ _. z)

      now : d.from ≡ l.node → T (passes b l.tag d) → In a (asked_over m b l d k ts) → In a whole
      now n' may' j' =
          subst (λ xs. In a xs)
          (sym (cond_true (eqb d.from l.node) (cond (passes b l.tag d) (asked_over m b l d k ts ++ rest) rest) rest (eq_eqb d.from l.node n')
          ∙ cond_true (passes b l.tag d) (asked_over m b l d k ts ++ rest) rest may'))
          (Memᴰ.append_left rest j')

      go : (e ≡ d) ⊎ In e es → (In e es → In a rest) → In a whole
      go (inl p) f = now (subst (λ (z : Arc R). z.from ≡ l.node) p n) (subst (λ (z : Arc R). T (passes b l.tag z)) p may) (subst (λ (z : Arc R). In a (asked_over m b l z k ts)) p j)
      go (inr z) f = deep (f z)

  pub ended_from : (o : Option R) (a : Told R) → In a (ended o) → (o ≡ Some a.row) × (a.arc ≡ no_arc) × (a.line ≡ no_line)
  ended_from None a i = in_nil a i
  ended_from (Some y) a i = go (Memᴰ.cases_cons i)
    where
      here : Told R
      here = record { row = y; arc = no_arc; line = no_line }

      go : (a ≡ here) ⊎ In a [] → (Some y ≡ Some a.row) × (a.arc ≡ no_arc) × (a.line ≡ no_line)
      go (inl p) = (ap (λ (z : Told R). Some z.row) (sym p), ap (λ (z : Told R). z.arc) p, ap (λ (z : Told R). z.line) p)
      go (inr j) = in_nil a j

  -- ---- the first step of what is asked
  record FirstStep (v s : ℕ) (z : R) : Type 0 where
    arc : Arc R
    row : R
    live : Live b arc
    from_is : arc.from ≡ v
    may : T (passes b s arc)
    is : z ≡ minus m row arc.row
    beyond : Asked m b arc.to (pass b s arc) row

  first_step : (v s : ℕ) (z : R) → Asked m b v s z → (b.end v ≡ Some z) ⊎ FirstStep v s z
  first_step v s z (ends e) = inl e
  first_step v s z (before {y = y} e l p k) = inr (record { arc = e; row = y; live = l; from_is = refl; may = p; is = refl; beyond = k })

  -- ---- the lines that are timed
  pub timed_lines : (k : ℕ) (ls : List (Line R)) (t : Timed R) → In t (timed m b k ls) → In t.line ls
  timed_lines k [] t i = in_nil t i
  timed_lines k (l ∷ ls) t i = go (Memᴰ.cases_cons i) (λ j. timed_lines (suc k) ls t j)
    where
      here : Timed R
      here = record { line = l; required = first_least m (ended (b.end l.node) ++ asked_by m b l b.arcs (suc k) (timed m b (suc k) ls)) }

      go : (t ≡ here) ⊎ In t (timed m b (suc k) ls) → (In t (timed m b (suc k) ls) → In t.line ls) → In t.line (l ∷ ls)
      go (inl p) f = Memᴰ.head (ap (λ (z : Timed R). z.line) p)
      go (inr j) f = Memᴰ.tail (f j)

  pub lines_timed : (k : ℕ) (ls : List (Line R)) (l : Line R) → In l ls → (t : Timed R) × In t (timed m b k ls) × (t.line ≡ l)
  lines_timed k [] l i = in_nil l i
  lines_timed k (x ∷ ls) l i = go (Memᴰ.cases_cons i) (λ j. lines_timed (suc k) ls l j)
    where
      here : Timed R
      here = record { line = x; required = first_least m (ended (b.end x.node) ++ asked_by m b x b.arcs (suc k) (timed m b (suc k) ls)) }

      go : (l ≡ x) ⊎ In l ls → (In l ls → (t : Timed R) × In t (timed m b (suc k) ls) × (t.line ≡ l)) → (t : Timed R) × In t (timed m b k (x ∷ ls)) × (t.line ≡ l)
      go (inl p) f = (here, Memᴰ.head refl, sym p)
      go (inr j) f = let w = f j in (w.0, Memᴰ.tail w.1, w.2)

  module _ (laws : Laws m) where
    -- ---- soundness
    -- what is told of a line is asked there
    pub told_right : (l : Line R) (k : ℕ) (ts : List (Timed R)) → ((u : Timed R) (z : Told R) → In u ts → u.required ≡ Some z → Asked m b u.line.node u.line.tag z.row)
        → (y : Told R) → In y (ended (b.end l.node) ++ asked_by m b l b.arcs k ts) → Asked m b l.node l.tag y.row
    told_right l k ts f y i = go (Memᴰ.append_cases (ended (b.end l.node)) i)
      where
        go : In y (ended (b.end l.node)) ⊎ In y (asked_by m b l b.arcs k ts) → Asked m b l.node l.tag y.row
        go (inl j) = ends (ended_from (b.end l.node) y j).0
        go (inr j) =
            let w = by_from l b.arcs k ts y j in
            let o = w.told in
            subst₂ (λ n z. Asked m b n l.tag z) w.from_is (sym o.row_is)
            (before w.arc w.in_it w.may
            (subst₂ (λ n s. Asked m b n s o.asks_for.row) o.node_is o.tag_is (f o.by o.asks_for o.in_it o.required_is)))

    pub timed_right : (k : ℕ) (ls : List (Line R)) (t : Timed R) (y : Told R) → In t (timed m b k ls) → t.required ≡ Some y → Asked m b t.line.node t.line.tag y.row
    timed_right k [] t y i r = in_nil t i
    timed_right k (l ∷ ls) t y i r = go (Memᴰ.cases_cons i) (λ u z j q. timed_right (suc k) ls u z j q)
      where
        ts : List (Timed R)
        ts = timed m b (suc k) ls

        told : List (Told R)
        told = ended (b.end l.node) ++ asked_by m b l b.arcs (suc k) ts

        here : Timed R
        here = record { line = l; required = first_least m told }

        go : (t ≡ here) ⊎ In t ts → ((u : Timed R) (z : Told R) → In u ts → u.required ≡ Some z → Asked m b u.line.node u.line.tag z.row) → Asked m b t.line.node t.line.tag y.row
        go (inl p) f =
            subst (λ (z : Timed R). Asked m b z.line.node z.line.tag y.row) (sym p)
            (told_right l (suc k) ts f y (chosen_in laws told y (ap (λ (z : Timed R). z.required) (sym p) ∙ r)))
        go (inr j) f = f t y j r

    -- ---- completeness
    -- each line that a line of ls passes to is among them
    abbrev pub Onto : List (Line R) → Type 0
    Onto ls = (l : Line R) → In l ls → (e : Arc R) → Live b e → e.from ≡ l.node → T (passes b l.tag e) → (k : Line R) × In k ls × (k.node ≡ e.to) × (k.tag ≡ pass b l.tag e)

    pub not_before : (l k : Line R) → Precedes l k → l.node ≤ k.node
    not_before l k (inl h) = omega arith
    not_before l k (inr h) = omega (arith, h.0)

    -- a line beyond a line is not the first
    beyond_first : Rising b → (x : Line R) (ls : List (Line R)) → InOrder (x ∷ ls) → (l : Line R) → In l (x ∷ ls) → (e : Arc R) → Live b e → e.from ≡ l.node → (k : Line R) → In k (x ∷ ls) → k.node ≡ e.to → In k ls
    beyond_first rising x ls o l i e v p k j q = go (Memᴰ.cases_cons j) (low (Memᴰ.cases_cons i))
      where
        low : (l ≡ x) ⊎ In l ls → x.node ≤ l.node
        low (inl z) = subst (λ (w : Line R). x.node ≤ w.node) (sym z) (omega arith)
        low (inr z) = not_before x l (all_in (Precedes x) ls o.0 l z)

        go : (k ≡ x) ⊎ In k ls → x.node ≤ l.node → In k ls
        go (inl z) h = absurd (omega (arith, h, rising e v, p, q, ap (λ (w : Line R). w.node) z))
        go (inr z) h = z

    onto_tail : Rising b → (x : Line R) (ls : List (Line R)) → InOrder (x ∷ ls) → Onto (x ∷ ls) → Onto ls
    onto_tail rising x ls o f l i e v p may =
        let w = f l (Memᴰ.tail i) e v p may in
        (w.0, beyond_first rising x ls o l (Memᴰ.tail i) e v p w.0 w.1 w.2, w.2, w.3)

    pub told_near : Tame m b laws → (l : Line R) → l.node < 256 → (k : ℕ) (ls : List (Line R)) → (y : Told R) → In y (ended (b.end l.node) ++ asked_by m b l b.arcs k (timed m b k ls)) → Near laws y.row
    told_near tame l h k ls y i = tame.asked l.node l.tag y.row h (told_right l k (timed m b k ls) (λ u z j q. timed_right k ls u z j q) y i)

    pub timed_complete : Tame m b laws → Rising b → (k : ℕ) (ls : List (Line R)) → ((l : Line R) → In l ls → l.node < 256) → InOrder ls → Onto ls → (t : Timed R) (z : R) → In t (timed m b k ls) → Asked m b t.line.node t.line.tag z
        → (y : Told R) × (t.required ≡ Some y) × Before m y.row z
    timed_complete tame rising k [] low o onto t z i = in_nil t i
    timed_complete tame rising k (l ∷ ls) low o onto t z i = λ asked.
        go (Memᴰ.cases_cons i) asked (λ u x j a. timed_complete tame rising (suc k) ls (λ y q. low y (Memᴰ.tail q)) o.1 (onto_tail rising l ls o onto) u x j a)
      where
        ts : List (Timed R)
        ts = timed m b (suc k) ls

        told : List (Told R)
        told = ended (b.end l.node) ++ asked_by m b l b.arcs (suc k) ts

        here : Timed R
        here = record { line = l; required = first_least m told }

        Below : Type 0
        Below = (u : Timed R) (x : R) → In u ts → Asked m b u.line.node u.line.tag x → (y : Told R) × (u.required ≡ Some y) × Before m y.row x

        here_low : l.node < 256
        here_low = low l (Memᴰ.head refl)

        near : (y : Told R) → In y told → Near laws y.row
        near = told_near tame l here_low (suc k) ls

        source : Below → Near laws z → (b.end l.node ≡ Some z) ⊎ FirstStep l.node l.tag z → (a : Told R) × In a told × Before m a.row z
        source f nz (inl e) =
            let a : Told R = record { row = z; arc = no_arc; line = no_line } in
            (a, Memᴰ.append_left (asked_by m b l b.arcs (suc k) ts) (subst (λ x. In a (ended x)) (sym e) (Memᴰ.head refl)), before_refl laws z (omega arith))
        source f nz (inr w) =
            let e = w.arc in
            let n = onto l (Memᴰ.head refl) e w.live w.from_is w.may in
            let u = lines_timed (suc k) ls n.0 (beyond_first rising l ls o l (Memᴰ.head refl) e w.live w.from_is n.0 n.1 n.2) in
            let node_is : u.0.line.node ≡ e.to = ap (λ (x : Line R). x.node) u.2 ∙ n.2 in
            let tag_is : u.0.line.tag ≡ pass b l.tag e = ap (λ (x : Line R). x.tag) u.2 ∙ n.3 in
            let beyond-low : u.0.line.node < 256 = low u.0.line (Memᴰ.tail (timed_lines (suc k) ls u.0 u.1)) in
            let y = f u.0 w.row u.1 (subst₂ (λ v s. Asked m b v s w.row) (sym node_is) (sym tag_is) w.beyond) in
            let a = over_has l e (suc k) ts u.0 y.0 u.1 node_is tag_is y.1 in (
              a.0,
              Memᴰ.append_right (ended (b.end l.node)) (by_has l b.arcs (suc k) ts e a.0 w.live w.from_is w.may a.1),
              subst₂ (λ p q. Before m p q) (sym a.2) (sym w.is) (before_right laws y.0.row w.row (m.opposite e.row)
                  (tame.asked u.0.line.node u.0.line.tag y.0.row beyond-low (timed_right (suc k) ls u.0 y.0 u.1 y.1))
                  (tame.asked e.to (pass b l.tag e) w.row (omega (arith, node_is, beyond-low)) w.beyond)
                  (omega (arith, tame.arcs e w.live, laws.opposites e.row)) y.2),
            )

        best : Near laws z → (a : Told R) × In a told × Before m a.row z → (y : Told R) × (first_least m told ≡ Some y) × Before m y.row z
        best nz w =
            let c = chosen_least laws told (λ x j. omega (arith, near x j)) w.0 w.1 in
            (c.0, c.1, laws.chain c.0.row w.0.row z (omega (arith, near c.0 (chosen_in laws told c.0 c.1))) (omega (arith, near w.0 w.1)) (omega arith) c.2 w.2)

        go : (t ≡ here) ⊎ In t ts → Asked m b t.line.node t.line.tag z → Below → (y : Told R) × (t.required ≡ Some y) × Before m y.row z
        go (inl p) asked f =
            let Asked-here = subst (λ (x : Timed R). Asked m b x.line.node x.line.tag z) p asked in
            let nz : Near laws z = tame.asked l.node l.tag z here_low Asked-here in
            let r = best nz (source f nz (first_step l.node l.tag z Asked-here)) in
            (r.0, ap (λ (x : Timed R). x.required) p ∙ r.1, r.2)
        go (inr j) asked f = f t z j asked
