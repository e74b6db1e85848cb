-- The computed lines are the arrivals: each is reached, each arrival is covered by a line of its node and tag, and the lines are in order.
use Rattle.std.proofs.Common.{◌≡◌, ℕ, zero, suc, ◌+◌, ◌<◌, ◌≤◌, cond, T, eqb, ◌⊎◌, List, [], ◌∷◌, ◌++◌, Some, None, Option, sym, refl, ap, ◌∙◌, subst, subst₂, inl, inr, arith, eqb→eq}
use mathlib.Core.List.Memᴰ
use Rattle.std.proofs.lemmas.Bool.{cases_lt}
use Rattle.paths.specs.Rows.{Rows, Before}
use Rattle.paths.specs.Blocks.{Arc, RowBlock, Live, Rising, pass, passes, ByNumber}
use Rattle.paths.specs.Times.{Reaches, starts, passed}
use Rattle.paths.specs.Sheets.{Line, no_arc, no_line, started, entered, sent, over, into, arrivals}
use Rattle.paths.specs.Relations.{Precedes, InOrder, ByTag, Wins}
use Rattle.paths.proofs.RowLaws.{Laws, Near, before_refl, before_right}
use Rattle.paths.proofs.Small.{Tame}
use Rattle.paths.proofs.Choosing.{Orders, Ascending, append_ascending, In, At, in_nil, by_cond, cond_true, eq_eqb, all_in, in_all, none_some, some_is}
use Rattle.paths.proofs.Entering.{Covered, entered_in, entered_sorted, entered_new}

-- the arcs stand by rising number, below the mark for none
abbrev pub Numbered : {R : Type 0} → RowBlock R → Type 0
Numbered {R} b = ByNumber b.arcs × ((e : Arc R) → Live b e → e.number < no_arc)

-- links by arc and line, in the order in which they win
pub wins_order : {X : Type 0} (arc line : X → ℕ) → Orders (λ x y. Wins (arc x) (line x) (arc y) (line y))
wins_order arc line = record { itself = λ x. inr (inr (refl, omega arith)); chain = λ x y z p q. go (arc x) (line x) (arc y) (line y) (arc z) (line z) p q }
  where
    go : (a i c j d k : ℕ) → Wins a i c j → Wins c j d k → Wins a i d k
    go a i c j d k (inl e) q = inl e
    go a i c j d k (inr (inl h)) (inl e) = absurd (omega (arith, h.1, e))
    go a i c j d k (inr (inl h)) (inr (inl l)) = inr (inl (omega (arith, h.0, l.0), l.1))
    go a i c j d k (inr (inl h)) (inr (inr l)) = inr (inl (omega (arith, h.0, l.0), omega (arith, h.1, l.0)))
    go a i c j d k (inr (inr h)) (inl e) = inl (h.0 ∙ e)
    go a i c j d k (inr (inr h)) (inr (inl l)) = inr (inl (omega (arith, h.0, l.0), l.1))
    go a i c j d k (inr (inr h)) (inr (inr l)) = inr (inr (h.0 ∙ l.0, omega (arith, h.1, l.1)))

-- of two lines, the one whose link wins
abbrev pub First : {R : Type 0} → Line R → Line R → Type 0
First l k = Wins l.back_arc l.back_line k.back_arc k.back_line

module _ {R : Type 0} (m : Rows R) (b : RowBlock R) where
  -- ---- what an arc brings
  -- l is what a line k of ls, that e starts at and that passes, sends over e
  pub record Brought (e : Arc R) (i : ℕ) (ls : List (Line R)) (l : Line R) : Type 0 where
    pub by : Line R
    pub number : ℕ
    pub place : ℕ
    pub place_is : number ≡ i + place
    pub stands : At ls place by
    pub in_it : In by ls
    pub at : by.node ≡ e.from
    pub may : T (passes b by.tag e)
    pub is : l ≡ sent m b e number by

  over_from : (e : Arc R) (i : ℕ) (ls : List (Line R)) (l : Line R) → In l (over m b e i ls) → Brought e i ls l
  over_from e i [] l = λ j. in_nil l j
  over_from e i (k ∷ ls) l =
      let rest = over m b e (suc i) ls in
      by_cond (λ xs. In l xs → Brought e i (k ∷ ls) l) (eqb k.node e.from) (cond (passes b k.tag e) (sent m b e i k ∷ rest) rest) rest
      (λ at. by_cond (λ xs. In l xs → Brought e i (k ∷ ls) l) (passes b k.tag e) (sent m b e i k ∷ rest) rest
      (λ may j. first (eqb→eq k.node e.from at) may (Memᴰ.cases_cons j) (λ z. over_from e (suc i) ls l z))
      (λ _ j. more (over_from e (suc i) ls l j)))
      (λ _ j. more (over_from e (suc i) ls l j))
    where
      more : Brought e (suc i) ls l → Brought e i (k ∷ ls) l
      more w = record { by = w.by; number = w.number; place = suc w.place; place_is = omega (arith, w.place_is); stands = w.stands; in_it = Memᴰ.tail w.in_it; at = w.at; may = w.may; is = w.is }

      first : k.node ≡ e.from → T (passes b k.tag e) → (l ≡ sent m b e i k) ⊎ In l (over m b e (suc i) ls) → (In l (over m b e (suc i) ls) → Brought e (suc i) ls l) → Brought e i (k ∷ ls) l
      first at may (inl p) f = record { by = k; number = i; place = 0; place_is = omega arith; stands = refl; in_it = Memᴰ.head refl; at = at; may = may; is = p }
      first at may (inr j) f = more (f j)

  over_has : (e : Arc R) (i : ℕ) (ls : List (Line R)) (k : Line R) → In k ls → k.node ≡ e.from → T (passes b k.tag e) → (j : ℕ) × In (sent m b e j k) (over m b e i ls)
  over_has e i [] k = λ z. in_nil k z
  over_has e i (l ∷ ls) k = λ z at may. go (Memᴰ.cases_cons z) at may (λ z'. over_has e (suc i) ls k z' at may)
    where
      rest : List (Line R)
      rest = over m b e (suc i) ls

      deep : (x : Line R) → In x rest → In x (cond (eqb l.node e.from) (cond (passes b l.tag e) (sent m b e i l ∷ rest) rest) rest)
      deep x j =
          by_cond (λ xs. In x xs) (eqb l.node e.from) (cond (passes b l.tag e) (sent m b e i l ∷ rest) rest) rest
          (λ _. by_cond (λ xs. In x xs) (passes b l.tag e) (sent m b e i l ∷ rest) rest (λ _. Memᴰ.tail j) (λ _. j))
          (λ _. j)

      here : l.node ≡ e.from → T (passes b l.tag e) → In (sent m b e i l) (cond (eqb l.node e.from) (cond (passes b l.tag e) (sent m b e i l ∷ rest) rest) rest)
      here at may =
          subst (λ xs. In (sent m b e i l) xs)
          (sym (cond_true (eqb l.node e.from) (cond (passes b l.tag e) (sent m b e i l ∷ rest) rest) rest (eq_eqb l.node e.from at)
          ∙ cond_true (passes b l.tag e) (sent m b e i l ∷ rest) rest may))
          (Memᴰ.head refl)

      go : (k ≡ l) ⊎ In k ls → k.node ≡ e.from → T (passes b k.tag e) → (In k ls → (j : ℕ) × In (sent m b e j k) rest) → (j : ℕ) × In (sent m b e j k) (over m b e i (l ∷ ls))
      go (inl p) at may f =
          (i, subst (λ z. In (sent m b e i z) (over m b e i (l ∷ ls))) (sym p) (here (subst (λ (z : Line R). z.node ≡ e.from) p at) (subst (λ (z : Line R). T (passes b z.tag e)) p may)))
      go (inr z) at may f = let w = f z in (w.0, deep (sent m b e w.0 k) w.1)

  -- the line at a place sends its arrival under that number
  pub over_at : (e : Arc R) (i : ℕ) (ls : List (Line R)) (p : ℕ) (k : Line R) → At ls p k → k.node ≡ e.from → T (passes b k.tag e) → In (sent m b e (i + p) k) (over m b e i ls)
  over_at e i [] p k a at may = absurd (none_some k a)
  over_at e i (l ∷ ls) zero k a at may =
      let rest = over m b e (suc i) ls in
      let same : l ≡ k = some_is l k a in
      subst₂ (λ j z. In (sent m b e j k) (cond (eqb z.node e.from) (cond (passes b z.tag e) (sent m b e i z ∷ rest) rest) rest))
      (let q : i ≡ i + 0 = omega arith in q) (sym same)
      (subst (λ xs. In (sent m b e i k) xs)
      (sym (cond_true (eqb k.node e.from) (cond (passes b k.tag e) (sent m b e i k ∷ rest) rest) rest (eq_eqb k.node e.from at)
      ∙ cond_true (passes b k.tag e) (sent m b e i k ∷ rest) rest may))
      (Memᴰ.head refl))
  over_at e i (l ∷ ls) (suc p) k a at may =
      let rest = over m b e (suc i) ls in
      let x = sent m b e (i + suc p) k in
      let j : In x rest = subst (λ n. In (sent m b e n k) rest) (let q : suc i + p ≡ i + suc p = omega arith in q) (over_at e (suc i) ls p k a at may) in
      by_cond (λ xs. In x xs) (eqb l.node e.from) (cond (passes b l.tag e) (sent m b e i l ∷ rest) rest) rest
      (λ _. by_cond (λ xs. In x xs) (passes b l.tag e) (sent m b e i l ∷ rest) rest (λ _. Memᴰ.tail j) (λ _. j))
      (λ _. j)

  pub record ThroughArc (v : ℕ) (es : List (Arc R)) (ls : List (Line R)) (l : Line R) : Type 0 where
    pub arc : Arc R
    pub in_it : In arc es
    pub to_is : arc.to ≡ v
    pub brought : Brought arc 0 ls l

  pub into_from : (v : ℕ) (es : List (Arc R)) (ls : List (Line R)) (l : Line R) → In l (into m b v es ls) → ThroughArc v es ls l
  into_from v [] ls l = λ i. in_nil l i
  into_from v (e ∷ es) ls l =
      by_cond (λ xs. In l xs → ThroughArc v (e ∷ es) ls l) (eqb e.to v) (over m b e 0 ls ++ into m b v es ls) (into m b v es ls)
      (λ t i. split (eqb→eq e.to v t) (Memᴰ.append_cases (over m b e 0 ls) i) (λ j. into_from v es ls l j))
      (λ _ i. more (into_from v es ls l i))
    where
      more : ThroughArc v es ls l → ThroughArc v (e ∷ es) ls l
      more w = record { arc = w.arc; in_it = Memᴰ.tail w.in_it; to_is = w.to_is; brought = w.brought }

      split : e.to ≡ v → In l (over m b e 0 ls) ⊎ In l (into m b v es ls) → (In l (into m b v es ls) → ThroughArc v es ls l) → ThroughArc v (e ∷ es) ls l
      split t (inl i) f = record { arc = e; in_it = Memᴰ.head refl; to_is = t; brought = over_from e 0 ls l i }
      split t (inr i) f = more (f i)

  pub into_has : (v : ℕ) (es : List (Arc R)) (ls : List (Line R)) (e : Arc R) (l : Line R) → In e es → e.to ≡ v → In l (over m b e 0 ls) → In l (into m b v es ls)
  into_has v [] ls e l i = in_nil e i
  into_has v (a ∷ es) ls e l i = λ t j. go (Memᴰ.cases_cons i) t j (λ z. into_has v es ls e l z t j)
    where
      rest : List (Line R)
      rest = into m b v es ls

      go : (e ≡ a) ⊎ In e es → e.to ≡ v → In l (over m b e 0 ls) → (In e es → In l rest) → In l (cond (eqb a.to v) (over m b a 0 ls ++ rest) rest)
      go (inl p) t j f =
          subst (λ xs. In l xs) (sym (cond_true (eqb a.to v) (over m b a 0 ls ++ rest) rest (eq_eqb a.to v (subst (λ (z : Arc R). z.to ≡ v) p t))))
          (Memᴰ.append_left rest (subst (λ (z : Arc R). In l (over m b z 0 ls)) p j))
      go (inr z) t j f = by_cond (λ xs. In l xs) (eqb a.to v) (over m b a 0 ls ++ rest) rest (λ _. Memᴰ.append_right (over m b a 0 ls) (f z)) (λ _. f z)

  pub started_from : (v : ℕ) (o : Option R) (l : Line R) → In l (started v o) → (x : R) × (o ≡ Some x) × (l ≡ record { node = v; tag = 0; arrival = x; back_arc = no_arc; back_line = no_line })
  started_from v None l i = in_nil l i
  started_from v (Some x) l i = go (Memᴰ.cases_cons i)
    where
      here : Line R
      here = record { node = v; tag = 0; arrival = x; back_arc = no_arc; back_line = no_line }

      go : (l ≡ here) ⊎ In l [] → (y : R) × (Some x ≡ Some y) × (l ≡ record { node = v; tag = 0; arrival = y; back_arc = no_arc; back_line = no_line })
      go (inl e) = (x, refl, e)
      go (inr j) = in_nil l j

  -- ---- the candidates come by their links
  over_ascending : (e : Arc R) (i : ℕ) (ls : List (Line R)) → Ascending First (over m b e i ls)
  over_ascending e i [] = tt
  over_ascending e i (k ∷ ls) =
      let rest = over m b e (suc i) ls in
      by_cond (Ascending First) (eqb k.node e.from) (cond (passes b k.tag e) (sent m b e i k ∷ rest) rest) rest
      (λ _. by_cond (Ascending First) (passes b k.tag e) (sent m b e i k ∷ rest) rest
      (λ _. (in_all (First (sent m b e i k)) rest (λ z j. later z (over_from e (suc i) ls z j)), over_ascending e (suc i) ls))
      (λ _. over_ascending e (suc i) ls))
      (λ _. over_ascending e (suc i) ls)
    where
      later : (z : Line R) → Brought e (suc i) ls z → First (sent m b e i k) z
      later z w = inr (inr (ap (λ (y : Line R). y.back_arc) (sym w.is), omega (arith, w.place_is, ap (λ (y : Line R). y.back_line) w.is)))

  into_ascending : (v : ℕ) (es : List (Arc R)) (ls : List (Line R)) → ByNumber es → ((e : Arc R) → In e es → e.number < no_arc) → Ascending First (into m b v es ls)
  into_ascending v [] ls s h = tt
  into_ascending v (e ∷ es) ls s h =
      let rest : Ascending First (into m b v es ls) = into_ascending v es ls s.1 (λ a i. h a (Memᴰ.tail i)) in
      by_cond (Ascending First) (eqb e.to v) (over m b e 0 ls ++ into m b v es ls) (into m b v es ls)
      (λ _. append_ascending First (over m b e 0 ls) (into m b v es ls) (over_ascending e 0 ls) rest (λ x y i j. less x y (over_from e 0 ls x i) (into_from v es ls y j)))
      (λ _. rest)
    where
      less : (x y : Line R) → Brought e 0 ls x → ThroughArc v es ls y → First x y
      less x y w z =
          let p = ap (λ (l : Line R). l.back_arc) w.is in
          let q = ap (λ (l : Line R). l.back_arc) z.brought.is in
          inr (inl (omega (arith, p, q, all_in (λ k. e.number < k.number) es s.0 z.arc z.in_it), omega (arith, q, h z.arc (Memᴰ.tail z.in_it))))

  started_ascending : (v : ℕ) (o : Option R) → Ascending First (started v o)
  started_ascending v None = tt
  started_ascending v (Some x) = (tt, tt)

  pub candidates_ascending : ByNumber b.arcs → ((e : Arc R) → Live b e → e.number < no_arc) → (v : ℕ) → Ascending First (started v (b.start v) ++ into m b v b.arcs (arrivals m b v))
  candidates_ascending s h v =
      append_ascending First (started v (b.start v)) (into m b v b.arcs (arrivals m b v)) (started_ascending v (b.start v)) (into_ascending v b.arcs (arrivals m b v) s h)
      (λ x y i j. inl (ap (λ (l : Line R). l.back_arc) (started_from v (b.start v) x i).2))

  -- ---- the last step of an arrival
  pub record LastStep (v s : ℕ) (x : R) : Type 0 where
    pub arc : Arc R
    pub tag : ℕ
    pub arrival : R
    pub live : Live b arc
    pub to_is : arc.to ≡ v
    pub may : T (passes b tag arc)
    pub tag_is : pass b tag arc ≡ s
    pub is : x ≡ m.plus arrival arc.row
    pub reaches : Reaches m b arc.from tag arrival

  last_step : (v s : ℕ) (x : R) → Reaches m b v s x → ((b.start v ≡ Some x) × (s ≡ 0)) ⊎ LastStep v s x
  last_step v s x (starts e) = inl (e, refl)
  last_step v s x (passed {s = r} {x = z} e k l p) = inr (record { arc = e; tag = r; arrival = z; live = l; to_is = refl; may = p; tag_is = refl; is = refl; reaches = k })

  -- the candidates for the lines of v
  abbrev pub candidates : ℕ → List (Line R)
  candidates v = started v (b.start v) ++ into m b v b.arcs (arrivals m b v)

  -- ---- soundness
  pub record Right (n : ℕ) (l : Line R) : Type 0 where
    pub node_below : l.node < n
    pub reached : Reaches m b l.node l.tag l.arrival

  pub line_right : (v : ℕ) → ((k : Line R) → In k (arrivals m b v) → Right v k) → (l : Line R) → In l (candidates v) → (l.node ≡ v) × Reaches m b l.node l.tag l.arrival
  line_right v below l i = go (Memᴰ.append_cases (started v (b.start v)) i)
    where
      go : In l (started v (b.start v)) ⊎ In l (into m b v b.arcs (arrivals m b v)) → (l.node ≡ v) × Reaches m b l.node l.tag l.arrival
      go (inl j) =
          let w = started_from v (b.start v) l j in
          (ap (λ (z : Line R). z.node) w.2, subst (λ (z : Line R). Reaches m b z.node z.tag z.arrival) (sym w.2) (starts w.1))
      go (inr j) =
          let w = into_from v b.arcs (arrivals m b v) l j in
          let o = w.brought in
          let r = (below o.by o.in_it).reached in (
            ap (λ (z : Line R). z.node) o.is ∙ w.to_is,
            subst (λ (z : Line R). Reaches m b z.node z.tag z.arrival) (sym o.is)
                (passed w.arc (subst (λ n. Reaches m b n o.by.tag o.by.arrival) o.at r) w.in_it o.may),
          )

  module _ (laws : Laws m) where
    pub fresh : (v : ℕ) (l : Line R) → In l (entered m (candidates v) []) → In l (candidates v)
    fresh v l i = go (entered_in m (candidates v) [] l i)
      where
        go : In l (candidates v) ⊎ In l [] → In l (candidates v)
        go (inl j) = j
        go (inr j) = in_nil l j

    pub arrivals_right : (n : ℕ) (l : Line R) → In l (arrivals m b n) → Right n l
    arrivals_right zero l i = in_nil l i
    arrivals_right (suc v) l i = go (Memᴰ.append_cases (arrivals m b v) i) (λ k j. arrivals_right v k j)
      where
        go : In l (arrivals m b v) ⊎ In l (entered m (candidates v) []) → ((k : Line R) → In k (arrivals m b v) → Right v k) → Right (suc v) l
        go (inl j) f = let w = f l j in record { node_below = omega (arith, w.node_below); reached = w.reached }
        go (inr j) f = let w = line_right v f l (fresh v l j) in record { node_below = omega (arith, w.0); reached = w.1 }

    -- ---- order
    tags_order : (v : ℕ) (ls : List (Line R)) → ByTag ls → ((l : Line R) → In l ls → l.node ≡ v) → InOrder ls
    tags_order v [] s h = tt
    tags_order v (l ∷ ls) s h = (
      in_all (Precedes l) ls (λ k i. inr (h l (Memᴰ.head refl) ∙ sym (h k (Memᴰ.tail i)), all_in (λ k'. l.tag < k'.tag) ls s.0 k i)),
      tags_order v ls s.1 (λ k i. h k (Memᴰ.tail i)),
    )

    order_append : (xs ys : List (Line R)) → InOrder xs → InOrder ys → ((x y : Line R) → In x xs → In y ys → x.node < y.node) → InOrder (xs ++ ys)
    order_append [] ys p q h = q
    order_append (x ∷ xs) ys p q h =
        (in_all (Precedes x) (xs ++ ys) (λ z i. go z (Memᴰ.append_cases xs i)), order_append xs ys p.1 q (λ z y i j. h z y (Memᴰ.tail i) j))
      where
        go : (z : Line R) → In z xs ⊎ In z ys → Precedes x z
        go z (inl i) = all_in (Precedes x) xs p.0 z i
        go z (inr i) = inl (h x z (Memᴰ.head refl) i)

    pub arrivals_order : (n : ℕ) → InOrder (arrivals m b n)
    arrivals_order zero = tt
    arrivals_order (suc v) =
        order_append (arrivals m b v) (entered m (candidates v) []) (arrivals_order v)
        (tags_order v (entered m (candidates v) []) (entered_sorted m (candidates v) [] tt) node_of)
        (λ x y i j. subst (λ n. x.node < n) (sym (node_of y j)) (arrivals_right v x i).node_below)
      where
        node_of : (l : Line R) → In l (entered m (candidates v) []) → l.node ≡ v
        node_of l i = (line_right v (arrivals_right v) l (fresh v l i)).0

    -- ---- completeness
    pub candidate_near : Tame m b laws → (v : ℕ) → v < 256 → (c : Line R) → In c (candidates v) → Near laws c.arrival
    candidate_near tame v h c i = let w = line_right v (arrivals_right v) c i in tame.reached c.node c.tag c.arrival (omega (arith, w.0)) w.1

    pub covers : Tame m b laws → Numbered b → (v : ℕ) → v < 256 → (c : Line R) → In c (candidates v) → Covered laws First (wins_order (λ l. l.back_arc) (λ l. l.back_line)) c (entered m (candidates v) [])
    covers tame num v h c i =
        entered_new laws First (wins_order (λ l. l.back_arc) (λ l. l.back_line)) (candidates v) [] (λ d j. omega (arith, candidate_near tame v h d j)) (λ l k. in_nil l k) (candidates_ascending num.0 num.1 v) (λ d l j k. in_nil l k) c i

    pub record Written (n v s : ℕ) (x : R) : Type 0 where
      pub line : Line R
      pub in_it : In line (arrivals m b n)
      pub node_is : line.node ≡ v
      pub tag_is : line.tag ≡ s
      pub later : Before m x line.arrival

    offered : Tame m b laws → Rising b → (v s : ℕ) (x : R) → v < 256 → Reaches m b v s x → ((u r : ℕ) (z : R) → u < v → Reaches m b u r z → Written v u r z)
        → ((b.start v ≡ Some x) × (s ≡ 0)) ⊎ LastStep v s x → (c : Line R) × In c (candidates v) × (c.tag ≡ s) × Before m x c.arrival
    offered tame rising v s x h r below (inl w) =
        let c : Line R = record { node = v; tag = 0; arrival = x; back_arc = no_arc; back_line = no_line } in
        (c, Memᴰ.append_left (into m b v b.arcs (arrivals m b v)) (subst (λ o. In c (started v o)) (sym w.0) (Memᴰ.head refl)), sym w.1, before_refl laws x (omega (arith, tame.reached v s x h r)))
    offered tame rising v s x h r below (inr w) =
        let e = w.arc in
        let low : e.from < v = subst (λ n. e.from < n) w.to_is (rising e w.live) in
        let k = below e.from w.tag w.arrival low w.reaches in
        let o = over_has e 0 (arrivals m b v) k.line k.in_it k.node_is (subst (λ t. T (passes b t e)) (sym k.tag_is) w.may) in
        let c = sent m b e o.0 k.line in (
          c,
          Memᴰ.append_right (started v (b.start v)) (into_has v b.arcs (arrivals m b v) e c w.live w.to_is o.1),
          ap (λ t. pass b t e) k.tag_is ∙ w.tag_is,
          subst (λ z. Before m z c.arrival) (sym w.is) (before_right laws w.arrival k.line.arrival e.row
              (tame.reached e.from w.tag w.arrival (omega arith) w.reaches)
              (tame.reached k.line.node k.line.tag k.line.arrival (omega (arith, k.node_is)) (arrivals_right v k.line k.in_it).reached)
              (omega (arith, tame.arcs e w.live)) k.later),
        )

    pub arrivals_complete : Tame m b laws → Numbered b → Rising b → (n : ℕ) → n ≤ 256 → (v s : ℕ) (x : R) → v < n → Reaches m b v s x → Written n v s x
    arrivals_complete tame num rising zero few v s x h r = absurd (omega arith)
    arrivals_complete tame num rising (suc n) few v s x h r = go (cases_lt v n) (λ u t z h' r'. arrivals_complete tame num rising n (omega arith) u t z h' r')
      where
        now : v ≡ n → ((u t : ℕ) (z : R) → u < n → Reaches m b u t z → Written n u t z) → Written (suc n) v s x
        now e f =
            let r' = subst (λ u. Reaches m b u s x) e r in
            let below : n < 256 = omega arith in
            let c = offered tame rising n s x below r' f (last_step n s x r') in
            let k = covers tame num n below c.0 c.1 in
            let i = fresh n k.by k.in_it in
            record {
              line = k.by;
              in_it = Memᴰ.append_right (arrivals m b n) k.in_it;
              node_is = (line_right n (arrivals_right n) k.by i).0 ∙ sym e;
              tag_is = k.tag_is ∙ c.2;
              later = laws.chain x c.0.arrival k.by.arrival (omega (arith, tame.reached n s x below r')) (omega (arith, candidate_near tame n below c.0 c.1)) k.fine c.3 k.later;
            }

        go : (v < n) ⊎ (n ≤ v) → ((u t : ℕ) (z : R) → u < n → Reaches m b u t z → Written n u t z) → Written (suc n) v s x
        go (inl h') f =
            let w = f v s x h' r in
            record { line = w.line; in_it = Memᴰ.append_left (entered m (candidates n) []) w.in_it; node_is = w.node_is; tag_is = w.tag_is; later = w.later }
        go (inr h') f = now (omega arith) f
