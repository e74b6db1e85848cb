-- What is said of a sheet determines it.
use Rattle.std.proofs.Common.{◌≡◌, ℕ, zero, suc, ◌<◌, ◌≤◌, T, ◌⊎◌, List, [], ◌∷◌, Some, None, Option, sym, refl, ap, ◌∙◌, subst, ap₂, subst₂, inl, inr, arith}
use mathlib.Core.List.Memᴰ
use Rattle.paths.specs.Rows.{Rows, minus}
use Rattle.paths.specs.Blocks.{Arc, RowBlock, Live, pass, passes}
use Rattle.paths.specs.Times.{Reaches, Asked, Arrival, Required, TagSlack}
use Rattle.paths.specs.Sheets.{Line, Told, Timed, lines, no_arc, no_line, row_of}
use Rattle.paths.specs.Relations.{Precedes, InOrder, Wins, Link, by_start, by_arc, Ask, by_end, by_line, RequiredIs, RightLine, RightLines, BackLinks, ForeLinks, SlackLine, IsSheet, IsEntry}
use Rattle.paths.proofs.RowLaws.{Laws, Fine, minus_fine}
use Rattle.paths.proofs.Small.{Given, tame}
use Rattle.paths.proofs.Choosing.{In, At, in_nil, all_in, none_some, some_is}

-- ---- lines that differ in their links at most
pub record Same {R : Type 0} (t u : Timed R) : Type 0 where
  pub node_is : t.line.node ≡ u.line.node
  pub tag_is : t.line.tag ≡ u.line.tag
  pub arrival_is : t.line.arrival ≡ u.line.arrival
  pub required_is : row_of t.required ≡ row_of u.required

abbrev Alike : {R : Type 0} → List (Timed R) → List (Timed R) → Type 0
Alike [] [] = Unit {0}
Alike [] (u ∷ us) = ⊥
Alike (t ∷ ts) [] = ⊥
Alike (t ∷ ts) (u ∷ us) = Same t u × Alike ts us

-- one key: node and tag
abbrev Key : {R : Type 0} → Timed R → Timed R → Type 0
Key t u = (t.line.node ≡ u.line.node) × (t.line.tag ≡ u.line.tag)

module _ {R : Type 0} where
  same_back : (t u : Timed R) → Same t u → Same u t
  same_back t u s = record { node_is = sym s.node_is; tag_is = sym s.tag_is; arrival_is = sym s.arrival_is; required_is = sym s.required_is }

  alike_back : (ts us : List (Timed R)) → Alike ts us → Alike us ts
  alike_back [] [] a = tt
  alike_back [] (u ∷ us) a = absurd a
  alike_back (t ∷ ts) [] a = absurd a
  alike_back (t ∷ ts) (u ∷ us) a = (same_back t u a.0, alike_back ts us a.1)

  alike_at : (ts us : List (Timed R)) → Alike ts us → (i : ℕ) (t : Timed R) → At ts i t → (u : Timed R) × At us i u × Same t u
  alike_at [] us a i t e = absurd (none_some t e)
  alike_at (x ∷ ts) [] a i t e = absurd a
  alike_at (x ∷ ts) (u ∷ us) a zero t e = (u, refl, subst (λ z. Same z u) (some_is x t e) a.0)
  alike_at (x ∷ ts) (u ∷ us) a (suc i) t e = alike_at ts us a.1 i t e

  at_line : (ts : List (Timed R)) (i : ℕ) (l : Line R) → At (lines ts) i l → (t : Timed R) × At ts i t × (t.line ≡ l)
  at_line [] i l e = absurd (none_some l e)
  at_line (t ∷ ts) zero l e = (t, refl, some_is t.line l e)
  at_line (t ∷ ts) (suc i) l e = at_line ts i l e

  line_at : (ts : List (Timed R)) (i : ℕ) (t : Timed R) → At ts i t → At (lines ts) i t.line
  line_at [] i t e = absurd (none_some t e)
  line_at (u ∷ ts) zero t e = ap (λ (z : Timed R). Some z.line) (some_is u t e)
  line_at (u ∷ ts) (suc i) t e = line_at ts i t e

  in_lines : (ts : List (Timed R)) (t : Timed R) → In t ts → In t.line (lines ts)
  in_lines [] t i = in_nil t i
  in_lines (u ∷ ts) t i = go (Memᴰ.cases_cons i) (λ j. in_lines ts t j)
    where
      go : (t ≡ u) ⊎ In t ts → (In t ts → In t.line (lines ts)) → In t.line (lines (u ∷ ts))
      go (inl e) f = Memᴰ.head (ap (λ (z : Timed R). z.line) e)
      go (inr j) f = Memᴰ.tail (f j)

  alike_equal : (ts us : List (Timed R)) → Alike ts us → ((t u : Timed R) → In t ts → In u us → Same t u → t ≡ u) → ts ≡ us
  alike_equal [] [] a f = refl
  alike_equal [] (u ∷ us) a f = absurd a
  alike_equal (t ∷ ts) [] a f = absurd a
  alike_equal (t ∷ ts) (u ∷ us) a f =
      ap₂ (λ x xs. x ∷ xs) (f t u (Memᴰ.head refl) (Memᴰ.head refl) a.0)
      (alike_equal ts us a.1 (λ x y i j s. f x y (Memᴰ.tail i) (Memᴰ.tail j) s))

  -- ---- lists in order with the same keys
  ahead : (t x y : Timed R) → Precedes t.line x.line → Key x y → Precedes t.line y.line
  ahead t x y (inl h) k = inl (omega (arith, h, k.0))
  ahead t x y (inr h) k = inr (h.0 ∙ k.0, omega (arith, h.1, k.1))

  cycle : (t x : Timed R) → Precedes t.line x.line → Precedes x.line t.line → ⊥
  cycle t x (inl h) (inl k) = omega (arith, h, k)
  cycle t x (inl h) (inr k) = omega (arith, h, k.0)
  cycle t x (inr h) (inl k) = omega (arith, h.0, k)
  cycle t x (inr h) (inr k) = omega (arith, h.1, k.1)

  apart : (t x : Timed R) → Precedes t.line x.line → Key t x → ⊥
  apart t x (inl h) k = omega (arith, h, k.0)
  apart t x (inr h) k = omega (arith, h.1, k.1)

  key_back : (t x : Timed R) → Key t x → Key x t
  key_back t x k = (sym k.0, sym k.1)

  key_chain : (t x y : Timed R) → Key t x → Key x y → Key t y
  key_chain t x y k h = (k.0 ∙ h.0, k.1 ∙ h.1)

  abbrev Matched : List (Timed R) → List (Timed R) → Type 0
  Matched ts us = (t : Timed R) → In t ts → (u : Timed R) × In u us × Key t u

  behind : (t : Timed R) (ts : List (Timed R)) → InOrder (lines (t ∷ ts)) → (x : Timed R) → In x ts → Precedes t.line x.line
  behind t ts o x i = all_in (Precedes t.line) (lines ts) o.0 x.line (in_lines ts x i)

  -- the first lines have one key
  heads : (t u : Timed R) (ts us : List (Timed R)) → InOrder (lines (t ∷ ts)) → InOrder (lines (u ∷ us)) → Matched (t ∷ ts) (u ∷ us) → Matched (u ∷ us) (t ∷ ts) → Key t u
  heads t u ts us o p f g = go (f t (Memᴰ.head refl)) (g u (Memᴰ.head refl))
    where
      both : (x : Timed R) → In x us → Key t x → (y : Timed R) × In y (t ∷ ts) × Key u y → Key t u
      both x j k w = last (Memᴰ.cases_cons w.1)
        where
          u_first : Precedes u.line t.line
          u_first = ahead u x t (behind u us p x j) (key_back t x k)

          last : (w.0 ≡ t) ⊎ In w.0 ts → Key t u
          last (inl e) = absurd (apart u t u_first (subst (λ z. Key u z) e w.2))
          last (inr i) = absurd (cycle u t u_first (ahead t w.0 u (behind t ts o w.0 i) (key_back u w.0 w.2)))

      go : (x : Timed R) × In x (u ∷ us) × Key t x → (y : Timed R) × In y (t ∷ ts) × Key u y → Key t u
      go v w = first (Memᴰ.cases_cons v.1)
        where
          first : (v.0 ≡ u) ⊎ In v.0 us → Key t u
          first (inl e) = subst (λ z. Key t z) e v.2
          first (inr j) = both v.0 j v.2 w

  -- and the others match each other
  tails : (t u : Timed R) (ts us : List (Timed R)) → InOrder (lines (t ∷ ts)) → Key t u → Matched (t ∷ ts) (u ∷ us) → Matched ts us
  tails t u ts us o k f x i = go (f x (Memᴰ.tail i))
    where
      go : (y : Timed R) × In y (u ∷ us) × Key x y → (y : Timed R) × In y us × Key x y
      go w = split (Memᴰ.cases_cons w.1)
        where
          split : (w.0 ≡ u) ⊎ In w.0 us → (y : Timed R) × In y us × Key x y
          split (inl e) = absurd (apart t x (behind t ts o x i) (key_back x t (key_chain x u t (subst (λ z. Key x z) e w.2) (key_back t u k))))
          split (inr j) = (w.0, j, w.2)

  match : (ts us : List (Timed R)) → InOrder (lines ts) → InOrder (lines us) → Matched ts us → Matched us ts → ((t u : Timed R) → In t ts → In u us → Key t u → Same t u) → Alike ts us
  match [] [] o p f g same = tt
  match [] (u ∷ us) o p f g same = let w = g u (Memᴰ.head refl) in in_nil w.0 w.1
  match (t ∷ ts) [] o p f g same = let w = f t (Memᴰ.head refl) in in_nil w.0 w.1
  match (t ∷ ts) (u ∷ us) o p f g same =
      let k : Key t u = heads t u ts us o p f g in (
        same t u (Memᴰ.head refl) (Memᴰ.head refl) k,
        match ts us o.1 p.1 (tails t u ts us o k f) (tails u t us ts p (key_back t u k) g) (λ x y i j q. same x y (Memᴰ.tail i) (Memᴰ.tail j) q),
      )

-- ---- two links of which each wins over the other are one
one_link : (a i c j : ℕ) → (a ≡ no_arc → i ≡ no_line) → (c ≡ no_arc → j ≡ no_line) → Wins a i c j → Wins c j a i → (a ≡ c) × (i ≡ j)
one_link a i c j p q (inl e) (inl d) = (e ∙ sym d, p e ∙ sym (q d))
one_link a i c j p q (inl e) (inr (inl h)) = absurd (omega (arith, e, h.1))
one_link a i c j p q (inl e) (inr (inr h)) = (sym h.0, p e ∙ sym (q (h.0 ∙ e)))
one_link a i c j p q (inr (inl h)) (inl d) = absurd (omega (arith, d, h.1))
one_link a i c j p q (inr (inl h)) (inr (inl k)) = absurd (omega (arith, h.0, k.0))
one_link a i c j p q (inr (inl h)) (inr (inr k)) = absurd (omega (arith, h.0, k.0))
one_link a i c j p q (inr (inr h)) (inl d) = (h.0, p (h.0 ∙ d) ∙ sym (q d))
one_link a i c j p q (inr (inr h)) (inr (inl k)) = absurd (omega (arith, h.0, k.0))
one_link a i c j p q (inr (inr h)) (inr (inr k)) = (h.0, omega (arith, h.1, k.1))

module _ {R : Type 0} (m : Rows R) (b : RowBlock R) (numbered : (e : Arc R) → Live b e → e.number < no_arc) where
  -- ---- links over lines that are alike
  link_marks : (ls : List (Line R)) (v s : ℕ) (x : R) (a i : ℕ) → Link m b ls v s x a i → a ≡ no_arc → i ≡ no_line
  link_marks ls v s x a i (by_start e z) h = refl
  link_marks ls v s x a i (by_arc e j k live stands at to may tag arrival) h = absurd (omega (arith, numbered e live, h))

  link_over : (ts us : List (Timed R)) → Alike ts us → (v s : ℕ) (x : R) (a i : ℕ) → Link m b (lines ts) v s x a i → Link m b (lines us) v s x a i
  link_over ts us alike v s x a i (by_start e z) = by_start e z
  link_over ts us alike v s x a i (by_arc e j k live stands at to may tag arrival) =
      let t = at_line ts j k stands in
      let u = alike_at ts us alike j t.0 t.1 in
      let same = u.2 in
      let tag_is : u.0.line.tag ≡ k.tag = sym same.tag_is ∙ ap (λ (z : Line R). z.tag) t.2 in
      by_arc e j u.0.line live (line_at us j u.0 u.1)
      (sym same.node_is ∙ ap (λ (z : Line R). z.node) t.2 ∙ at)
      to
      (subst (λ r. T (passes b r e)) (sym tag_is) may)
      (ap (λ r. pass b r e) tag_is ∙ tag)
      (ap (λ r. m.plus r e.row) (sym same.arrival_is ∙ ap (λ (z : Line R). z.arrival) t.2) ∙ arrival)

  ask_marks : (ts : List (Timed R)) (v s : ℕ) (y : R) (a i : ℕ) → Ask m b ts v s y a i → a ≡ no_arc → i ≡ no_line
  ask_marks ts v s y a i (by_end e) h = refl
  ask_marks ts v s y a i (by_line e j t z live from may stands node tag req row) h = absurd (omega (arith, numbered e live, h))

  told_row : (o : Option (Told R)) (z : Told R) → row_of o ≡ Some z.row → (y : Told R) × (o ≡ Some y) × (y.row ≡ z.row)
  told_row None z e = absurd (none_some z.row e)
  told_row (Some y) z e = (y, refl, some_is y.row z.row e)

  ask_over_lem : (ts us : List (Timed R)) → Alike ts us → (v s : ℕ) (y : R) (a i : ℕ) → Ask m b ts v s y a i → Ask m b us v s y a i
  ask_over_lem ts us alike v s y a i (by_end e) = by_end e
  ask_over_lem ts us alike v s y a i (by_line e j t z live from may stands node tag req row) =
      let u = alike_at ts us alike j t stands in
      let same = u.2 in
      let r = told_row u.0.required z (sym same.required_is ∙ ap row_of req) in
      by_line e j u.0 r.0 live from may u.1 (sym same.node_is ∙ node) (sym same.tag_is ∙ tag) r.1
      (ap (λ q. minus m q e.row) r.2 ∙ row)

  -- ---- so the links are the same
  module _ (ts us : List (Timed R)) (alike : Alike ts us) (bt : BackLinks m b ts) (bu : BackLinks m b us) (ft : ForeLinks m b ts) (fu : ForeLinks m b us) where
    same_line : (t u : Timed R) → In t ts → In u us → Same t u → t.line ≡ u.line
    same_line t u i j s =
        let p = bt t.line (in_lines ts t i) in
        let q = bu u.line (in_lines us u j) in
        let here : Link m b (lines us) u.line.node u.line.tag u.line.arrival t.line.back_arc t.line.back_line =
        moved (lines us) t.line u.line s.node_is s.tag_is s.arrival_is t.line.back_arc t.line.back_line (link_over ts us alike t.line.node t.line.tag t.line.arrival t.line.back_arc t.line.back_line p.0) in
        let there : Link m b (lines ts) t.line.node t.line.tag t.line.arrival u.line.back_arc u.line.back_line =
        moved (lines ts) u.line t.line (sym s.node_is) (sym s.tag_is) (sym s.arrival_is) u.line.back_arc u.line.back_line
        (link_over us ts (alike_back ts us alike) u.line.node u.line.tag u.line.arrival u.line.back_arc u.line.back_line q.0) in
        let e = one_link t.line.back_arc t.line.back_line u.line.back_arc u.line.back_line
        (link_marks (lines ts) t.line.node t.line.tag t.line.arrival t.line.back_arc t.line.back_line p.0)
        (link_marks (lines us) u.line.node u.line.tag u.line.arrival u.line.back_arc u.line.back_line q.0)
        (p.1 u.line.back_arc u.line.back_line there) (q.1 t.line.back_arc t.line.back_line here) in
        λ k. record { node = s.node_is k; tag = s.tag_is k; arrival = s.arrival_is k; back_arc = e.0 k; back_line = e.1 k }
      where
        moved : (ls : List (Line R)) (x y : Line R) → x.node ≡ y.node → x.tag ≡ y.tag → x.arrival ≡ y.arrival → (a k : ℕ) → Link m b ls x.node x.tag x.arrival a k → Link m b ls y.node y.tag y.arrival a k
        moved ls x y n g r a k h = subst (λ z. Link m b ls y.node y.tag z a k) r (subst₂ (λ v w. Link m b ls v w x.arrival a k) n g h)

    same_required : (t u : Timed R) → In t ts → In u us → Same t u → t.required ≡ u.required
    same_required t u i j s = go t.required refl u.required refl s.required_is
      where
        moved : (xs : List (Timed R)) (x y : Timed R) (p q : R) → x.line.node ≡ y.line.node → x.line.tag ≡ y.line.tag → p ≡ q → (a k : ℕ)
            → Ask m b xs x.line.node x.line.tag p a k → Ask m b xs y.line.node y.line.tag q a k
        moved xs x y p q n g r a k h = subst (λ z. Ask m b xs y.line.node y.line.tag z a k) r (subst₂ (λ v w. Ask m b xs v w p a k) n g h)

        told : (y z : Told R) → t.required ≡ Some y → u.required ≡ Some z → y.row ≡ z.row → y ≡ z
        told y z d e r =
            let p = ft t y i d in
            let q = fu u z j e in
            let here = moved us t u y.row z.row s.node_is s.tag_is r y.arc y.line (ask_over_lem ts us alike t.line.node t.line.tag y.row y.arc y.line p.0) in
            let there = moved ts u t z.row y.row (sym s.node_is) (sym s.tag_is) (sym r) z.arc z.line
            (ask_over_lem us ts (alike_back ts us alike) u.line.node u.line.tag z.row z.arc z.line q.0) in
            let k = one_link y.arc y.line z.arc z.line
            (ask_marks ts t.line.node t.line.tag y.row y.arc y.line p.0)
            (ask_marks us u.line.node u.line.tag z.row z.arc z.line q.0)
            (p.1 z.arc z.line there) (q.1 y.arc y.line here) in
            λ h. record { row = r h; arc = k.0 h; line = k.1 h }

        go : (o : Option (Told R)) → t.required ≡ o → (o' : Option (Told R)) → u.required ≡ o' → row_of o ≡ row_of o' → o ≡ o'
        go None d None e r = refl
        go None d (Some z) e r = absurd (none_some z.row r)
        go (Some y) d None e r = absurd (none_some y.row (sym r))
        go (Some y) d (Some z) e r = ap Some (told y z d e (some_is y.row z.row r))

    same_timed : (t u : Timed R) → In t ts → In u us → Same t u → t ≡ u
    same_timed t u i j s = λ k. record { line = same_line t u i j s k; required = same_required t u i j s k }

module _ {R : Type 0} (m : Rows R) (b : RowBlock R) (n : ℕ) (given : Given m b n) where
  abbrev laws : Laws m
  laws = given.laws

  -- the rows of a node and tag are determined
  one_arrival : (v s : ℕ) (x y : R) → v < n → Arrival m b v s x → Arrival m b v s y → x ≡ y
  one_arrival v s x y h p q =
      let fine : (z : R) → Reaches m b v s z → Fine laws z = λ z r. omega (arith, (tame given).reached v s z (omega (arith, h, given.few)) r) in
      laws.same x y (fine x p.reached) (fine y q.reached) (q.latest x p.reached) (p.latest y q.reached)

  one_required : (v s : ℕ) (x y : R) → v < n → Required m b v s x → Required m b v s y → x ≡ y
  one_required v s x y h p q =
      let fine : (z : R) → Asked m b v s z → Fine laws z = λ z r. omega (arith, (tame given).asked v s z (omega (arith, h, given.few)) r) in
      laws.same x y (fine x p.asked) (fine y q.asked) (p.earliest y q.asked) (q.earliest x p.asked)

  one_option : (v s : ℕ) (o p : Option R) → v < n → RequiredIs m b v s o → RequiredIs m b v s p → o ≡ p
  one_option v s None None h f g = refl
  one_option v s None (Some y) h f g = absurd (f y g.asked)
  one_option v s (Some x) None h f g = absurd (g x f.asked)
  one_option v s (Some x) (Some y) h f g = ap Some (one_required v s x y h f g)

  one_key : (t u : Timed R) → RightLine m b n t → RightLine m b n u → Key t u → Same t u
  one_key t u p q k =
      let v = u.line.node in
      let s = u.line.tag in
      record {
        node_is = k.0;
        tag_is = k.1;
        arrival_is = one_arrival v s t.line.arrival u.line.arrival q.0 (subst₂ (λ c d. Arrival m b c d t.line.arrival) k.0 k.1 p.1) q.1;
        required_is = one_option v s (row_of t.required) (row_of u.required) q.0 (subst₂ (λ c d. RequiredIs m b c d (row_of t.required)) k.0 k.1 p.2) q.2;
      }

  matched : (ts us : List (Timed R)) → RightLines m b n ts → RightLines m b n us → Matched ts us
  matched ts us p q t i =
      let r = p.right t i in
      let w = q.whole t.line.node t.line.tag t.line.arrival r.0 r.1.reached in
      (w.0, w.1, (sym w.2, sym w.3))

  pub one_sheet : (ts us : List (Timed R)) → IsSheet m b n ts → IsSheet m b n us → ts ≡ us
  one_sheet ts us p q =
      let alike : Alike ts us =
      match ts us p.right.order q.right.order (matched ts us p.right q.right) (matched us ts q.right p.right)
      (λ t u i j k. one_key t u (p.right.right t i) (q.right.right u j) k) in
      alike_equal ts us alike (same_timed m b given.numbered ts us alike p.backs q.backs p.fores q.fores)

  -- ---- the entries of the node table
  slack_fine : (v : ℕ) (x : R) → v < n → TagSlack m b v x → Fine laws x
  slack_fine v x h w =
      let low : v < 256 = omega (arith, h, given.few) in
      subst (λ z. Fine laws z) (sym w.is)
      (minus_fine laws w.required w.arrival ((tame given).asked v w.tag w.required low w.requires.asked) ((tame given).reached v w.tag w.arrival low w.arrives.reached))

  pub one_entry : (ts : List (Timed R)) (v : ℕ) → v < n → (o p : Option (Told R)) → IsEntry m b ts v o → IsEntry m b ts v p → o ≡ p
  one_entry ts v h None None f g = refl
  one_entry ts v h None (Some c) f g = absurd (f c.row g.0.0)
  one_entry ts v h (Some a) None f g = absurd (g a.row f.0.0)
  one_entry ts v h (Some a) (Some c) f g =
      let r : a.row ≡ c.row = laws.same a.row c.row (slack_fine v a.row h f.0.0) (slack_fine v c.row h g.0.0) (f.0.1 c.row g.0.0) (g.0.1 a.row f.0.0) in
      let low : a.line ≤ c.line = f.1.lowest c.line (subst (λ x. SlackLine m ts v x c.line) (sym r) g.1.own) in
      let low' : c.line ≤ a.line = g.1.lowest a.line (subst (λ x. SlackLine m ts v x a.line) r f.1.own) in
      let l : a.line ≡ c.line = omega (arith, low, low') in
      let arc : a.arc ≡ c.arc = f.1.unlinked ∙ sym g.1.unlinked in
      λ i. Some (record { row = r i; arc = arc i; line = l i })
