-- A line that enters the lines of its node: they stay sorted by tag, and of each tag the latest is there.
use Rattle.std.proofs.Common.{◌≡◌, ℕ, ◌<◌, cond, not, T, ltb, ◌⊎◌, List, [], ◌∷◌, sym, refl, ap, ◌∙◌, subst, inl, inr, arith, ltb→lt, nltb→le, T_not}
use mathlib.Core.List.Memᴰ
use Rattle.std.specs.List.{AllByRecursion}
use Rattle.paths.specs.Rows.{Rows, Before}
use Rattle.paths.specs.Sheets.{Line, enter, entered}
use Rattle.paths.specs.Relations.{ByTag}
use Rattle.paths.proofs.RowLaws.{Laws, Fine, before_refl}
use Rattle.paths.proofs.Choosing.{Orders, Ascending, In, in_nil, by_cond, all_in, in_all}

module _ {R : Type 0} (m : Rows R) where
  -- nothing but c comes in
  enter_in : (c : Line R) (ls : List (Line R)) (x : Line R) → In x (enter m c ls) → (x ≡ c) ⊎ In x ls
  enter_in c [] x = λ i. Memᴰ.cases_cons i
  enter_in c (l ∷ ls) x =
      by_cond Keeps (ltb c.tag l.tag) (c ∷ (l ∷ ls)) (cond (ltb l.tag c.tag) (l ∷ enter m c ls) (cond (m.not_later c.arrival l.arrival) (l ∷ ls) (c ∷ ls)))
      (λ _ i. Memᴰ.cases_cons i)
      (λ _. by_cond Keeps (ltb l.tag c.tag) (l ∷ enter m c ls) (cond (m.not_later c.arrival l.arrival) (l ∷ ls) (c ∷ ls))
      (λ _ i. below (Memᴰ.cases_cons i) (λ j. enter_in c ls x j))
      (λ _. by_cond Keeps (m.not_later c.arrival l.arrival) (l ∷ ls) (c ∷ ls)
      (λ _ i. inr i)
      (λ _ i. past (Memᴰ.cases_cons i))))
    where
      Keeps : List (Line R) → Type 0
      Keeps ks = In x ks → (x ≡ c) ⊎ In x (l ∷ ls)

      past : (x ≡ c) ⊎ In x ls → (x ≡ c) ⊎ In x (l ∷ ls)
      past (inl e) = inl e
      past (inr j) = inr (Memᴰ.tail j)

      below : (x ≡ l) ⊎ In x (enter m c ls) → (In x (enter m c ls) → (x ≡ c) ⊎ In x ls) → (x ≡ c) ⊎ In x (l ∷ ls)
      below (inl e) f = inr (Memᴰ.head e)
      below (inr j) f = past (f j)

  enter_above : (d : ℕ) (c : Line R) (ls : List (Line R)) → d < c.tag → AllByRecursion (λ k. d < k.tag) ls → AllByRecursion (λ k. d < k.tag) (enter m c ls)
  enter_above d c ls h all = in_all (λ k. d < k.tag) (enter m c ls) (λ x i. go x (enter_in c ls x i))
    where
      go : (x : Line R) → (x ≡ c) ⊎ In x ls → d < x.tag
      go x (inl e) = subst (λ (z : Line R). d < z.tag) (sym e) h
      go x (inr j) = all_in (λ k. d < k.tag) ls all x j

  enter_sorted : (c : Line R) (ls : List (Line R)) → ByTag ls → ByTag (enter m c ls)
  enter_sorted c [] s = (tt, tt)
  enter_sorted c (l ∷ ls) s =
      by_cond ByTag (ltb c.tag l.tag) (c ∷ (l ∷ ls)) (cond (ltb l.tag c.tag) (l ∷ enter m c ls) (cond (m.not_later c.arrival l.arrival) (l ∷ ls) (c ∷ ls)))
      (λ h. ((ltb→lt c.tag l.tag h, in_all (λ k. c.tag < k.tag) ls (λ x i. lower (ltb→lt c.tag l.tag h) x i)), s))
      (λ nh. by_cond ByTag (ltb l.tag c.tag) (l ∷ enter m c ls) (cond (m.not_later c.arrival l.arrival) (l ∷ ls) (c ∷ ls))
      (λ k. (enter_above l.tag c ls (ltb→lt l.tag c.tag k) s.0, enter_sorted c ls s.1))
      (λ nk. by_cond ByTag (m.not_later c.arrival l.arrival) (l ∷ ls) (c ∷ ls)
      (λ _. s)
      (λ _. (subst (λ t. AllByRecursion (λ k. t < k.tag) ls) (equal nh nk) s.0, s.1))))
    where
      lower : c.tag < l.tag → (x : Line R) → In x ls → c.tag < x.tag
      lower h x i = omega (arith, all_in (λ k. l.tag < k.tag) ls s.0 x i)

      equal : T (not (ltb c.tag l.tag)) → T (not (ltb l.tag c.tag)) → l.tag ≡ c.tag
      equal nh nk = omega (arith, nltb→le c.tag l.tag nh, nltb→le l.tag c.tag nk)

  pub entered_in : (cs ls : List (Line R)) (x : Line R) → In x (entered m cs ls) → In x cs ⊎ In x ls
  entered_in [] ls x i = inr i
  entered_in (c ∷ cs) ls x i = go (entered_in cs (enter m c ls) x i)
    where
      came : (x ≡ c) ⊎ In x ls → In x (c ∷ cs) ⊎ In x ls
      came (inl e) = inl (Memᴰ.head e)
      came (inr j) = inr j

      go : In x cs ⊎ In x (enter m c ls) → In x (c ∷ cs) ⊎ In x ls
      go (inl j) = inl (Memᴰ.tail j)
      go (inr j) = came (enter_in c ls x j)

  pub entered_sorted : (cs ls : List (Line R)) → ByTag ls → ByTag (entered m cs ls)
  entered_sorted [] ls s = s
  entered_sorted (c ∷ cs) ls s = entered_sorted cs (enter m c ls) (enter_sorted c ls s)

module _ {R : Type 0} {m : Rows R} (laws : Laws m) where
  -- arrivals that the order's laws are about
  abbrev pub LinesFine : List (Line R) → Type 0
  LinesFine ls = (x : Line R) → In x ls → Fine laws x.arrival

  pub enter_fine : (c : Line R) (ls : List (Line R)) → Fine laws c.arrival → LinesFine ls → LinesFine (enter m c ls)
  enter_fine c ls fc fine x i = go (enter_in m c ls x i)
    where
      go : (x ≡ c) ⊎ In x ls → Fine laws x.arrival
      go (inl e) = subst (λ (z : Line R). Fine laws z.arrival) (sym e) fc
      go (inr j) = fine x j

module _ {R : Type 0} {m : Rows R} (laws : Laws m) (First : Line R → Line R → Type 0) (orders : Orders First) where
  -- some line of ls has c's tag and is no earlier; if it is no later either, it wins
  pub record Covered (c : Line R) (ls : List (Line R)) : Type 0 where
    pub by : Line R
    pub in_it : In by ls
    pub fine : Fine laws by.arrival
    pub tag_is : by.tag ≡ c.tag
    pub later : Before m c.arrival by.arrival
    pub wins : Before m by.arrival c.arrival → First by c

  covered_self : (c : Line R) (ls : List (Line R)) → Fine laws c.arrival → In c ls → Covered c ls
  covered_self c ls f i = record { by = c; in_it = i; fine = f; tag_is = refl; later = before_refl laws c.arrival f; wins = λ _. orders.itself c }

  covered_tail : (c l : Line R) (ls : List (Line R)) → Covered c ls → Covered c (l ∷ ls)
  covered_tail c l ls w = record { by = w.by; in_it = Memᴰ.tail w.in_it; fine = w.fine; tag_is = w.tag_is; later = w.later; wins = w.wins }

  strictly : (x y : R) → Fine laws x → Fine laws y → T (not (m.not_later x y)) → Before m y x
  strictly x y fx fy n = go (laws.either x y fx fy)
    where
      go : Before m x y ⊎ Before m y x → Before m y x
      go (inl h) = absurd (T_not (m.not_later x y) n h)
      go (inr h) = h

  enter_new : (c : Line R) (ls : List (Line R)) → Fine laws c.arrival → LinesFine laws ls → AllByRecursion (λ l. First l c) ls → Covered c (enter m c ls)
  enter_new c [] fc fine f = covered_self c (c ∷ []) fc (Memᴰ.head refl)
  enter_new c (l ∷ ls) fc fine f =
      by_cond (Covered c) (ltb c.tag l.tag) (c ∷ (l ∷ ls)) (cond (ltb l.tag c.tag) (l ∷ enter m c ls) (cond (m.not_later c.arrival l.arrival) (l ∷ ls) (c ∷ ls)))
      (λ _. covered_self c (c ∷ (l ∷ ls)) fc (Memᴰ.head refl))
      (λ nh. by_cond (Covered c) (ltb l.tag c.tag) (l ∷ enter m c ls) (cond (m.not_later c.arrival l.arrival) (l ∷ ls) (c ∷ ls))
      (λ _. covered_tail c l (enter m c ls) (enter_new c ls fc (λ x i. fine x (Memᴰ.tail i)) f.1))
      (λ nk. by_cond (Covered c) (m.not_later c.arrival l.arrival) (l ∷ ls) (c ∷ ls)
      (λ h. record { by = l; in_it = Memᴰ.head refl; fine = fine l (Memᴰ.head refl); tag_is = omega (arith, nltb→le c.tag l.tag nh, nltb→le l.tag c.tag nk); later = h; wins = λ _. f.0 })
      (λ _. covered_self c (c ∷ ls) fc (Memᴰ.head refl))))

  enter_old : (c : Line R) (ls : List (Line R)) → Fine laws c.arrival → LinesFine laws ls → (x : Line R) → In x ls → Covered x (enter m c ls)
  enter_old c [] fc fine x i = in_nil x i
  enter_old c (l ∷ ls) fc fine x i =
      by_cond (Covered x) (ltb c.tag l.tag) (c ∷ (l ∷ ls)) (cond (ltb l.tag c.tag) (l ∷ enter m c ls) (cond (m.not_later c.arrival l.arrival) (l ∷ ls) (c ∷ ls)))
      (λ _. covered_self x (c ∷ (l ∷ ls)) fx (Memᴰ.tail i))
      (λ nh. by_cond (Covered x) (ltb l.tag c.tag) (l ∷ enter m c ls) (cond (m.not_later c.arrival l.arrival) (l ∷ ls) (c ∷ ls))
      (λ _. below (Memᴰ.cases_cons i) (λ j. enter_old c ls fc (λ y k. fine y (Memᴰ.tail k)) x j))
      (λ nk. by_cond (Covered x) (m.not_later c.arrival l.arrival) (l ∷ ls) (c ∷ ls)
      (λ _. covered_self x (l ∷ ls) fx i)
      (λ n. replaced n (omega (arith, nltb→le c.tag l.tag nh, nltb→le l.tag c.tag nk)) (strictly c.arrival l.arrival fc (fine l (Memᴰ.head refl)) n) (Memᴰ.cases_cons i))))
    where
      fx : Fine laws x.arrival
      fx = fine x i

      below : (x ≡ l) ⊎ In x ls → (In x ls → Covered x (enter m c ls)) → Covered x (l ∷ enter m c ls)
      below (inl e) f = covered_self x (l ∷ enter m c ls) fx (Memᴰ.head e)
      below (inr j) f = covered_tail x l (enter m c ls) (f j)

      replaced : T (not (m.not_later c.arrival l.arrival)) → c.tag ≡ l.tag → Before m l.arrival c.arrival → (x ≡ l) ⊎ In x ls → Covered x (c ∷ ls)
      replaced n t h (inl e) =
          record {
            by = c;
            in_it = Memᴰ.head refl;
            fine = fc;
            tag_is = t ∙ ap (λ (z : Line R). z.tag) (sym e);
            later = subst (λ (z : Line R). Before m z.arrival c.arrival) (sym e) h;
            wins = λ k. absurd (T_not (m.not_later c.arrival l.arrival) n (subst (λ (z : Line R). Before m c.arrival z.arrival) e k));
          }
      replaced n t h (inr j) = covered_self x (c ∷ ls) fx (Memᴰ.tail j)

  -- ---- all of them, one after another
  covered_chain : (x : Line R) (ls ks : List (Line R)) → Fine laws x.arrival → ((y : Line R) → In y ls → Covered y ks) → Covered x ls → Covered x ks
  covered_chain x ls ks fx f w =
      let v = f w.by w.in_it in
      record {
        by = v.by;
        in_it = v.in_it;
        fine = v.fine;
        tag_is = v.tag_is ∙ w.tag_is;
        later = laws.chain x.arrival w.by.arrival v.by.arrival fx w.fine v.fine w.later v.later;
        wins = λ k. orders.chain v.by w.by x
            (v.wins (laws.chain v.by.arrival x.arrival w.by.arrival v.fine fx w.fine k w.later))
            (w.wins (laws.chain w.by.arrival v.by.arrival x.arrival w.fine v.fine fx v.later k));
      }

  entered_old : (cs ls : List (Line R)) → LinesFine laws cs → LinesFine laws ls → (x : Line R) → In x ls → Covered x (entered m cs ls)
  entered_old [] ls fcs fls x i = covered_self x ls (fls x i) i
  entered_old (c ∷ cs) ls fcs fls x i =
      let fc : Fine laws c.arrival = fcs c (Memᴰ.head refl) in
      covered_chain x (enter m c ls) (entered m cs (enter m c ls)) (fls x i)
      (λ y j. entered_old cs (enter m c ls) (λ z k. fcs z (Memᴰ.tail k)) (enter_fine laws c ls fc fls) y j)
      (enter_old c ls fc fls x i)

  -- the candidates cs come by First, behind those of ls
  pub entered_new : (cs ls : List (Line R)) → LinesFine laws cs → LinesFine laws ls → Ascending First cs → ((c l : Line R) → In c cs → In l ls → First l c) → (x : Line R) → In x cs → Covered x (entered m cs ls)
  entered_new [] ls fcs fls a f x i = in_nil x i
  entered_new (c ∷ cs) ls fcs fls a f x i =
      go (Memᴰ.cases_cons i) (λ j. entered_new cs (enter m c ls) later fine a.1 (λ d l k z. next d k l (enter_in m c ls l z)) x j)
    where
      fc : Fine laws c.arrival
      fc = fcs c (Memᴰ.head refl)

      later : LinesFine laws cs
      later z k = fcs z (Memᴰ.tail k)

      fine : LinesFine laws (enter m c ls)
      fine = enter_fine laws c ls fc fls

      next : (d : Line R) → In d cs → (l : Line R) → (l ≡ c) ⊎ In l ls → First l d
      next d k l (inl e) = subst (λ y. First y d) (sym e) (all_in (First c) cs a.0 d k)
      next d k l (inr j) = f d l (Memᴰ.tail k) j

      go : (x ≡ c) ⊎ In x cs → (In x cs → Covered x (entered m cs (enter m c ls))) → Covered x (entered m cs (enter m c ls))
      go (inl e) g =
          subst (λ z. Covered z (entered m cs (enter m c ls))) (sym e)
          (covered_chain c (enter m c ls) (entered m cs (enter m c ls)) fc (λ y j. entered_old cs (enter m c ls) later fine y j)
          (enter_new c ls fc fls (in_all (λ l. First l c) ls (λ l j. f c l (Memᴰ.head refl) j))))
      go (inr j) g = g j
