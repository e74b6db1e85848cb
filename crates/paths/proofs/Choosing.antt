-- Members of lists, and the first least of what is told.
use Rattle.std.proofs.Common.{◌≡◌, ℕ, zero, suc, ◌<◌, ◌≤◌, Bool, true, false, cond, not, T, eqb, ◌⊎◌, List, [], ◌∷◌, ◌++◌, length, Some, None, Option, sym, refl, ap, subst, inl, inr, arith, slice_get}
use mathlib.Core.List.Memᴰ
use mathlib.Core.List.{Memᴰ}
use lib.Dec.{eqb_refl}
use Rattle.std.specs.List.{AllByRecursion}
use Rattle.paths.specs.Rows.{Rows, Before}
use Rattle.paths.specs.Sheets.{Told, least, first_least}
use Rattle.paths.proofs.RowLaws.{Laws, Fine, before_refl}

abbrev pub In : {X : Type 0} → X → List X → Type 0
In x xs = Memᴰ x xs

pub in_nil : {X : Type 0} {P : Type 0} (x : X) → In x [] → P
in_nil x i = absurd (Memᴰ.not-nil i)

pub by_cond : {A : Type 0} (P : A → Type 0) (t : Bool) (x y : A) → (T t → P x) → (T (not t) → P y) → P (cond t x y)
by_cond P true x y f g = f tt
by_cond P false x y f g = g tt

pub cond_true : {A : Type 0} (t : Bool) (x y : A) → T t → cond t x y ≡ x
cond_true true x y h = refl
cond_true false x y h = absurd h

pub eq_eqb : (a b : ℕ) → a ≡ b → T (eqb a b)
eq_eqb a b e = subst (λ x. T (eqb a x)) e (eqb_refl a)

pub all_in : {X : Type 0} (P : X → Type 0) (xs : List X) → AllByRecursion P xs → (x : X) → In x xs → P x
all_in P [] h x i = in_nil x i
all_in P (y ∷ ys) h x i = go (Memᴰ.cases_cons i) (λ j. all_in P ys h.1 x j)
  where
    go : (x ≡ y) ⊎ In x ys → (In x ys → P x) → P x
    go (inl e) f = subst P (sym e) h.0
    go (inr j) f = f j

pub in_all : {X : Type 0} (P : X → Type 0) (xs : List X) → ((x : X) → In x xs → P x) → AllByRecursion P xs
in_all P [] f = tt
in_all P (y ∷ ys) f = (f y (Memᴰ.head refl), in_all P ys (λ x i. f x (Memᴰ.tail i)))

pub some_is : {X : Type 0} (a c : X) → Some a ≡ Some c → a ≡ c
some_is a c e = cc

pub none_some : {X : Type 0} (a : X) → None ≡ Some a → ⊥
none_some {X} a e = subst F e tt
  where
    F : Option X → Type 0
    F None = Unit {0}
    F (Some x) = ⊥

-- ---- what is numbered i
abbrev pub At : {X : Type 0} → List X → ℕ → X → Type 0
At xs i x = slice_get xs i ≡ Some x

pub at_below : {X : Type 0} (xs : List X) (i : ℕ) (x : X) → At xs i x → i < length xs
at_below [] i x e = absurd (none_some x e)
at_below (y ∷ ys) zero x e = omega arith
at_below (y ∷ ys) (suc i) x e = omega (arith, at_below ys i x e)

pub at_in : {X : Type 0} (xs : List X) (i : ℕ) (x : X) → At xs i x → In x xs
at_in [] i x e = absurd (none_some x e)
at_in (y ∷ ys) zero x e = Memᴰ.head (sym (some_is y x e))
at_in (y ∷ ys) (suc i) x e = Memᴰ.tail (at_in ys i x e)

pub in_at : {X : Type 0} (xs : List X) (x : X) → In x xs → (i : ℕ) × At xs i x
in_at [] x i = in_nil x i
in_at {X} (y ∷ ys) x i = go (Memᴰ.cases_cons i) (λ j. in_at ys x j)
  where
    go : (x ≡ y) ⊎ In x ys → (In x ys → (k : ℕ) × At ys k x) → (k : ℕ) × At (y ∷ ys) k x
    go (inl e) f = (0, ap (λ z. Some z) (sym e))
    go (inr j) f = let w = f j in (suc w.0, w.1)

pub at_left : {X : Type 0} (xs ys : List X) (i : ℕ) (x : X) → At xs i x → At (xs ++ ys) i x
at_left [] ys i x e = absurd (none_some x e)
at_left (y ∷ xs) ys zero x e = e
at_left (y ∷ xs) ys (suc i) x e = at_left xs ys i x e

pub at_cases : {X : Type 0} (xs ys : List X) (i : ℕ) (x : X) → At (xs ++ ys) i x → At xs i x ⊎ ((length xs ≤ i) × In x ys)
at_cases [] ys i x e = inr (omega arith, at_in ys i x e)
at_cases (y ∷ xs) ys zero x e = inl e
at_cases {X} (y ∷ xs) ys (suc i) x e = go (at_cases xs ys i x e)
  where
    go : At xs i x ⊎ ((length xs ≤ i) × In x ys) → At xs i x ⊎ ((suc (length xs) ≤ suc i) × In x ys)
    go (inl h) = inl h
    go (inr h) = inr (omega (arith, h.0), h.1)

-- ---- First x y: of equals x wins over y, or is y
pub record Orders {X : Type 0} (First : X → X → Type 0) : Type 0 where
  pub itself : (x : X) → First x x
  pub chain : (x y z : X) → First x y → First y z → First x z

abbrev pub Ascending : {X : Type 0} → (X → X → Type 0) → List X → Type 0
Ascending First [] = Unit {0}
Ascending First (c ∷ cs) = AllByRecursion (First c) cs × Ascending First cs

pub append_ascending : {X : Type 0} (First : X → X → Type 0) (xs ys : List X) → Ascending First xs → Ascending First ys → ((x y : X) → In x xs → In y ys → First x y) → Ascending First (xs ++ ys)
append_ascending First [] ys p q h = q
append_ascending {X} First (x ∷ xs) ys p q h =
    (in_all (First x) (xs ++ ys) (λ z i. go z (Memᴰ.append_cases xs i)), append_ascending First xs ys p.1 q (λ z y i j. h z y (Memᴰ.tail i) j))
  where
    go : (z : X) → In z xs ⊎ In z ys → First x z
    go z (inl i) = all_in (First x) xs p.0 z i
    go z (inr i) = h x z (Memᴰ.head refl) i

module _ {R : Type 0} {m : Rows R} (laws : Laws m) where
  -- rows that the order's laws are about
  abbrev pub ToldFine : List (Told R) → Type 0
  ToldFine cs = (x : Told R) → In x cs → Fine laws x.row

  -- without the second, or the first
  pub skip_second : (a c : Told R) (cs : List (Told R)) → ToldFine (a ∷ (c ∷ cs)) → ToldFine (a ∷ cs)
  skip_second a c cs f x i = go (Memᴰ.cases_cons i)
    where
      go : (x ≡ a) ⊎ In x cs → Fine laws x.row
      go (inl e) = f x (Memᴰ.head e)
      go (inr j) = f x (Memᴰ.tail (Memᴰ.tail j))

  pub skip_first : (a : Told R) (cs : List (Told R)) → ToldFine (a ∷ cs) → ToldFine cs
  skip_first a cs f x i = f x (Memᴰ.tail i)

  least_in : (a : Told R) (cs : List (Told R)) → In (least m a cs) (a ∷ cs)
  least_in a [] = Memᴰ.head refl
  least_in a (c ∷ cs) = go (m.not_later a.row c.row) (λ x. least_in x cs)
    where
      go : (t : Bool) → ((x : Told R) → In (least m x cs) (x ∷ cs)) → In (least m (cond t a c) cs) (a ∷ (c ∷ cs))
      go true f = past (Memᴰ.cases_cons (f a))
        where
          past : (least m a cs ≡ a) ⊎ In (least m a cs) cs → In (least m a cs) (a ∷ (c ∷ cs))
          past (inl e) = Memᴰ.head e
          past (inr i) = Memᴰ.tail (Memᴰ.tail i)
      go false f = Memᴰ.tail (f c)

  least_fine : (a : Told R) (cs : List (Told R)) → ToldFine (a ∷ cs) → Fine laws (least m a cs).row
  least_fine a cs fine = fine (least m a cs) (least_in a cs)

  least_first : (a : Told R) (cs : List (Told R)) → ToldFine (a ∷ cs) → Before m (least m a cs).row a.row
  least_first a [] fine = before_refl laws a.row (fine a (Memᴰ.head refl))
  least_first a (c ∷ cs) fine = go (m.not_later a.row c.row) refl (λ x g. least_first x cs g)
    where
      fa : Fine laws a.row
      fa = fine a (Memᴰ.head refl)

      fc : Fine laws c.row
      fc = fine c (Memᴰ.tail (Memᴰ.head refl))

      go : (t : Bool) → m.not_later a.row c.row ≡ t → ((x : Told R) → ToldFine (x ∷ cs) → Before m (least m x cs).row x.row) → Before m (least m (cond t a c) cs).row a.row
      go true e f = f a (skip_second a c cs fine)
      go false e f =
          let rest = skip_first a (c ∷ cs) fine in
          laws.chain (least m c cs).row c.row a.row (least_fine c cs rest) fc fa (f c rest) (other (laws.either a.row c.row fa fc))
        where
          other : Before m a.row c.row ⊎ Before m c.row a.row → Before m c.row a.row
          other (inl h) = absurd (subst T e h)
          other (inr h) = h

  least_least : (a : Told R) (cs : List (Told R)) → ToldFine (a ∷ cs) → (x : Told R) → In x cs → Before m (least m a cs).row x.row
  least_least a [] fine x i = in_nil x i
  least_least a (c ∷ cs) fine x i = go (m.not_later a.row c.row) refl (Memᴰ.cases_cons i) (λ z g j. least_least z cs g x j)
    where
      with_a : ToldFine (a ∷ cs)
      with_a = skip_second a c cs fine

      with_c : ToldFine (c ∷ cs)
      with_c = skip_first a (c ∷ cs) fine

      go : (t : Bool) → m.not_later a.row c.row ≡ t → (x ≡ c) ⊎ In x cs → ((z : Told R) → ToldFine (z ∷ cs) → In x cs → Before m (least m z cs).row x.row) → Before m (least m (cond t a c) cs).row x.row
      go true e (inr j) f = f a with_a j
      go false e (inr j) f = f c with_c j
      go true e (inl p) f =
          laws.chain (least m a cs).row a.row x.row (least_fine a cs with_a) (fine a (Memᴰ.head refl)) (fine x (Memᴰ.tail (Memᴰ.head p)))
          (least_first a cs with_a) (subst (λ (z : Told R). Before m a.row z.row) (sym p) (subst T (sym e) tt))
      go false e (inl p) f = subst (λ (z : Told R). Before m (least m c cs).row z.row) (sym p) (least_first c cs with_c)

  pub chosen_in : (cs : List (Told R)) (a : Told R) → first_least m cs ≡ Some a → In a cs
  chosen_in [] a e = absurd (none_some a e)
  chosen_in (c ∷ cs) a e = subst (λ x. In x (c ∷ cs)) (some_is (least m c cs) a e) (least_in c cs)

  pub chosen_least : (cs : List (Told R)) → ToldFine cs → (x : Told R) → In x cs → (a : Told R) × (first_least m cs ≡ Some a) × Before m a.row x.row
  chosen_least [] fine x i = in_nil x i
  chosen_least (c ∷ cs) fine x i = (least m c cs, refl, go (Memᴰ.cases_cons i))
    where
      go : (x ≡ c) ⊎ In x cs → Before m (least m c cs).row x.row
      go (inl e) = subst (λ (z : Told R). Before m (least m c cs).row z.row) (sym e) (least_first c cs fine)
      go (inr j) = least_least c cs fine x j

  -- where the rows told come by First, the chosen one wins over those no later
  module _ (First : Told R → Told R → Type 0) (orders : Orders First) where
    least_wins : (a : Told R) (cs : List (Told R)) → ToldFine (a ∷ cs) → AllByRecursion (First a) cs → Ascending First cs → (x : Told R) → (x ≡ a) ⊎ In x cs → Before m x.row (least m a cs).row → First (least m a cs) x
    least_wins a [] fine f s x (inl e) h = subst (First a) (sym e) (orders.itself a)
    least_wins a [] fine f s x (inr i) h = in_nil x i
    least_wins a (c ∷ cs) fine f s x i h =
        go (m.not_later a.row c.row) refl i h (λ z g fz j k. least_wins z cs g fz s.1 x j k) (λ k. least_wins a cs (skip_second a c cs fine) f.1 s.1 a (inl refl) k)
      where
        with_a : ToldFine (a ∷ cs)
        with_a = skip_second a c cs fine

        with_c : ToldFine (c ∷ cs)
        with_c = skip_first a (c ∷ cs) fine

        fa : Fine laws a.row
        fa = fine a (Memᴰ.head refl)

        Below : Type 0
        Below = (z : Told R) → ToldFine (z ∷ cs) → AllByRecursion (First z) cs → (x ≡ z) ⊎ In x cs → Before m x.row (least m z cs).row → First (least m z cs) x

        go : (t : Bool) → m.not_later a.row c.row ≡ t → (x ≡ a) ⊎ In x (c ∷ cs) → Before m x.row (least m (cond t a c) cs).row → Below
            → (Before m a.row (least m a cs).row → First (least m a cs) a) → First (least m (cond t a c) cs) x
        go true e (inl p) k g own = g a with_a f.1 (inl p) k
        go true e (inr j) k g own = split (Memᴰ.cases_cons j)
          where
            split : (x ≡ c) ⊎ In x cs → First (least m a cs) x
            split (inr q) = g a with_a f.1 (inr q) k
            split (inl q) =
                let le : Before m a.row x.row = subst (λ (z : Told R). Before m a.row z.row) (sym q) (subst T (sym e) tt) in
                let fx : Fine laws x.row = fine x (Memᴰ.tail (Memᴰ.head q)) in
                orders.chain (least m a cs) a x (own (laws.chain a.row x.row (least m a cs).row fa fx (least_fine a cs with_a) le k)) (subst (First a) (sym q) f.0)
        go false e (inl p) k g own =
            absurd (subst T e (laws.chain a.row (least m c cs).row c.row fa (least_fine c cs with_c) (with_c c (Memᴰ.head refl))
            (subst (λ (z : Told R). Before m z.row (least m c cs).row) p k) (least_first c cs with_c)))
        go false e (inr j) k g own = g c with_c s.0 (Memᴰ.cases_cons j) k

    pub chosen_wins : (cs : List (Told R)) → ToldFine cs → Ascending First cs → (a x : Told R) → first_least m cs ≡ Some a → In x cs → Before m x.row a.row → First a x
    chosen_wins [] fine s a x e i h = in_nil x i
    chosen_wins (c ∷ cs) fine s a x e i h =
        let q = some_is (least m c cs) a e in
        subst (λ z. First z x) q (least_wins c cs fine s.0 s.1 x (Memᴰ.cases_cons i) (subst (λ (z : Told R). Before m x.row z.row) (sym q) h))
