-- The sheet compares rows in range only: an order that agrees there makes the same sheet.
use Rattle.std.proofs.Common.{◌≡◌, ℕ, zero, suc, ◌<◌, ◌≤◌, Bool, true, false, cond, eqb, ltb, List, [], ◌∷◌, ◌++◌, Some, None, Option, refl, ap, ◌∙◌, ap₂, arith}
use mathlib.Core.List.Memᴰ
use Rattle.paths.specs.Rows.{Rows}
use Rattle.paths.specs.Blocks.{Arc, RowBlock, pass, passes}
use Rattle.paths.specs.Sheets.{Line, Told, Timed, started, ended, enter, entered, least, first_least, asks, slack_of, slacks, node_slack, sent, over, into, arrivals, asked_over, asked_by, timed, sheet}
use Rattle.paths.proofs.RowLaws.{Laws, Fine}
use Rattle.paths.proofs.Small.{Given, tame}
use Rattle.paths.proofs.Choosing.{In, in_nil, ToldFine, skip_first, skip_second}
use Rattle.paths.proofs.Entering.{LinesFine, enter_fine}
use Rattle.paths.proofs.Arriving.{candidates, candidate_near, arrivals_right}
use Rattle.paths.proofs.Requiring.{told_near}
use Rattle.paths.proofs.Slacks.{slacks_fine}

module _ {R : Type 0} (m : Rows R) (laws : Laws m) (other : R → R → Bool) (agree : (a c : R) → Fine laws a → Fine laws c → other a c ≡ m.not_later a c) where
  -- the same rows in the other order
  abbrev pub m' : Rows R
  m' = record { origin = m.origin; plus = m.plus; opposite = m.opposite; not_later = other }

  -- ---- choosing and entering
  enter_same : (c : Line R) (ls : List (Line R)) → Fine laws c.arrival → LinesFine laws ls → enter m' c ls ≡ enter m c ls
  enter_same c [] fc fine = refl
  enter_same c (l ∷ ls) fc fine =
      ap₂ (λ rest t. cond (ltb c.tag l.tag) (c ∷ (l ∷ ls)) (cond (ltb l.tag c.tag) (l ∷ rest) (cond t (l ∷ ls) (c ∷ ls))))
      (enter_same c ls fc (λ x i. fine x (Memᴰ.tail i)))
      (agree c.arrival l.arrival fc (fine l (Memᴰ.head refl)))

  pub entered_same : (cs ls : List (Line R)) → LinesFine laws cs → LinesFine laws ls → entered m' cs ls ≡ entered m cs ls
  entered_same [] ls fcs fls = refl
  entered_same (c ∷ cs) ls fcs fls =
      let fc : Fine laws c.arrival = fcs c (Memᴰ.head refl) in
      ap (entered m' cs) (enter_same c ls fc fls) ∙ entered_same cs (enter m c ls) (λ x i. fcs x (Memᴰ.tail i)) (enter_fine laws c ls fc fls)

  least_same : (a : Told R) (cs : List (Told R)) → ToldFine laws (a ∷ cs) → least m' a cs ≡ least m a cs
  least_same a [] fine = refl
  least_same a (c ∷ cs) fine =
      ap (λ t. least m' (cond t a c) cs) (agree a.row c.row (fine a (Memᴰ.head refl)) (fine c (Memᴰ.tail (Memᴰ.head refl))))
      ∙ go (m.not_later a.row c.row) (λ z f. least_same z cs f)
    where
      go : (t : Bool) → ((z : Told R) → ToldFine laws (z ∷ cs) → least m' z cs ≡ least m z cs) → least m' (cond t a c) cs ≡ least m (cond t a c) cs
      go true f = f a (skip_second laws a c cs fine)
      go false f = f c (skip_first laws a (c ∷ cs) fine)

  pub first_least_same : (cs : List (Told R)) → ToldFine laws cs → first_least m' cs ≡ first_least m cs
  first_least_same [] fine = refl
  first_least_same (c ∷ cs) fine = ap Some (least_same c cs fine)

  -- ---- the parts that compare nothing
  slack_of_same : (k : ℕ) (t : Timed R) (o : Option (Told R)) → slack_of m' k t o ≡ slack_of m k t o
  slack_of_same k t None = refl
  slack_of_same k t (Some y) = refl

  pub slacks_same : (v k : ℕ) (ts : List (Timed R)) → slacks m' v k ts ≡ slacks m v k ts
  slacks_same v k [] = refl
  slacks_same v k (t ∷ ts) =
      ap₂ (λ xs rest. cond (eqb t.line.node v) (xs ++ rest) rest) (slack_of_same k t t.required) (slacks_same v (suc k) ts)

  asks_same : (e : Arc R) (k : ℕ) (o : Option (Told R)) → asks m' e k o ≡ asks m e k o
  asks_same e k None = refl
  asks_same e k (Some y) = refl

  module _ (b : RowBlock R) where
    over_same : (e : Arc R) (i : ℕ) (ls : List (Line R)) → over m' b e i ls ≡ over m b e i ls
    over_same e i [] = refl
    over_same e i (l ∷ ls) = ap (λ rest. cond (eqb l.node e.from) (cond (passes b l.tag e) (sent m b e i l ∷ rest) rest) rest) (over_same e (suc i) ls)

    pub into_same : (v : ℕ) (es : List (Arc R)) (ls : List (Line R)) → into m' b v es ls ≡ into m b v es ls
    into_same v [] ls = refl
    into_same v (e ∷ es) ls = ap₂ (λ xs rest. cond (eqb e.to v) (xs ++ rest) rest) (over_same e 0 ls) (into_same v es ls)

    asked_over_same : (l : Line R) (e : Arc R) (k : ℕ) (ts : List (Timed R)) → asked_over m' b l e k ts ≡ asked_over m b l e k ts
    asked_over_same l e k [] = refl
    asked_over_same l e k (t ∷ ts) =
        ap₂ (λ xs rest. cond (eqb t.line.node e.to) (cond (eqb t.line.tag (pass b l.tag e)) (xs ++ rest) rest) rest) (asks_same e k t.required) (asked_over_same l e (suc k) ts)

    pub asked_by_same : (l : Line R) (es : List (Arc R)) (k : ℕ) (ts : List (Timed R)) → asked_by m' b l es k ts ≡ asked_by m b l es k ts
    asked_by_same l [] k ts = refl
    asked_by_same l (e ∷ es) k ts =
        ap₂ (λ xs rest. cond (eqb e.from l.node) (cond (passes b l.tag e) (xs ++ rest) rest) rest) (asked_over_same l e k ts) (asked_by_same l es k ts)

module _ {R : Type 0} (m : Rows R) (b : RowBlock R) (n : ℕ) (given : Given m b n) (other : R → R → Bool)
    (agree : (a c : R) → Fine given.laws a → Fine given.laws c → other a c ≡ m.not_later a c) where
  abbrev laws : Laws m
  laws = given.laws

  abbrev m'' : Rows R
  m'' = record { origin = m.origin; plus = m.plus; opposite = m.opposite; not_later = other }

  arrivals_same : (k : ℕ) → k ≤ 256 → arrivals m'' b k ≡ arrivals m b k
  arrivals_same zero h = refl
  arrivals_same (suc v) h =
      let ls = arrivals m b v in
      ap (λ (xs : List (Line R)). xs ++ entered m'' (started v (b.start v) ++ into m'' b v b.arcs xs) []) (arrivals_same v (omega arith))
      ∙ ap (λ xs. ls ++ entered m'' (started v (b.start v) ++ xs) []) (into_same m laws other agree b v b.arcs ls)
      ∙ ap (λ xs. ls ++ xs)
      (entered_same m laws other agree (candidates m b v) []
      (λ c i. omega (arith, candidate_near m b laws (tame given) v (omega arith) c i)) (λ l i. in_nil l i))

  timed_same : (k : ℕ) (ls : List (Line R)) → ((l : Line R) → In l ls → l.node < 256) → timed m'' b k ls ≡ timed m b k ls
  timed_same k [] low = refl
  timed_same k (l ∷ ls) low =
      let ts = timed m b (suc k) ls in
      ap (row_with m'') (timed_same (suc k) ls (λ x i. low x (Memᴰ.tail i)))
      ∙ ap (λ xs. made (first_least m'' (ended (b.end l.node) ++ xs)) ts) (asked_by_same m laws other agree b l b.arcs (suc k) ts)
      ∙ ap (λ o. made o ts)
      (first_least_same m laws other agree (ended (b.end l.node) ++ asked_by m b l b.arcs (suc k) ts)
      (λ x i. omega (arith, told_near m b laws (tame given) l (low l (Memᴰ.head refl)) (suc k) ls x i)))
    where
      made : Option (Told R) → List (Timed R) → List (Timed R)
      made o ts = record { line = l; required = o } ∷ ts

      row_with : Rows R → List (Timed R) → List (Timed R)
      row_with q ts = made (first_least q (ended (b.end l.node) ++ asked_by q b l b.arcs (suc k) ts)) ts

  pub sheet_same : sheet m'' b n ≡ sheet m b n
  sheet_same =
      ap (timed m'' b 0) (arrivals_same n given.few)
      ∙ timed_same 0 (arrivals m b n) (λ l i. omega (arith, (arrivals_right m b laws n l i).node_below, given.few))

  pub slack_same : (v : ℕ) → node_slack m'' v (sheet m'' b n) ≡ node_slack m v (sheet m b n)
  slack_same v =
      ap (node_slack m'' v) sheet_same
      ∙ ap (first_least m'') (slacks_same m laws other agree v 0 (sheet m b n))
      ∙ first_least_same m laws other agree (slacks m v 0 (sheet m b n)) (slacks_fine m b n given v)
