-- One step more at the end of a run, and what is left of its list, for steps of any kind.
use Rattle.std.proofs.Common.{◌≡◌, ℕ, ◌+◌, ◌-◌, ◌<◌, ◌≤◌, Bool, false, not, List, [], ◌∷◌, ◌++◌, map, length, get_or, take, drop, set, Some, None, Option, sym, refl, ap, ◌∙◌, subst, ap₂, take-add}
use lib.Seq.{take-append-le}
use borrow.Rule.Slice.PartMut.{put_mid, post_of}
use Rattle.std.proofs.lemmas.List.{take_more, take_more_set, take_all, at_drop_more, at_drop_all, take_at, drop_at, length-take-le, map-append, map_push}
use Rattle.ledger.specs.Histories.{RunsBy, nested_by}

module _ {S X A : Type 0} (Goes : S → X → A → S → Type 0) where
  pub runs_append : (s : S) (xs : List X) (us : List A) (m : S) (ys : List X) (bs : List A) (s' : S)
      → RunsBy Goes s xs us m → RunsBy Goes m ys bs s' → RunsBy Goes s (xs ++ ys) (us ++ bs) s'
  runs_append s [] [] m ys bs s' h k = subst (λ t. RunsBy Goes t ys bs s') h k
  runs_append s [] (a ∷ us) m ys bs s' h k = absurd h
  runs_append s (x ∷ xs) [] m ys bs s' h k = absurd h
  runs_append s (x ∷ xs) (a ∷ us) m ys bs s' h k = (h.0, h.1, runs_append h.0 xs us m ys bs s' h.2 k)

  -- replies are read as answers
  module _ {P : Type 0} (answer_of : P → A) where
    pub runs_more : (s : S) (xs : List X) (rs : List P) (i : ℕ) (d x : X) (m : S) (r : P) (s' : S)
        → i < length xs → length rs ≡ length xs → get_or xs i d ≡ x → RunsBy Goes s (take i xs) (map answer_of (take i rs)) m → Goes m x (answer_of r) s'
        → RunsBy Goes s (take (i + 1) xs) (map answer_of (take (i + 1) (set rs i r))) s'
    runs_more s xs rs i d x m r s' p n e h g =
        let q : i < length rs = subst (λ k. i < k) (sym n) p in
        subst (λ ys. RunsBy Goes s ys (map answer_of (take (i + 1) (set rs i r))) s') (sym (take_more xs i d p ∙ ap (λ y. take i xs ++ y ∷ []) e))
        (subst (λ ys. RunsBy Goes s (take i xs ++ x ∷ []) ys s') (sym (ap (map answer_of) (take_more_set rs i r q) ∙ map_push answer_of (take i rs) r))
        (runs_append s (take i xs) (map answer_of (take i rs)) m (x ∷ []) (answer_of r ∷ []) s' h (s', g, refl)))

    pub runs_all : (s : S) (xs : List X) (rs : List P) (i : ℕ) (m : S)
        → length xs ≤ i → length rs ≡ length xs → RunsBy Goes s (take i xs) (map answer_of (take i rs)) m → RunsBy Goes s xs (map answer_of rs) m
    runs_all s xs rs i m p n h =
        let q : length rs ≤ i = subst (λ k. k ≤ i) (sym n) p in
        subst (λ ys. RunsBy Goes s ys (map answer_of rs) m) (take_all i xs p) (subst (λ ys. RunsBy Goes s (take i xs) (map answer_of ys) m) (take_all i rs q) h)

    -- the n steps from i on, made on parts of the two lists
    pub runs_on : (s : S) (xs : List X) (rs : List P) (i n : ℕ) (ws : List P) (m s' : S)
        → i ≤ length xs → length rs ≡ length xs → n ≤ length ws
        → RunsBy Goes s (take i xs) (map answer_of (take i rs)) m → RunsBy Goes m (take n (drop i xs)) (map answer_of (take n ws)) s'
        → RunsBy Goes s (take (i + n) xs) (map answer_of (take (i + n) (put_mid i (length rs - i) rs ws))) s'
    runs_on s xs rs i n ws m s' p e q h g =
        let post = post_of i (length rs - i) rs in
        let l : i ≤ length rs = subst (λ k. i ≤ k) (sym e) p in
        let front : length (take i rs) ≡ i = length-take-le i rs l in
        let whole : take (i + n) (put_mid i (length rs - i) rs ws) ≡ take i rs ++ take n ws =
        take-add i n (put_mid i (length rs - i) rs ws)
        ∙ ap₂ (λ a b. a ++ take n b) (take_at (take i rs) (ws ++ post) i front) (drop_at (take i rs) (ws ++ post) i front)
        ∙ ap (λ a. take i rs ++ a) (take-append-le n ws post q) in
        subst (λ ys. RunsBy Goes s ys (map answer_of (take (i + n) (put_mid i (length rs - i) rs ws))) s') (sym (take-add i n xs))
        (subst (λ us. RunsBy Goes s (take i xs ++ take n (drop i xs)) us s') (sym (ap (map answer_of) whole ∙ map-append answer_of (take i rs) (take n ws)))
        (runs_append s (take i xs) (map answer_of (take i rs)) m (take n (drop i xs)) (map answer_of (take n ws)) s' h g))

module _ {X : Type 0} (after : X → Bool → Option Bool) where
  -- what is left, behind a step after which a trial is open or not
  abbrev pub by_next : Option Bool → List X → Bool
  by_next o xs = elim o [ None ↦ false | Some b ↦ nested_by after xs b ]

  -- what is left at i, with the step that stands there
  pub left_at : (xs : List X) (i : ℕ) (d x : X) (o : Bool) → i < length xs → get_or xs i d ≡ x → nested_by after (drop i xs) o ≡ by_next (after x o) (drop (i + 1) xs)
  left_at xs i d x o p e = at_drop_more (λ ys. nested_by after ys o) xs i d p ∙ ap (λ y. nested_by after (y ∷ drop (i + 1) xs) o) e

  pub left_none : (xs : List X) (i : ℕ) (o : Bool) → length xs ≤ i → nested_by after (drop i xs) o ≡ not o
  left_none xs i o p = at_drop_all (λ ys. nested_by after ys o) xs i p
