-- Reading and writing the stored places.
use Rattle.std.proofs.Common.{◌≡◌, ℕ, zero, suc, ◌+◌, ◌<◌, ◌≤◌, Bool, true, false, cond, List, [], ◌∷◌, ◌++◌, map, length, get_or, take, drop, set, replicate, pos, Some, None, Option, sym, refl, ap, ◌∙◌, subst, ⊎_elim, arith}
use Rattle.std.proofs.lemmas.List.Edits.{map_over_more}
use Rattle.std.proofs.lemmas.List.{get_or_past, get_or-map, map-set, length-map, take_all, drop_all, append-nil}
use Rattle.std.proofs.lemmas.Bool.{cases_lt}
use Rattle.graph.specs.declared.parts.ArcSlot.{ArcSlot}
use Rattle.graph.specs.declared.parts.TimeSlot.{TimeSlot}
use Rattle.graph.specs.declared.parts.LiveArc.{LiveArc}
use Rattle.graph.specs.Order.{Precedes}
use Rattle.graph.specs.Ranges.{is_ticks}
use Rattle.graph.specs.Slots.{slot_arc, arcs_of}
use Rattle.graph.specs.Kept.{Numbered, Rising, NodesInRange, TrimsInRange}
use Rattle.graph.specs.Sets.{set_again, without_set, cleared}

-- the places of a new graph
abbrev pub no_arc : ArcSlot
no_arc = record { live = false; arc = record { from = 0; to = 0; trim = pos 0; sets = 0 } }

abbrev pub no_time : TimeSlot
no_time = record { set = false; ticks = pos 0 }

pub replicate_at : {A : Type 0} (a : A) (n k : ℕ) → get_or (replicate n a) k a ≡ a
replicate_at a zero k = refl
replicate_at a (suc n) zero = refl
replicate_at a (suc n) (suc k) = replicate_at a n k

module _ {X : Type 0} where
  pub none_some : (e : X) → ◌≡◌ {A = Option X} None (Some e) → ⊥
  none_some e h = let z : ◌≡◌ {A = ℕ} 0 1 = cc in omega arith

  pub some_same : (e e' : X) → Some e ≡ Some e' → e ≡ e'
  some_same e e' h = cc

  pub none_live : (n k : ℕ) (e : X) → get_or (replicate n None) k None ≡ Some e → ⊥
  none_live n k e h = none_some e (sym (replicate_at None n k) ∙ h)

  -- a number that has something lies within the list
  pub live_within : (xs : List (Option X)) (n : ℕ) (e : X) → get_or xs n None ≡ Some e → n < length xs
  live_within xs n e h =
      ⊎_elim (λ l. l) (λ g. absurd (none_some e (sym (get_or_past xs n None g) ∙ h))) (cases_lt n (length xs))

  pub set_at : (xs : List (Option X)) (n : ℕ) (e v : X) → get_or xs n None ≡ Some e → get_or (set xs n (Some v)) n None ≡ Some v
  set_at [] n e v h = absurd (none_some e h)
  set_at (x ∷ xs) zero e v h = refl
  set_at (x ∷ xs) (suc n) e v h = set_at xs n e v h

  -- what holds of everything in a list still holds after one place is written
  pub put_live : (xs : List (Option X)) (i : ℕ) (v : Option X) (P : ℕ → X → Type 0)
      → ((k : ℕ) (e : X) → get_or xs k None ≡ Some e → P k e)
      → ((e : X) → v ≡ Some e → P i e)
      → (k : ℕ) (e : X) → get_or (set xs i v) k None ≡ Some e → P k e
  put_live [] i v P old new k e q = old k e q
  put_live (x ∷ xs) zero v P old new zero e q = new e q
  put_live (x ∷ xs) zero v P old new (suc k) e q = old (suc k) e q
  put_live (x ∷ xs) (suc i) v P old new zero e q = old zero e q
  put_live (x ∷ xs) (suc i) v P old new (suc k) e q = put_live xs i v (λ m. P (suc m)) (λ m. old (suc m)) new k e q

-- the same for stored places, which f reads
module _ {S X : Type 0} (f : S → Option X) where
  pub slot_at : (d : S) → f d ≡ None → (xs : List S) (n : ℕ) → get_or (map f xs) n None ≡ f (get_or xs n d)
  slot_at d h [] n = sym h
  slot_at d h (x ∷ xs) zero = refl
  slot_at d h (x ∷ xs) (suc n) = slot_at d h xs n

  pub blank_slots : (d : S) → f d ≡ None → (n : ℕ) → map f (replicate n d) ≡ replicate n None
  blank_slots d h zero = refl
  blank_slots d h (suc n) = ap (λ o. o ∷ map f (replicate n d)) h ∙ ap (λ os. None ∷ os) (blank_slots d h n)

-- a loop that changes each arc in place by f
pub slots_more : (f : Option LiveArc → Option LiveArc) (xs ys : List ArcSlot) (i : ℕ) (y : ArcSlot) → i < length xs → length ys ≡ length xs
    → arcs_of ys ≡ map f (take i (arcs_of xs)) ++ drop i (arcs_of xs) → slot_arc y ≡ f (slot_arc (get_or ys i no_arc))
    → arcs_of (set ys i y) ≡ map f (take (i + 1) (arcs_of xs)) ++ drop (i + 1) (arcs_of xs)
slots_more f xs ys i y h n e k =
    let o = slot_arc (get_or ys i no_arc) in
    let at : o ≡ get_or (arcs_of ys) i o = sym (get_or-map slot_arc ys i no_arc o (omega arith)) in
    let h' : i < length (arcs_of xs) = omega (arith, length-map xs slot_arc) in
    map-set slot_arc ys i y ∙ ap (set (arcs_of ys) i) k ∙ map_over_more f (arcs_of xs) (arcs_of ys) i o h' e at

pub slots_all : (f : Option LiveArc → Option LiveArc) (xs ys : List ArcSlot) (i : ℕ) → length xs ≤ i
    → arcs_of ys ≡ map f (take i (arcs_of xs)) ++ drop i (arcs_of xs) → arcs_of ys ≡ map f (arcs_of xs)
slots_all f xs ys i h e =
    let h' : length (arcs_of xs) ≤ i = omega (arith, length-map xs slot_arc) in
    e ∙ ap (λ t. map f t ++ drop i (arcs_of xs)) (take_all i (arcs_of xs) h') ∙ ap (λ t. map f (arcs_of xs) ++ t) (drop_all i (arcs_of xs) h') ∙ append-nil (map f (arcs_of xs))

-- f changes nothing of an arc but its sets
abbrev pub Keeps : (Option LiveArc → Option LiveArc) → Type 0
Keeps f = (f None ≡ None) × ((e : LiveArc) → (m : ℕ) × (f (Some e) ≡ Some (set_again e m)))

pub cleared_keeps : (s : ℕ) → Keeps (cleared s)
cleared_keeps s = (refl, λ e. (without_set e.sets s, refl))

pub map_live : (f : Option LiveArc → Option LiveArc) → Keeps f → (P : ℕ → LiveArc → Type 0) → ((k : ℕ) (e : LiveArc) (m : ℕ) → P k e → P k (set_again e m))
    → (arcs : List (Option LiveArc)) → ((k : ℕ) (e : LiveArc) → get_or arcs k None ≡ Some e → P k e)
    → (k : ℕ) (e : LiveArc) → get_or (map f arcs) k None ≡ Some e → P k e
map_live f h P keep [] old k e q = old k e q
map_live f h P keep (None ∷ xs) old zero e q = absurd (none_some e (sym h.0 ∙ q))
map_live f h P keep (Some x ∷ xs) old zero e q =
    let m = h.1 x in subst (P zero) (some_same (set_again x m.0) e (sym m.1 ∙ q)) (keep zero x m.0 (old zero x refl))
map_live f h P keep (x ∷ xs) old (suc k) e q = map_live f h (λ j. P (suc j)) (λ j. keep (suc j)) xs (λ j. old (suc j)) k e q

-- what a graph keeps of its arcs, after a change of their sets alone
module _ (f : Option LiveArc → Option LiveArc) (h : Keeps f) (arcs arcs' : List (Option LiveArc)) (q : arcs' ≡ map f arcs) where
  moved_live : (P : ℕ → LiveArc → Type 0) → ((k : ℕ) (e : LiveArc) (m : ℕ) → P k e → P k (set_again e m))
      → ((k : ℕ) (e : LiveArc) → get_or arcs k None ≡ Some e → P k e) → (k : ℕ) (e : LiveArc) → get_or arcs' k None ≡ Some e → P k e
  moved_live P keep old k e l = map_live f h P keep arcs old k e (ap (λ xs. get_or xs k None) (sym q) ∙ l)

  pub numbered_map : (n : ℕ) → Numbered n arcs → Numbered n arcs'
  numbered_map n old = moved_live (λ k _. k < n) (λ k e m x. x) old

  pub rising_map : Rising arcs → Rising arcs'
  rising_map old = moved_live (λ _ e. Precedes e.from e.to) (λ k e m x. x) old

  pub nodes_map : NodesInRange arcs → NodesInRange arcs'
  nodes_map old = moved_live (λ _ e. e.to < 256) (λ k e m x. x) old

  pub trims_map : TrimsInRange arcs → TrimsInRange arcs'
  trims_map old = moved_live (λ _ e. is_ticks e.trim ≡ true) (λ k e m x. x) old

pub slot_live : (s : ArcSlot) (e : LiveArc) → slot_arc s ≡ Some e → s.arc ≡ e
slot_live s e h = go s.live h
  where
    go : (t : Bool) → cond t (Some s.arc) None ≡ Some e → s.arc ≡ e
    go true h = some_same s.arc e h
    go false h = absurd (none_some e h)
