-- What each call does to the sets.
use Rattle.std.proofs.Common.{◌≡◌, ℕ, ◌%◌, ◌^◌, ◌<◌, Bool, true, false, cond, not, ◌||◌, eqb, ◌⊎◌, List, [], ◌∷◌, map, get_or, set, ℤ, pos, nat_abs, Some, None, Ok, Err, Option, Result, sym, refl, ap, ◌∙◌, subst, inl, inr, ⊎_elim, arith}
use native.Mathlib.Nat.{zero-div}
use Rattle.std.proofs.lemmas.List.{get_or-set_other}
use Rattle.std.proofs.lemmas.Bool.{cases_Bool, cases_eq, cond_both, both_ways, and_parts, and_from, eq-eqb, ne_eqb, eqb-true, or_cases, or_right}
use Rattle.std.proofs.lemmas.Bool.Decides.{when_true, when_false}
use Rattle.graph.specs.declared.parts.LiveArc.{LiveArc}
use Rattle.graph.specs.Order.{precedes}
use Rattle.graph.specs.Ranges.{is_node, is_arc, is_set, is_ticks}
use Rattle.graph.specs.Kept.{Live}
use Rattle.graph.specs.Block.{Block, Outcome, Kept, arc_at, refused, accepted, put_arc, next_arc, with_arc, dropped, without_arc, with_start, with_end, trimmed, re_trimmed, with_trim}
use Rattle.graph.specs.Paths.{Walks, Between}
use Rattle.graph.specs.Sets.{holds, with_set, without_set, set_again, in_set, cleared, with_cleared}
use Rattle.graph.specs.Pair.{PairedIn, Paired}
use Rattle.graph.proofs.Marks.{three_true, in_bounds}
use Rattle.graph.proofs.Masks.{holds_with, holds_without}
use Rattle.graph.proofs.Slots.{none_some, some_same, put_live, set_at, slot_at}
use Rattle.ledger.specs.Laws.{Holds, Filled}

-- no set holds an arc that is in none
none_holds : (s : ℕ) → holds 0 s ≡ true → ⊥
none_holds s h = both_ways _ (ap (λ q. eqb (q % 2) 1) (zero-div (2 ^ s))) h

-- the sets hold the same arcs in both blocks
pub record SameSets (b b' : Block) : Type 0 where
  pub on : (s n : ℕ) → Holds b s n → Holds b' s n
  pub back : (s n : ℕ) → Holds b' s n → Holds b s n

pub same_sets : (b : Block) → SameSets b b
same_sets b = record { on = λ s n h. h; back = λ s n h. h }

pub same_then : (b m b' : Block) → SameSets b m → SameSets m b' → SameSets b b'
same_then b m b' p q = record { on = λ s n h. q.on s n (p.on s n h); back = λ s n h. p.back s n (q.back s n h) }

same_cond : {A : Type 0} (b : Block) (c : Bool) (w v : Outcome A) → SameSets b w.after → (c ≡ false → SameSets b v.after) → SameSets b (cond c w v).after
same_cond b c w v p q = cond_both c w v (λ x. SameSets b x.after) (λ _. p) q

-- one arc written: what was there and what is there now are in the same sets
same_put : (b b' : Block) (i : ℕ) (o : Option LiveArc) → b'.arcs ≡ set b.arcs i o
    → ((s : ℕ) (e : LiveArc) → arc_at b i ≡ Some e → holds e.sets s ≡ true → Holds b' s i)
    → ((s : ℕ) (e : LiveArc) → o ≡ Some e → holds e.sets s ≡ true → Holds b s i)
    → SameSets b b'
same_put b b' i o q on back = record {
  on = λ s n h. ⊎_elim
      (λ (e : n ≡ i). subst (Holds b' s) (sym e) (on s h.0 (subst (λ m. arc_at b m ≡ Some h.0) e h.1) h.2))
      (λ (ne : n ≡ i → ⊥). (h.0, ap (λ xs. get_or xs n None) q ∙ get_or-set_other b.arcs i n o None ne ∙ h.1, h.2))
      (cases_eq n i);
  back = λ s n h. put_live b.arcs i o (λ m e. holds e.sets s ≡ true → Holds b s m) (λ m e l k. (e, l, k)) (λ e l k. back s e l k)
      n h.0 (ap (λ xs. get_or xs n None) (sym q) ∙ h.1) h.2;
}

same_next : (b : Block) (u v : ℕ) → Kept b → SameSets b (next_arc b u v).after
same_next b u v k = same_cond b (eqb b.taken 1024) _ _ (same_sets b) (λ _. same_put b _ b.taken _ refl
    (λ s e l h. absurd (let z : ⊥ = omega (arith, k.numbers b.taken e l) in z))
    (λ s e l h. absurd (none_holds s (ap (λ x. holds x.sets s) (some_same _ e l) ∙ h))))

pub same_arc : (b : Block) (u v : ℤ) → Kept b → SameSets b (with_arc b u v).after
same_arc b u v k =
    same_cond b (not (is_node u) || not (is_node v)) _ _ (same_sets b)
    (λ _. same_cond b (not (precedes (nat_abs u) (nat_abs v))) _ _ (same_sets b) (λ _. same_next b (nat_abs u) (nat_abs v) k))

same_dropped : (b : Block) (n : ℕ) (o : Option LiveArc) → arc_at b n ≡ o → SameSets b (dropped b n o).after
same_dropped b n None live = same_sets b
same_dropped b n (Some e) live = go (eqb e.sets 0) refl
  where
    go : (t : Bool) → eqb e.sets 0 ≡ t → SameSets b (cond {A = Outcome (Unit {0})} t (accepted tt (put_arc b n None)) (refused b 10)).after
    go false h = same_sets b
    go true h = same_put b (put_arc b n None) n None refl
        (λ s x l k. absurd (none_holds s (ap (λ m. holds m s) (sym (eqb-true e.sets 0 h)) ∙ ap (λ y. holds y.sets s) (some_same e x (sym live ∙ l)) ∙ k)))
        (λ s x l k. absurd (none_some x l))

pub same_drop : (b : Block) (n : ℤ) → SameSets b (without_arc b n).after
same_drop b n = same_cond b (not (is_arc n)) _ _ (same_sets b) (λ _. same_dropped b (nat_abs n) (arc_at b (nat_abs n)) refl)

-- the sets hold the same arcs where the arcs are the same
same_arcs : (b b' : Block) → b'.arcs ≡ b.arcs → SameSets b b'
same_arcs b b' q = record {
  on = λ s n h. (h.0, ap (λ xs. get_or xs n None) q ∙ h.1, h.2);
  back = λ s n h. (h.0, ap (λ xs. get_or xs n None) (sym q) ∙ h.1, h.2);
}

pub same_start : (b : Block) (v t : ℤ) → SameSets b (with_start b v t).after
same_start b v t = same_cond b (not (is_node v) || not (is_ticks t)) _ _ (same_sets b) (λ _. same_arcs b _ refl)

pub same_end : (b : Block) (v t : ℤ) → SameSets b (with_end b v t).after
same_end b v t = same_cond b (not (is_node v) || not (is_ticks t)) _ _ (same_sets b) (λ _. same_arcs b _ refl)

same_trimmed : (b : Block) (n : ℕ) (t : ℤ) (o : Option LiveArc) → arc_at b n ≡ o → SameSets b (trimmed b n t o).after
same_trimmed b n t None live = same_sets b
same_trimmed b n t (Some e) live = same_put b (put_arc b n (Some (re_trimmed e t))) n (Some (re_trimmed e t)) refl
    (λ s x l h. (re_trimmed e t, set_at b.arcs n e (re_trimmed e t) live, ap (λ y. holds y.sets s) (some_same e x (sym live ∙ l)) ∙ h))
    (λ s x l h. (e, live, ap (λ y. holds y.sets s) (some_same (re_trimmed e t) x l) ∙ h))

pub same_trim : (b : Block) (n t : ℤ) → SameSets b (with_trim b n t).after
same_trim b n t = same_cond b (not (is_arc n) || not (is_ticks t)) _ _ (same_sets b) (λ _. same_trimmed b (nat_abs n) t (arc_at b (nat_abs n)) refl)

-- ---- clear
set_below : (z : ℤ) → is_set z ≡ true → nat_abs z < 16
set_below z h = let l = (in_bounds z 15 h).0 in omega arith

abbrev cleared_block : Block → ℕ → Block
cleared_block b g = record { taken = b.taken; arcs = map (cleared g) b.arcs; starts = b.starts; ends = b.ends }

module _ (b : Block) (g : ℕ) (in' : g < 16) where
  was : (o : Option LiveArc) (e' : LiveArc) → cleared g o ≡ Some e' → (e : LiveArc) × (o ≡ Some e) × (without_set e.sets g ≡ e'.sets)
  was None e' h = absurd (none_some e' h)
  was (Some e) e' h = (e, refl, ap (λ x. x.sets) (some_same _ e' h))

  cleared_back : (s n : ℕ) → s < 16 → Holds (cleared_block b g) s n → Holds b s n × (s ≡ g → ⊥)
  cleared_back s n l h =
      let w = was (arc_at b n) h.0 (sym (slot_at (cleared g) None refl b.arcs n) ∙ h.1) in
      let t = sym (holds_without w.0.sets g s in' l) ∙ ap (λ m. holds m s) w.2 ∙ h.2 in
      let p = and_parts (not (eqb s g)) (holds w.0.sets s) t in
      ((w.0, w.1, p.1), λ e. both_ways _ (ap not (eq-eqb s g e)) p.0)

  cleared_on : (s n : ℕ) → s < 16 → (s ≡ g → ⊥) → Holds b s n → Holds (cleared_block b g) s n
  cleared_on s n l apart h = (
    set_again h.0 (without_set h.0.sets g),
    slot_at (cleared g) None refl b.arcs n ∙ ap (cleared g) h.1,
    holds_without h.0.sets g s in' l ∙ and_from (not (eqb s g)) (holds h.0.sets s) (ap not (ne_eqb s g apart)) h.2,
  )

pub clear_back : (b : Block) (g : ℤ) (s n : ℕ) → s < 16 → Holds (with_cleared b g).after s n → Holds b s n
clear_back b g s n l h = go (is_set g) refl h
  where
    go : (t : Bool) → is_set g ≡ t → Holds (cond {A = Outcome (Unit {0})} (not t) (refused b 6) (accepted tt (cleared_block b (nat_abs g)))).after s n → Holds b s n
    go false q h = h
    go true q h = (cleared_back b (nat_abs g) (set_below g q) s n l h).0

-- an arc stays in a set that is not empty after the clearing
pub clear_keep : (b : Block) (g : ℤ) (s n : ℕ) → s < 16 → Holds b s n → Filled (with_cleared b g).after s → Holds (with_cleared b g).after s n
clear_keep b g s n l h f = go (is_set g) refl f
  where
    go : (t : Bool) → is_set g ≡ t → Filled (cond {A = Outcome (Unit {0})} (not t) (refused b 6) (accepted tt (cleared_block b (nat_abs g)))).after s
        → Holds (cond {A = Outcome (Unit {0})} (not t) (refused b 6) (accepted tt (cleared_block b (nat_abs g)))).after s n
    go false q f = h
    go true q f = cleared_on b (nat_abs g) (set_below g q) s n l (cleared_back b (nat_abs g) (set_below g q) s f.0 l f.1).1 h

-- ---- pair
-- an accepted pair lies in range
paired_ok : (b : Block) (g u v : ℤ) (b' : Block) → Paired b g u v (Ok tt) b'
    → ((is_set g ≡ true) × (is_node u ≡ true) × (is_node v ≡ true)) × PairedIn b (nat_abs g) (nat_abs u) (nat_abs v) (Ok tt) b'
paired_ok b g u v b' p =
    let out = not (is_set g) || not (is_node u) || not (is_node v) in
    let Out = (◌≡◌ {A = Result Unit ℕ} (Ok tt) (Err 6)) × (b' ≡ b) in
    let In = PairedIn b (nat_abs g) (nat_abs u) (nat_abs v) (Ok tt) b' in
    ⊎_elim
    (λ (h : out ≡ true). absurd (let e = (when_true Out In h p).0 in let z : ◌≡◌ {A = ℕ} 0 1 = cc in omega arith))
    (λ (h : out ≡ false). (three_true (is_set g) (is_node u) (is_node v) h, when_false Out In h p))
    (cases_Bool out)

-- what an arc that may have joined set g was
joined_was : (g s : ℕ) → g < 16 → s < 16 → (t : Bool) (o : Option LiveArc) (e : LiveArc) → cond t (in_set g o) o ≡ Some e → holds e.sets s ≡ true
    → ((x : LiveArc) × (o ≡ Some x) × (holds x.sets s ≡ true)) ⊎ ((t ≡ true) × (s ≡ g))
joined_was g s lg ls false o e l h = inl (e, l, h)
joined_was g s lg ls true None e l h = absurd (none_some e l)
joined_was g s lg ls true (Some x) e l h =
    let k : (eqb s g || holds x.sets s) ≡ true = sym (holds_with x.sets g s lg ls) ∙ ap (λ y. holds y.sets s) (some_same _ e l) ∙ h in
    ⊎_elim (λ q. inr (refl, eqb-true s g q)) (λ q. inl (x, refl, q)) (or_cases (eqb s g) (holds x.sets s) k)

joined_is : (g s : ℕ) → g < 16 → s < 16 → (t : Bool) (o : Option LiveArc) (x : LiveArc) → o ≡ Some x → (holds x.sets s ≡ true) ⊎ ((t ≡ true) × (s ≡ g))
    → (e : LiveArc) × (cond t (in_set g o) o ≡ Some e) × (holds e.sets s ≡ true)
joined_is g s lg ls false o x l (inl h) = (x, l, h)
joined_is g s lg ls false o x l (inr h) = absurd (both_ways false refl h.0)
joined_is g s lg ls true o x l h = (
  set_again x (with_set x.sets g),
  ap (in_set g) l,
  holds_with x.sets g s lg ls ∙ ⊎_elim (λ q. or_right (eqb s g) (holds x.sets s) q) (λ q. ap (λ t. t || holds x.sets s) (eq-eqb s g q.1)) h,
)

-- the pair (s, from, to) with the arc on a live path
abbrev pub Reason : Block → ℤ → ℤ → ℤ → ℕ → ℕ → Type 0
Reason b g u v s n = (from : ℕ) × (to : ℕ) × (g ≡ pos s) × (u ≡ pos from) × (v ≡ pos to) × Between b.arcs from to n

pub pair_back : (b : Block) (g u v : ℤ) (b' : Block) (s n : ℕ) → s < 16 → Paired b g u v (Ok tt) b' → Holds b' s n → Holds b s n ⊎ Reason b g u v s n
pair_back b g u v b' s n l p h =
    let ok = paired_ok b g u v b' p in
    let x = ok.1.1.arcs n in
    ⊎_elim (λ w. inl w)
    (λ w. inr (nat_abs u, nat_abs v, (in_bounds g 15 ok.0.0).1 ∙ ap pos (sym w.1), (in_bounds u 255 ok.0.1).1, (in_bounds v 255 ok.0.2).1, x.1.0 w.0))
    (joined_was (nat_abs g) s (set_below g ok.0.0) l x.0 (arc_at b n) h.0 (sym x.2 ∙ h.1) h.2)

pub pair_keep : (b : Block) (g u v : ℤ) (b' : Block) (s n : ℕ) → s < 16 → Paired b g u v (Ok tt) b' → Holds b s n → Holds b' s n
pair_keep b g u v b' s n l p h =
    let ok = paired_ok b g u v b' p in
    let x = ok.1.1.arcs n in
    let r = joined_is (nat_abs g) s (set_below g ok.0.0) l x.0 (arc_at b n) h.0 h.1 (inl h.2) in
    (r.0, x.2 ∙ r.1, r.2)

pub pair_put : (b : Block) (g u v : ℤ) (b' : Block) (s n : ℕ) → s < 16 → Paired b g u v (Ok tt) b' → Reason b g u v s n → Holds b' s n
pair_put b g u v b' s n l p why =
    let ok = paired_ok b g u v b' p in
    let x = ok.1.1.arcs n in
    let between : Between b.arcs (nat_abs u) (nat_abs v) n =
    subst (λ w. Between b.arcs (nat_abs w) (nat_abs v) n) (sym why.3) (subst (λ w. Between b.arcs why.0 (nat_abs w) n) (sym why.4) why.5) in
    let r = joined_is (nat_abs g) s (set_below g ok.0.0) l x.0 (arc_at b n) between.0 between.1 (inr (x.1.1 between, ap nat_abs (sym why.2))) in
    (r.0, x.2 ∙ r.1, r.2)

-- ---- a pair moves no path
module _ (arcs arcs' : List (Option LiveArc))
    (ends : (n : ℕ) (e : LiveArc) → Live arcs n e → (e' : LiveArc) × Live arcs' n e' × (e'.from ≡ e.from) × (e'.to ≡ e.to)) where
  walks_on : (u : ℕ) (ns : List ℕ) (v : ℕ) → Walks arcs u ns v → Walks arcs' u ns v
  walks_on u [] v w = w
  walks_on u (n ∷ ns) v w =
      let x = ends n w.0 w.1 in (x.0, x.1, x.2 ∙ w.2, subst (λ k. Walks arcs' k ns v) (sym x.3) (walks_on w.0.to ns v w.3))

  between_on : (u v n : ℕ) → Between arcs u v n → Between arcs' u v n
  between_on u v n h =
      let x = ends n h.0 h.1 in (
        x.0,
        x.1,
        (h.2.0, subst (Walks arcs' u h.2.0) (sym x.2) (walks_on u h.2.0 h.0.from h.2.1)),
        (h.3.0, subst (λ k. Walks arcs' k h.3.0 v) (sym x.3) (walks_on h.0.to h.3.0 v h.3.1)),
      )

joined_ends : (g : ℕ) (t : Bool) (o : Option LiveArc) (e : LiveArc) → o ≡ Some e
    → (e' : LiveArc) × (cond t (in_set g o) o ≡ Some e') × (e'.from ≡ e.from) × (e'.to ≡ e.to)
joined_ends g false o e l = (e, l, refl, refl)
joined_ends g true o e l = (set_again e (with_set e.sets g), ap (in_set g) l, refl, refl)

ends_joined : (g : ℕ) (t : Bool) (o : Option LiveArc) (e : LiveArc) → cond t (in_set g o) o ≡ Some e
    → (e' : LiveArc) × (o ≡ Some e') × (e'.from ≡ e.from) × (e'.to ≡ e.to)
ends_joined g false o e l = (e, l, refl, refl)
ends_joined g true None e l = absurd (none_some e l)
ends_joined g true (Some x) e l = (x, refl, ap (λ y. y.from) (some_same _ e l), ap (λ y. y.to) (some_same _ e l))

pub pair_paths_on : (b : Block) (g u v : ℤ) (b' : Block) → Paired b g u v (Ok tt) b' → (from to n : ℕ) → Between b.arcs from to n → Between b'.arcs from to n
pair_paths_on b g u v b' p = between_on b.arcs b'.arcs (λ n e l.
    let x = (paired_ok b g u v b' p).1.1.arcs n in let r = joined_ends (nat_abs g) x.0 (arc_at b n) e l in (r.0, x.2 ∙ r.1, r.2, r.3))

pub pair_paths_back : (b : Block) (g u v : ℤ) (b' : Block) → Paired b g u v (Ok tt) b' → (from to n : ℕ) → Between b'.arcs from to n → Between b.arcs from to n
pair_paths_back b g u v b' p = between_on b'.arcs b.arcs (λ n e l.
    let x = (paired_ok b g u v b' p).1.1.arcs n in ends_joined (nat_abs g) x.0 (arc_at b n) e (sym x.2 ∙ l))
