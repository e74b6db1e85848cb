-- Every call leaves a block that keeps what every graph keeps.
use Rattle.std.proofs.Common.{◌≡◌, ℕ, ◌+◌, ◌<◌, ◌≤◌, Bool, true, false, cond, not, ◌||◌, eqb, List, get_or, set, ℤ, nat_abs, Some, None, Ok, Err, Option, Result, sym, refl, ap, ◌∙◌, subst, ⊎_elim, arith}
use Rattle.std.proofs.lemmas.Bool.{cases_Bool, cond_both, both_ways, ltb-true, eq-eqb, not-false, or_parts}
use Rattle.std.proofs.lemmas.Bool.Decides.{when_true, when_false}
use Rattle.graph.specs.declared.parts.LiveArc.{LiveArc}
use Rattle.graph.specs.Order.{Precedes, precedes}
use Rattle.graph.specs.Ranges.{is_node, is_arc, is_set, is_ticks}
use Rattle.graph.specs.Block.{Block, Outcome, Kept, blank, arc_at, put_arc, next_arc, with_arc, dropped, without_arc, with_start, with_end, trimmed, re_trimmed, with_trim}
use Rattle.graph.specs.Sets.{in_set, cleared, with_cleared}
use Rattle.graph.specs.Pair.{Marked, PairedIn, Paired}
use Rattle.graph.proofs.Nodes.{node_below}
use Rattle.graph.proofs.Slots.{put_live, some_same, none_some, none_live, cleared_keeps, numbered_map, rising_map, nodes_map, trims_map}

-- both parts of a range check passed
both_true : (p q : Bool) → (not p || not q) ≡ false → (p ≡ true) × (q ≡ true)
both_true p q h = let x = or_parts (not p) (not q) h in (not-false p x.0, not-false q x.1)

kept_cond : {A : Type 0} (c : Bool) (w v : Outcome A) → (c ≡ true → Kept w.after) → (c ≡ false → Kept v.after) → Kept (cond c w v).after
kept_cond c w v p q = cond_both c w v (λ x. Kept x.after) p q

pub kept_blank : Kept blank
unfolding blank
kept_blank = record {
  room = omega arith;
  numbers = λ n e h. absurd (none_live 1024 n e h);
  rising = λ n e h. absurd (none_live 1024 n e h);
  nodes = λ n e h. absurd (none_live 1024 n e h);
  trims = λ n e h. absurd (none_live 1024 n e h);
  starts = λ v t h. absurd (none_live 256 v t h);
  ends = λ v t h. absurd (none_live 256 v t h);
}

-- one arc written
kept_put : (b : Block) (n : ℕ) (o : Option LiveArc) → Kept b
    → ((e : LiveArc) → o ≡ Some e → (n < b.taken) × Precedes e.from e.to × (e.to < 256) × (is_ticks e.trim ≡ true)) → Kept (put_arc b n o)
kept_put b n o k new = record {
  room = k.room;
  numbers = put_live b.arcs n o (λ m _. m < b.taken) k.numbers (λ e h. (new e h).0);
  rising = put_live b.arcs n o (λ _ e. Precedes e.from e.to) k.rising (λ e h. (new e h).1);
  nodes = put_live b.arcs n o (λ _ e. e.to < 256) k.nodes (λ e h. (new e h).2);
  trims = put_live b.arcs n o (λ _ e. is_ticks e.trim ≡ true) k.trims (λ e h. (new e h).3);
  starts = k.starts;
  ends = k.ends;
}

kept_next : (b : Block) (u v : ℕ) → Kept b → u < v → v < 256 → Kept (next_arc b u v).after
kept_next b u v k r low = kept_cond (eqb b.taken 1024) _ _ (λ _. k) (λ h. record {
  room = let ne : b.taken ≡ 1024 → ⊥ = λ e. both_ways _ h (eq-eqb b.taken 1024 e) in let l = k.room in omega (arith, ne);
  numbers = put_live b.arcs b.taken _ (λ m _. m < b.taken + 1) (λ m e q. let w = k.numbers m e q in omega arith) (λ e q. omega arith);
  rising = put_live b.arcs b.taken _ (λ _ e. Precedes e.from e.to) k.rising (λ e q. subst (λ x. Precedes x.from x.to) (some_same _ e q) r);
  nodes = put_live b.arcs b.taken _ (λ _ e. e.to < 256) k.nodes (λ e q. subst (λ x. x.to < 256) (some_same _ e q) low);
  trims = put_live b.arcs b.taken _ (λ _ e. is_ticks e.trim ≡ true) k.trims (λ e q. subst (λ x. is_ticks x.trim ≡ true) (some_same _ e q) refl);
  starts = k.starts;
  ends = k.ends;
})

pub kept_arc : (b : Block) (u v : ℤ) → Kept b → Kept (with_arc b u v).after
kept_arc b u v k =
    kept_cond (not (is_node u) || not (is_node v)) _ _ (λ _. k)
    (λ n. kept_cond (not (precedes (nat_abs u) (nat_abs v))) _ _ (λ _. k)
    (λ h. kept_next b (nat_abs u) (nat_abs v) k (ltb-true (nat_abs u) (nat_abs v) (not-false (precedes (nat_abs u) (nat_abs v)) h)) (node_below v (both_true (is_node u) (is_node v) n).1)))

kept_dropped : (b : Block) (n : ℕ) (o : Option LiveArc) → Kept b → Kept (dropped b n o).after
kept_dropped b n None k = k
kept_dropped b n (Some e) k = kept_cond (eqb e.sets 0) _ _ (λ _. kept_put b n None k (λ x h. absurd (none_some x h))) (λ _. k)

pub kept_drop : (b : Block) (n : ℤ) → Kept b → Kept (without_arc b n).after
kept_drop b n k = kept_cond (not (is_arc n)) _ _ (λ _. k) (λ _. kept_dropped b (nat_abs n) (arc_at b (nat_abs n)) k)

times_put : (times : List (Option ℤ)) (v : ℕ) (t : ℤ) → is_ticks t ≡ true → ((u : ℕ) (x : ℤ) → get_or times u None ≡ Some x → is_ticks x ≡ true)
    → (u : ℕ) (x : ℤ) → get_or (set times v (Some t)) u None ≡ Some x → is_ticks x ≡ true
times_put times v t h old = put_live times v (Some t) (λ _ x. is_ticks x ≡ true) old (λ x q. subst (λ y. is_ticks y ≡ true) (some_same t x q) h)

pub kept_start : (b : Block) (v t : ℤ) → Kept b → Kept (with_start b v t).after
kept_start b v t k = kept_cond (not (is_node v) || not (is_ticks t)) _ _ (λ _. k) (λ h. record {
  room = k.room;
  numbers = k.numbers;
  rising = k.rising;
  nodes = k.nodes;
  trims = k.trims;
  starts = times_put b.starts (nat_abs v) t (both_true (is_node v) (is_ticks t) h).1 k.starts;
  ends = k.ends;
})

pub kept_end : (b : Block) (v t : ℤ) → Kept b → Kept (with_end b v t).after
kept_end b v t k = kept_cond (not (is_node v) || not (is_ticks t)) _ _ (λ _. k) (λ h. record {
  room = k.room;
  numbers = k.numbers;
  rising = k.rising;
  nodes = k.nodes;
  trims = k.trims;
  starts = k.starts;
  ends = times_put b.ends (nat_abs v) t (both_true (is_node v) (is_ticks t) h).1 k.ends;
})

kept_trimmed : (b : Block) (n : ℕ) (t : ℤ) (o : Option LiveArc) → Kept b → arc_at b n ≡ o → is_ticks t ≡ true → Kept (trimmed b n t o).after
kept_trimmed b n t None k live h = k
kept_trimmed b n t (Some e) k live h = kept_put b n (Some (re_trimmed e t)) k (λ x q.
    let s = some_same (re_trimmed e t) x q in
    (k.numbers n e live, subst (λ y. Precedes y.from y.to) s (k.rising n e live), subst (λ y. y.to < 256) s (k.nodes n e live), subst (λ y. is_ticks y.trim ≡ true) s h))

pub kept_trim : (b : Block) (n t : ℤ) → Kept b → Kept (with_trim b n t).after
kept_trim b n t k =
    kept_cond (not (is_arc n) || not (is_ticks t)) _ _ (λ _. k)
    (λ h. kept_trimmed b (nat_abs n) t (arc_at b (nat_abs n)) k refl (both_true (is_arc n) (is_ticks t) h).1)

pub kept_clear : (b : Block) (s : ℤ) → Kept b → Kept (with_cleared b s).after
kept_clear b s k = kept_cond (not (is_set s)) _ _ (λ _. k) (λ _.
    let f = cleared (nat_abs s) in let keeps = cleared_keeps (nat_abs s) in record {
      room = k.room;
      numbers = numbered_map f keeps b.arcs _ refl b.taken k.numbers;
      rising = rising_map f keeps b.arcs _ refl k.rising;
      nodes = nodes_map f keeps b.arcs _ refl k.nodes;
      trims = trims_map f keeps b.arcs _ refl k.trims;
      starts = k.starts;
      ends = k.ends;
    })

-- an arc that may have joined a set is the old one but for its sets
joined_was : (s : ℕ) (t : Bool) (o : Option LiveArc) (P : LiveArc → Type 0) → ((e : LiveArc) (m : ℕ) → P e → P (record { from = e.from; to = e.to; trim = e.trim; sets = m }))
    → ((e : LiveArc) → o ≡ Some e → P e) → (e : LiveArc) → cond t (in_set s o) o ≡ Some e → P e
joined_was s false o P keep old e h = old e h
joined_was s true None P keep old e h = absurd (none_some e h)
joined_was s true (Some x) P keep old e h = subst P (some_same _ e h) (keep x _ (old x refl))

kept_marked : (b : Block) (s u v : ℕ) (b' : Block) → Kept b → Marked b s u v b' → Kept b'
kept_marked b s u v b' k m = record {
  room = subst (λ n. n ≤ 1024) (sym m.taken) k.room;
  numbers = λ n e h. subst (λ x. n < x) (sym m.taken) (was n (λ _. n < b.taken) (λ e i x. x) (k.numbers n) e h);
  rising = λ n e h. was n (λ e. Precedes e.from e.to) (λ e i x. x) (k.rising n) e h;
  nodes = λ n e h. was n (λ e. e.to < 256) (λ e i x. x) (k.nodes n) e h;
  trims = λ n e h. was n (λ e. is_ticks e.trim ≡ true) (λ e i x. x) (k.trims n) e h;
  starts = λ w t h. k.starts w t (ap (λ xs. get_or xs w None) (sym m.starts) ∙ h);
  ends = λ w t h. k.ends w t (ap (λ xs. get_or xs w None) (sym m.ends) ∙ h);
}
  where
    was : (n : ℕ) (P : LiveArc → Type 0) → ((e : LiveArc) (i : ℕ) → P e → P (record { from = e.from; to = e.to; trim = e.trim; sets = i }))
        → ((e : LiveArc) → arc_at b n ≡ Some e → P e) → (e : LiveArc) → arc_at b' n ≡ Some e → P e
    was n P keep old e h = let x = m.arcs n in joined_was s x.0 (arc_at b n) P keep old e (sym x.2 ∙ h)

pub kept_paired_in : (b : Block) (s u v : ℕ) (r : Result Unit ℕ) (b' : Block) → Kept b → PairedIn b s u v r b' → Kept b'
kept_paired_in b s u v (Ok _) b' k p = kept_marked b s u v b' k p.1
kept_paired_in b s u v (Err e) b' k p = subst Kept (sym p.2) k

pub kept_paired : (b : Block) (s u v : ℤ) (r : Result Unit ℕ) (b' : Block) → Kept b → Paired b s u v r b' → Kept b'
kept_paired b s u v r b' k p =
    let out = not (is_set s) || not (is_node u) || not (is_node v) in
    let Out = (r ≡ Err 6) × (b' ≡ b) in
    let In = PairedIn b (nat_abs s) (nat_abs u) (nat_abs v) r b' in
    ⊎_elim (λ (h : out ≡ true). subst Kept (sym (when_true Out In h p).1) k) (λ (h : out ≡ false). kept_paired_in b _ _ _ r b' k (when_false Out In h p)) (cases_Bool out)
