-- What a call that is not refused comes to.
use Rattle.std.proofs.Common.{◌≡◌, ℕ, ◌+◌, Bool, true, cond, not, ◌||◌, List, map, set, ℤ, pos, nat_abs, Some, None, Ok, Err, Option, Result, sym, refl, ap, ◌∙◌, subst, w32, SFits, to_z, of_z}
use Rattle.std.specs.Prelude.{MatchBool}
use Rattle.std.specs.Option.{ok_or}
use Rattle.std.proofs.lemmas.Int.{to_z-of_z}
use Rattle.std.proofs.lemmas.List.{map-set}
use Rattle.std.proofs.lemmas.Bool.{eq-eqb, ne_eqb, cond-false, not_from_true, or_from}
use Rattle.graph.specs.declared.parts.LiveArc.{LiveArc}
use Rattle.graph.specs.declared.parts.ArcSlot.{ArcSlot}
use Rattle.graph.specs.declared.parts.TimeSlot.{TimeSlot}
use Rattle.graph.specs.Order.{precedes}
use Rattle.graph.specs.Ranges.{is_node, is_arc, is_set, is_ticks}
use Rattle.graph.specs.Slots.{slot_arc, slot_time, arcs_of, times_of}
use Rattle.graph.specs.Block.{Block, Outcome, SetsTime, accepted, refused, arc_at, put_arc, dropped, trimmed, re_trimmed, with_arc, without_arc, with_trim}
use Rattle.graph.specs.Sets.{cleared, with_cleared}
use Rattle.graph.specs.Pair.{PairedIn, Paired}

-- n is the number z, which passes the test
abbrev pub Read : (ℤ → Bool) → ℤ → ℕ → Type 0
Read test z n = (test z ≡ true) × (n ≡ nat_abs z)

-- t is the tick count z, which is in range
abbrev pub ReadTicks : ℤ → ℤ → Type 0
ReadTicks z t = (is_ticks z ≡ true) × (t ≡ z)

-- the code passes a number on by its bits
pub read : (test : ℤ → Bool) (z : ℤ) (n : ℕ) → SFits w32 z → Read test (to_z w32 (of_z w32 z)) n → Read test z n
read test z n f h = subst (λ x. Read test x n) (to_z-of_z w32 z f) h

pub read_ticks : (z t : ℤ) → SFits w32 z → SFits w32 t → ReadTicks (to_z w32 (of_z w32 z)) t → ReadTicks z (to_z w32 (of_z w32 t))
read_ticks z t f g h = subst (ReadTicks z) (sym (to_z-of_z w32 t g)) (subst (λ x. ReadTicks x t) (to_z-of_z w32 z f) h)

pub found : {X E : Type 0} (o : Option X) (e : E) (x : X) → ok_or o e ≡ Ok x → Some x ≡ o
found None e x h = cc
found (Some y) e x h = cc

passed : {A : Type 0} (p : Bool) (w v : A) → p ≡ true → v ≡ cond (not p) w v
passed p w v h = sym (cond-false (not p) w v (not_from_true p h))

both_passed : {A : Type 0} (p q : Bool) (w v : A) → p ≡ true → q ≡ true → v ≡ cond (not p || not q) w v
both_passed p q w v h k = sym (cond-false (not p || not q) w v (or_from (not p) (not q) (not_from_true p h) (not_from_true q k)))

module _ (n : ℕ) (slots : List ArcSlot) (ss es : List (Option ℤ)) where
  abbrev stored : Block
  stored = record { taken = n; arcs = arcs_of slots; starts = ss; ends = es }

  abbrev new_slot : ℕ → ℕ → ArcSlot
  new_slot u v = record { live = true; arc = record { from = u; to = v; trim = pos 0; sets = 0 } }

  abbrev added_at : ℕ → ℕ → Outcome ℕ
  added_at u v = accepted n (record { taken = n + 1; arcs = arcs_of (set slots n (new_slot u v)); starts = ss; ends = es })

  pub added : (u v : ℤ) (from to : ℕ) → Read is_node u from → Read is_node v to → precedes from to ≡ true → (n ≡ 1024 → ⊥) → added_at from to ≡ with_arc stored u v
  added u v from to hu hv r full =
      let up : precedes (nat_abs u) (nat_abs v) ≡ true = subst (λ y. precedes (nat_abs u) y ≡ true) hv.1 (subst (λ x. precedes x to ≡ true) hu.1 r) in
      ap (λ x. added_at x to) hu.1
      ∙ ap (added_at (nat_abs u)) hv.1
      ∙ ap (λ xs. accepted n (record { taken = n + 1; arcs = xs; starts = ss; ends = es })) (map-set slot_arc slots n (new_slot (nat_abs u) (nat_abs v)))
      ∙ ap (λ t. cond t (refused stored 8) (accepted n (record { taken = n + 1; arcs = set (arcs_of slots) n (slot_arc (new_slot (nat_abs u) (nat_abs v))); starts = ss; ends = es }))) (sym (ne_eqb n 1024 full))
      ∙ passed (precedes (nat_abs u) (nat_abs v)) (refused stored 7) _ up
      ∙ both_passed (is_node u) (is_node v) (refused stored 6) _ hu.0 hv.0

  abbrev put_at : ℕ → ArcSlot → Outcome Unit
  put_at k s = accepted tt (record { taken = n; arcs = arcs_of (set slots k s); starts = ss; ends = es })

  put_is : (k : ℕ) (s : ArcSlot) → put_at k s ≡ accepted tt (put_arc stored k (slot_arc s))
  put_is k s = ap (λ xs. accepted tt (record { taken = n; arcs = xs; starts = ss; ends = es })) (map-set slot_arc slots k s)

  pub gone : (z : ℤ) (k : ℕ) (e : LiveArc) (s : ArcSlot) → Read is_arc z k → Some e ≡ arc_at stored k → e.sets ≡ 0 → slot_arc s ≡ None → put_at k s ≡ without_arc stored z
  gone z k e s h live out dead =
      put_is k s
      ∙ ap (λ o. accepted tt (put_arc stored k o)) dead
      ∙ ap (λ t. cond t (accepted tt (put_arc stored k None)) (refused stored 10)) (sym (eq-eqb e.sets 0 out))
      ∙ ap (dropped stored k) live
      ∙ ap (λ x. dropped stored x (arc_at stored x)) h.1
      ∙ passed (is_arc z) (refused stored 6) _ h.0

  pub retrimmed : (z y : ℤ) (k : ℕ) (t : ℤ) (e : LiveArc) → Read is_arc z k → ReadTicks y t → Some e ≡ arc_at stored k
      → put_at k (record { live = true; arc = re_trimmed e t }) ≡ with_trim stored z y
  retrimmed z y k t e h r live =
      put_is k (record { live = true; arc = re_trimmed e t })
      ∙ ap (trimmed stored k t) live
      ∙ ap (λ x. trimmed stored x t (arc_at stored x)) h.1
      ∙ ap (λ x. trimmed stored (nat_abs z) x (arc_at stored (nat_abs z))) r.1
      ∙ both_passed (is_arc z) (is_ticks y) (refused stored 6) _ h.0 r.0

pub timed : (slots : List TimeSlot) (z y : ℤ) (k : ℕ) (t : ℤ) → Read is_node z k → ReadTicks y t
    → SetsTime (times_of slots) z y (Ok tt) (times_of (set slots k (record { set = true; ticks = t })))
timed slots z y k t h r =
    let left = times_of (set slots k (record { set = true; ticks = t })) in
    let no : ◌≡◌ {A = Result Unit ℕ} (Ok tt) (Ok tt) = refl in
    subst (λ b. MatchBool b ((◌≡◌ {A = Result Unit ℕ} (Ok tt) (Err 6)) × (left ≡ times_of slots)) ((◌≡◌ {A = Result Unit ℕ} (Ok tt) (Ok tt)) × (left ≡ set (times_of slots) (nat_abs z) (Some y)))) (sym (or_from (not (is_node z)) (not (is_ticks y)) (not_from_true (is_node z) h.0) (not_from_true (is_ticks y) r.0)))
    (no, map-set slot_time slots k (record { set = true; ticks = t }) ∙ ap (λ x. set (times_of slots) x (Some t)) h.1 ∙ ap (λ x. set (times_of slots) (nat_abs z) (Some x)) r.1)

pub emptied : (b : Block) (arcs : List (Option LiveArc)) (z : ℤ) (s : ℕ) → Read is_set z s → arcs ≡ map (cleared s) b.arcs
    → accepted tt (record { taken = b.taken; arcs = arcs; starts = b.starts; ends = b.ends }) ≡ with_cleared b z
emptied b arcs z s h q =
    ap (λ xs. accepted tt (record { taken = b.taken; arcs = xs; starts = b.starts; ends = b.ends })) (q ∙ ap (λ x. map (cleared x) b.arcs) h.1)
    ∙ passed (is_set z) (refused b 6) _ h.0

pub paired_read : (b : Block) (z u v : ℤ) (s from to : ℕ) (r : Result Unit ℕ) (b' : Block) → Read is_set z s → Read is_node u from → Read is_node v to → PairedIn b s from to r b' → Paired b z u v r b'
paired_read b z u v s from to r b' hs hu hv h =
    subst (λ t. MatchBool t ((r ≡ Err 6) × (b' ≡ b)) (PairedIn b (nat_abs z) (nat_abs u) (nat_abs v) r b'))
    (sym (or_from (not (is_set z) || not (is_node u)) (not (is_node v)) (or_from (not (is_set z)) (not (is_node u)) (not_from_true (is_set z) hs.0) (not_from_true (is_node u) hu.0)) (not_from_true (is_node v) hv.0)))
    (subst (λ x. PairedIn b x (nat_abs u) (nat_abs v) r b') hs.1 (subst (λ x. PairedIn b s x (nat_abs v) r b') hu.1 (subst (λ x. PairedIn b s from x r b') hv.1 h)))
