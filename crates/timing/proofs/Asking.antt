-- Asking for the ticks of one arc after the other.
use Rattle.std.proofs.Common.{◌≡◌, ℕ, zero, suc, ◌+◌, ◌<◌, List, [], ◌∷◌, get_or, ℤ, pos, Some, None, Ok, Err, Option, Result, sym, refl, ap, subst, ap₂, subst₂, arith}
use Rattle.std.specs.Result.{result_map_both}
use Rattle.delay.specs.Entries.{Entry}
use Rattle.graph.specs.declared.parts.LiveArc.{LiveArc}
use Rattle.graph.specs.Kept.{Live}
use Rattle.paths.specs.Graphs.{Untimed, arc_ticks, arc_of, in_front, by_node, arcs_in_ticks}
use Rattle.paths.proofs.Choosing.{some_is, none_some}
use Rattle.timing.specs.declared.refusals.TimeRefusal.{TimeRefusal}
use Rattle.timing.specs.Refusals.{stopped}
use Rattle.timing.specs.Asking.{or_refused, AskedOne, HasTicks}

refused_from : (o : Result ℤ Untimed) (x : TimeRefusal) → Err x ≡ or_refused o → (u : Untimed) × (o ≡ Err u) × (x ≡ stopped u)
refused_from (Ok d) x e = absurd (let z : ◌≡◌ {A = ℕ} 0 1 = cc in omega arith)
refused_from (Err u) x e = (u, refl, cc)

pub one_stops : (k : ℕ) (arc : Option LiveArc) (e : LiveArc) (means : ℕ → Entry) (old new : List ℤ) (r : Result Unit TimeRefusal) (x : TimeRefusal) → arc ≡ Some e → r ≡ Err x
    → Err x ≡ or_refused (arc_ticks k e.trim (means k)) → AskedOne k arc means old new r
one_stops k arc e means old new r x p q h =
    subst₂ (λ (a : Option LiveArc) (s : Result Unit TimeRefusal). AskedOne k a means old new s) (sym p) (sym q) (refused_from (arc_ticks k e.trim (means k)) x h)

module _ (means : ℕ → Entry) (arcs : List (Option LiveArc)) where
  -- the live arcs below n have their ticks in the table
  abbrev pub AskedTo : List ℤ → ℕ → Type 0
  AskedTo ticks n = (k : ℕ) (e : LiveArc) → k < n → Live arcs k e → HasTicks means ticks k e

-- the first live arc without ticks stops the timing
module _ (means : ℕ → Entry) where
  stops_at : (n j : ℕ) (os : List (Option LiveArc)) (f : LiveArc) (u : Untimed) → get_or os j None ≡ Some f → arc_ticks (n + j) f.trim (means (n + j)) ≡ Err u
      → ((k : ℕ) (e : LiveArc) → k < j → get_or os k None ≡ Some e → (d : ℤ) × (arc_ticks (n + k) e.trim (means (n + k)) ≡ Ok d)) → arcs_in_ticks by_node means n os ≡ Err u
  stops_at n j [] f u l s lower = absurd (none_some f l)
  stops_at n zero (None ∷ os) f u l s lower = absurd (none_some f l)
  stops_at n (suc j) (None ∷ os) f u l s lower =
      stops_at (suc n) j os f u l (let z : n + suc j ≡ suc n + j = omega arith in subst (λ i. arc_ticks i f.trim (means i) ≡ Err u) z s)
      (λ k e h m. let w = lower (suc k) e (omega arith) m in let z : n + suc k ≡ suc n + k = omega arith in (w.0, subst (λ i. arc_ticks i e.trim (means i) ≡ Ok w.0) z w.1))
  stops_at n zero (Some e ∷ os) f u l s lower =
      let same : f ≡ e = sym (some_is e f l) in
      let z : n + 0 ≡ n = omega arith in
      let here : arc_ticks n e.trim (means n) ≡ Err u = subst₂ (λ (i : ℕ) (y : LiveArc). arc_ticks i y.trim (means i) ≡ Err u) z same s in
      ap (λ t. in_front (result_map_both (arc_of by_node n e) (λ x. x) t) (arcs_in_ticks by_node means (suc n) os)) here
  stops_at n (suc j) (Some e ∷ os) f u l s lower =
      let w = lower 0 e (omega arith) refl in
      let z : n + 0 ≡ n = omega arith in
      let here : arc_ticks n e.trim (means n) ≡ Ok w.0 = subst (λ i. arc_ticks i e.trim (means i) ≡ Ok w.0) z w.1 in
      ap₂ (λ t rest. in_front (result_map_both (arc_of by_node n e) (λ x. x) t) rest) here
      (stops_at (suc n) j os f u l (let y : n + suc j ≡ suc n + j = omega arith in subst (λ i. arc_ticks i f.trim (means i) ≡ Err u) y s)
      (λ k e h m. let v = lower (suc k) e (omega arith) m in let y : n + suc k ≡ suc n + k = omega arith in (v.0, subst (λ i. arc_ticks i e.trim (means i) ≡ Ok v.0) y v.1)))

  pub asked_stops : (arcs : List (Option LiveArc)) (old new : List ℤ) (n : ℕ) (x : TimeRefusal) → AskedTo means arcs old n → AskedOne n (get_or arcs n None) means old new (Err x)
      → (u : Untimed) × (arcs_in_ticks by_node means 0 arcs ≡ Err u) × (x ≡ stopped u)
  asked_stops arcs old new n x a one = go (get_or arcs n None) refl one
    where
      go : (o : Option LiveArc) → get_or arcs n None ≡ o → AskedOne n o means old new (Err x) → (u : Untimed) × (arcs_in_ticks by_node means 0 arcs ≡ Err u) × (x ≡ stopped u)
      go None q s = absurd (let bad = s.0 in let z : ◌≡◌ {A = ℕ} 0 1 = cc in omega arith)
      go (Some f) q s =
          let z : n ≡ 0 + n = omega arith in (
            s.0,
            stops_at 0 n arcs f s.0 q (subst (λ i. arc_ticks i f.trim (means i) ≡ Err s.0) z s.1)
                (λ k e h l. let y : k ≡ 0 + k = omega arith in (get_or old k (pos 0), subst (λ i. arc_ticks i e.trim (means i) ≡ Ok (get_or old k (pos 0))) y (a k e h l).ticks_are)),
            s.2,
          )
