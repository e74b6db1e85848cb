-- The arcs that lie between two swept sides are those on the paths.
use Rattle.std.proofs.Common.{◌≡◌, ℕ, ◌<◌, ◌≤◌, Bool, true, false, cond, not, ◌&&◌, ◌||◌, ◌⊎◌, List, [], ◌∷◌, ◌++◌, map, length, get_or, ℤ, pos, negsuc, nat_abs, Some, None, Ok, Err, Decides, Option, Result, sym, refl, ap, ◌∙◌, subst, inl, inr, arith}
use lib.Signed.{le_z}
use Rattle.std.proofs.lemmas.List.{length-map}
use Rattle.std.proofs.lemmas.Bool.{and_parts, and_from, both_ways, leb-true, not-false}
use Rattle.graph.specs.declared.parts.LiveArc.{LiveArc}
use Rattle.graph.specs.Kept.{Rising}
use Rattle.graph.specs.Block.{Block}
use Rattle.graph.specs.Paths.{Walks, Reach, Between}
use Rattle.graph.specs.Sets.{in_set}
use Rattle.graph.specs.Sweeps.{lies_on, marked}
use Rattle.graph.specs.Pair.{PairedIn, Paired}
use Rattle.graph.proofs.Slots.{slot_at}

module _ (arcs : List (Option LiveArc)) where
  pub walks_join : (u : ℕ) (ns : List ℕ) (w : ℕ) (ms : List ℕ) (v : ℕ) → Walks arcs u ns w → Walks arcs w ms v → Walks arcs u (ns ++ ms) v
  walks_join u [] w ms v p q = subst (λ x. Walks arcs x ms v) (sym p) q
  walks_join u (n ∷ ns) w ms v p q = (p.0, p.1, p.2, walks_join p.0.to ns w ms v p.3 q)

  between_reach : (u v n : ℕ) → Between arcs u v n → Reach arcs u v
  between_reach u v n h = (h.2.0 ++ n ∷ h.3.0, walks_join u h.2.0 h.0.from (n ∷ h.3.0) v h.2.1 (h.0, h.1, refl, h.3.1))

  pub rises : Rising arcs → (u : ℕ) (ns : List ℕ) (v : ℕ) → Walks arcs u ns v → u ≤ v
  rises up u [] v w = omega (arith, w)
  rises up u (n ∷ ns) v w = omega (arith, up n w.0 w.1, w.2, rises up w.0.to ns v w.3)

  between_apart : Rising arcs → (u v n : ℕ) → Between arcs u v n → u < v
  between_apart up u v n h =
      omega (arith, rises up u h.2.0 h.0.from h.2.1, up n h.0 h.1, rises up h.0.to h.3.0 v h.3.1)

  first_between : (u v : ℕ) (ns : List ℕ) → Walks arcs u ns v → (u ≡ v → ⊥) → (n : ℕ) × Between arcs u v n
  first_between u v [] w apart = absurd (apart w)
  first_between u v (n ∷ ns) w apart = (n, (w.0, w.1, ([], sym w.2), (ns, w.3)))

-- which nodes are ahead of from and behind to
pub record Sides (arcs : List (Option LiveArc)) (from to : ℕ) (A B : List Bool) : Type 0 where
  pub ahead : (v : ℕ) → get_or A v false ≡ true → Reach arcs from v
  pub ahead_all : (v : ℕ) → Reach arcs from v → get_or A v false ≡ true
  pub behind : (v : ℕ) → get_or B v false ≡ true → Reach arcs v to
  pub behind_all : (v : ℕ) → Reach arcs v to → get_or B v false ≡ true

module _ (arcs : List (Option LiveArc)) (from to : ℕ) (A B : List Bool) (S : Sides arcs from to A B) where
  between_lies : (n : ℕ) → Between arcs from to n → lies_on A B (get_or arcs n None) ≡ true
  between_lies n h =
      ap (lies_on A B) h.1 ∙ and_from (get_or A h.0.from false) (get_or B h.0.to false) (S.ahead_all _ h.2) (S.behind_all _ h.3)

  lies_by : (o : Option LiveArc) → lies_on A B o ≡ true → (e : LiveArc) × (o ≡ Some e) × Reach arcs from e.from × Reach arcs e.to to
  lies_by None h = absurd (both_ways false refl h)
  lies_by (Some e) h =
      let p = and_parts (get_or A e.from false) (get_or B e.to false) h in (e, refl, S.ahead _ p.0, S.behind _ p.1)

  lies_is_between : (n : ℕ) → lies_on A B (get_or arcs n None) ≡ true → Between arcs from to n
  lies_is_between n h = lies_by (get_or arcs n None) h

  marked_is : (s : ℕ) (arcs' : List (Option LiveArc)) → arcs' ≡ map (marked s A B) arcs → (n : ℕ)
      → (t : Bool) × Decides t (Between arcs from to n) × (get_or arcs' n None ≡ cond t (in_set s (get_or arcs n None)) (get_or arcs n None))
  marked_is s arcs' q n = (
    lies_on A B (get_or arcs n None),
    (lies_is_between n, between_lies n),
    ap (λ xs. get_or xs n None) q ∙ slot_at (marked s A B) None refl arcs n,
  )

pub paired_marked : (b : Block) (s from to : ℕ) (A B : List Bool) → Sides b.arcs from to A B → (from ≡ to → ⊥) → get_or A to false ≡ true
    → (arcs' : List (Option LiveArc)) → arcs' ≡ map (marked s A B) b.arcs
    → PairedIn b s from to (Ok tt) (record { taken = b.taken; arcs = arcs'; starts = b.starts; ends = b.ends })
paired_marked b s from to A B S apart reached arcs' q =
    let r = S.ahead to reached in (
      first_between b.arcs from to r.0 r.1 apart,
      record {
        taken = refl;
        numbers = ap length q ∙ length-map b.arcs (marked s A B);
        starts = refl;
        ends = refl;
        arcs = marked_is b.arcs from to A B S s arcs' q;
      },
    )

-- no path leads on, or the nodes are one
pub paired_none : (b : Block) (s from to : ℕ) (A : List Bool) → Rising b.arcs → ((v : ℕ) → Reach b.arcs from v → get_or A v false ≡ true)
    → (from ≡ to) ⊎ (get_or A to false ≡ false) → PairedIn b s from to (Err 11) b
paired_none b s from to A up all (inl same) = (refl, (λ n h. let z : ⊥ = omega (arith, between_apart b.arcs up from to n h, same) in z), refl)
paired_none b s from to A up all (inr unreached) = (refl, (λ n h. both_ways _ unreached (all to (between_reach b.arcs from to n h))), refl)

-- all three parts of a range check passed
pub three_true : (p q r : Bool) → (not p || not q || not r) ≡ false → (p ≡ true) × (q ≡ true) × (r ≡ true)
three_true true true r h = (refl, refl, not-false r h)
three_true true false r h = absurd (both_ways true h refl)
three_true false q r h = absurd (both_ways true h refl)

-- a number in range is a natural number within the bound
pub in_bounds : (z : ℤ) (top : ℕ) → (le_z (pos 0) z && le_z z (pos top)) ≡ true → (nat_abs z ≤ top) × (z ≡ pos (nat_abs z))
in_bounds (pos n) top h = (leb-true n top (and_parts (le_z (pos 0) (pos n)) (le_z (pos n) (pos top)) h).1, refl)
in_bounds (negsuc n) top h = absurd (both_ways false refl (and_parts (le_z (pos 0) (negsuc n)) (le_z (negsuc n) (pos top)) h).0)

pub moved_pair : (b : Block) (s s' u u' v v' : ℤ) (r : Result Unit ℕ) (b' : Block) → s' ≡ s → u' ≡ u → v' ≡ v → Paired b s' u' v' r b' → Paired b s u v r b'
moved_pair b s s' u u' v v' r b' p q t h = subst (λ x. Paired b x u v r b') p (subst (λ x. Paired b s' x v r b') q (subst (λ x. Paired b s' u' x r b') t h))
