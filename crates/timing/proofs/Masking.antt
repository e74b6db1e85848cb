-- The sets that begin and end at the nodes, from those of the arcs.
use Rattle.std.proofs.Common.{◌≡◌, ℕ, zero, suc, ◌+◌, ◌-◌, ◌/◌, ◌%◌, ◌^◌, ◌<◌, Bool, true, false, cond, not, ◌&&◌, ◌||◌, eqb, List, [], ◌∷◌, length, get_or, take, set, Some, None, Option, sym, refl, ap, ◌∙◌, ap₂, ⊎_elim, pow-suc, add-one, arith}
use lib.Bits.{bit_and, bit_or, and_le_l}
use Rattle.std.specs.List.{list_any}
use Rattle.std.proofs.lemmas.List.{get_or-set_same, get_or-set_other, length-set}
use Rattle.std.proofs.lemmas.Bool.{eq-eqb, ne_eqb, cases_eq}
use Rattle.graph.specs.declared.parts.LiveArc.{LiveArc}
use Rattle.graph.specs.declared.parts.ArcEnd.{ArcEnd}
use Rattle.graph.specs.declared.parts.ArcEnd.TheVariants.{Tail, Head}
use Rattle.graph.specs.Index.{node_at}
use Rattle.paths.specs.Tags.{set_count, has, tag_of}
use Rattle.paths.specs.Blocks.{leaves, enters, begin_sets, end_sets}
use Rattle.paths.proofs.TagLaws.{has_and, has_or}
use Rattle.timing.specs.WithRows.{bare}
use Rattle.timing.specs.Masks.{at_node, Gathered, with_sets, sets_without, Masked}
use Rattle.timing.proofs.Blocks.{tag_of_same, leaves_with, enters_with}

-- ---- tags by their bits
or_false : (x : Bool) → (x || false) ≡ x
or_false true = refl
or_false false = refl

and_true : (x : Bool) → (x && true) ≡ x
and_true true = refl
and_true false = refl

and_false : (x : Bool) → (x && false) ≡ false
and_false true = refl
and_false false = refl

or_assoc : (x y z : Bool) → ((x || y) || z) ≡ (x || (y || z))
or_assoc true y z = refl
or_assoc false y z = refl

odd : (r : ℕ) → r < 2 → cond (eqb r 1) 1 0 ≡ r
odd zero h = refl
odd (suc zero) h = refl
odd (suc (suc r)) h = absurd (omega arith)

tag_of_has : (n y : ℕ) → y < 2 ^ n → tag_of n (has y) ≡ y
tag_of_has zero y h = omega arith
tag_of_has (suc n) y h = omega (arith, tag_of_has n (y / 2) (omega (arith, pow-suc 2 n)), odd (y % 2) (omega arith))

flip_low : (r s : ℕ) → r < 2 → s ≡ 1 - r → eqb s 1 ≡ not (eqb r 1)
flip_low zero s h e = ap (λ n. eqb n 1) e
flip_low (suc zero) s h e = ap (λ n. eqb n 1) e
flip_low (suc (suc r)) s h e = absurd (omega arith)

has_not : (n y i : ℕ) → y < 2 ^ n → i < n → has ((2 ^ n - 1) - y) i ≡ not (has y i)
has_not zero y i h l = absurd (omega arith)
has_not (suc n) y zero h l = flip_low (y % 2) (((2 ^ suc n - 1) - y) % 2) (omega arith) (omega (arith, pow-suc 2 n))
has_not (suc n) y (suc i) h l =
    let e : ((2 ^ suc n - 1) - y) / 2 ≡ (2 ^ n - 1) - y / 2 = omega (arith, pow-suc 2 n) in
    ap (λ x. has x i) e ∙ has_not n (y / 2) i (omega (arith, pow-suc 2 n)) (omega arith)

-- ---- one more arc
module _ (f : Option LiveArc → Bool) (none : f None ≡ false) where
  any_more : (os : List (Option LiveArc)) (i : ℕ) → list_any f (take (suc i) os) ≡ (list_any f (take i os) || f (get_or os i None))
  any_more [] zero = sym none
  any_more [] (suc i) = sym none
  any_more (o ∷ os) zero = or_false (f o)
  any_more (o ∷ os) (suc i) = ap (λ t. f o || t) (any_more os i) ∙ sym (or_assoc (f o) (list_any f (take i os)) (f (get_or os i None)))

  -- no arc is live from n on
  pub any_all : (os : List (Option LiveArc)) (n : ℕ) → ((k : ℕ) (e : LiveArc) → get_or os k None ≡ Some e → k < n) → list_any f (take n os) ≡ list_any f os
  any_all [] zero h = refl
  any_all [] (suc n) h = refl
  any_all (None ∷ os) zero h = sym (ap (λ t. t || list_any f os) none ∙ sym (any_all os zero (λ k e l. absurd (omega (arith, h (suc k) e l)))))
  any_all (Some e ∷ os) zero h = absurd (omega (arith, h 0 e refl))
  any_all (o ∷ os) (suc n) h = ap (λ t. f o || t) (any_all os n (λ k e l. omega (arith, h (suc k) e l)))

pub gathered_none : (end : ArcEnd) (os : List (Option LiveArc)) (masks : List ℕ) → ((v : ℕ) → v < 256 → get_or masks v 0 ≡ 0) → ((i : ℕ) → has 0 i ≡ false) → Gathered end (take 0 os) masks
gathered_none end [] masks z h v i l = ap (λ x. has x i) (z v l) ∙ h i
gathered_none end (o ∷ os) masks z h v i l = ap (λ x. has x i) (z v l) ∙ h i

pub length-with_sets : (end : ArcEnd) (o : Option LiveArc) (masks : List ℕ) → length (with_sets end o masks) ≡ length masks
length-with_sets end None masks = refl
length-with_sets end (Some e) masks = length-set masks (node_at end e) (bit_or (get_or masks (node_at end e) 0) e.sets)

pub gathered_more : (end : ArcEnd) (os : List (Option LiveArc)) (masks : List ℕ) (n : ℕ) → length masks ≡ 256 → Gathered end (take n os) masks → Gathered end (take (n + 1) os) (with_sets end (get_or os n None) masks)
gathered_more end os masks n s g v i l =
    go (get_or os n None) ∙ sym (any_more (at_node end v i) refl os n) ∙ ap (λ k. list_any (at_node end v i) (take k os)) (sym (add-one n))
  where
    before : Bool
    before = list_any (at_node end v i) (take n os)

    go : (o : Option LiveArc) → has (get_or (with_sets end o masks) v 0) i ≡ (before || at_node end v i o)
    go None = g v i l ∙ sym (or_false before)
    go (Some e) =
        let k = node_at end e in
        let y = bit_or (get_or masks k 0) e.sets in
        ⊎_elim
        (λ q.
        ap (λ u. has (get_or (set masks k y) u 0) i) q
        ∙ ap (λ x. has x i) (get_or-set_same masks k y 0 (omega (arith, q)))
        ∙ has_or i (get_or masks k 0) e.sets
        ∙ ap₂ (λ p r. p || r) (ap (λ u. has (get_or masks u 0) i) (sym q) ∙ g v i l) (sym (and_true (has e.sets i)) ∙ ap (λ t. has e.sets i && t) (sym (eq-eqb k v (sym q)))))
        (λ ne.
        ap (λ x. has x i) (get_or-set_other masks k v y 0 ne)
        ∙ g v i l
        ∙ sym (or_false before)
        ∙ ap (λ t. before || t) (sym (ap (λ t. has e.sets i && t) (ne_eqb k v (λ q. ne (sym q))) ∙ and_false (has e.sets i))))
        (cases_eq v k)

pub gathered_all : (end : ArcEnd) (os : List (Option LiveArc)) (masks : List ℕ) (n : ℕ) → ((k : ℕ) (e : LiveArc) → get_or os k None ≡ Some e → k < n) → Gathered end (take n os) masks → Gathered end os masks
gathered_all end os masks n h g v i l = g v i l ∙ any_all (at_node end v i) refl os n h

-- ---- a ∧ ¬b is the sets of a without those of b
pub and_not : (a b : ℕ) → a < 65536 → b < 65536 → bit_and a (65535 - b) ≡ sets_without b a
and_not a b ha hb =
    sym (tag_of_has 16 (bit_and a (65535 - b)) (omega (arith, and_le_l a (65535 - b))))
    ∙ tag_of_same 16 (has (bit_and a (65535 - b))) (λ i. has a i && not (has b i)) (λ i l. has_and i a (65535 - b) ∙ ap (λ q. has a i && q) (has_not 16 b i hb l))

-- the sets at the nodes, apart from each other
module _ (os : List (Option LiveArc)) (outs ins : List ℕ) (leaving : Gathered Tail os outs) (entering : Gathered Head os ins) where
  begins_there : (v : ℕ) → v < 256 → sets_without (get_or ins v 0) (get_or outs v 0) ≡ begin_sets (bare os) v
  unfolding begin_sets
  begins_there v h =
      tag_of_same set_count _ (λ i. leaves (bare os) i v && not (enters (bare os) i v))
      (λ i _. ap₂ (λ p q. p && not q) (leaving v i h ∙ sym (leaves_with tt [] i v 0 os)) (entering v i h ∙ sym (enters_with tt [] i v 0 os)))

  ends_there : (v : ℕ) → v < 256 → sets_without (get_or outs v 0) (get_or ins v 0) ≡ end_sets (bare os) v
  unfolding end_sets
  ends_there v h =
      tag_of_same set_count _ (λ i. enters (bare os) i v && not (leaves (bare os) i v))
      (λ i _. ap₂ (λ p q. q && not p) (leaving v i h ∙ sym (leaves_with tt [] i v 0 os)) (entering v i h ∙ sym (enters_with tt [] i v 0 os)))

  pub parted : (begins ends : List ℕ) → ((v : ℕ) → v < 256 → get_or begins v 0 ≡ sets_without (get_or ins v 0) (get_or outs v 0))
      → ((v : ℕ) → v < 256 → get_or ends v 0 ≡ sets_without (get_or outs v 0) (get_or ins v 0)) → Masked os begins ends
  parted begins ends b e = record { begins_are = λ v h. b v h ∙ begins_there v h; ends_are = λ v h. e v h ∙ ends_there v h }
