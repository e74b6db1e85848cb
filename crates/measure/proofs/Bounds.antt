-- The test of a row's bounds, and the fact.
use Rattle.std.specs.Prelude.{◌≡◌, ℕ, zero, suc, ◌+◌, ◌≤◌, true, ℤ, pos, neg_ℤ, Some, None, int_le, refl}
use Rattle.std.proofs.Common.{inl, inr, sym, ap, arith}
use Rattle.std.proofs.lemmas.Int.{ints}
use Rattle.std.proofs.lemmas.Bool.{and_parts, and_from, cases_Bool}
use Rattle.measure.specs.Rows.{Row, Within, Bounded, within, bounded, plus, summed}

in_range : (k : ℕ) (x : ℤ) → Within k x → within k x ≡ true
in_range k x w = and_from (int_le (neg_ℤ (pos k)) x) (int_le x (pos k)) (grind (arith, ints)) (grind (arith, ints))

pub from_bounded : (n k : ℕ) (r : Row n) → Bounded n k r → bounded n k r ≡ true
from_bounded zero k r b = refl
from_bounded (suc n) k r b = and_from _ _ (in_range k r.0 b.0) (from_bounded n k r.1 b.1)

pub to_bounded : (n k : ℕ) (r : Row n) → bounded n k r ≡ true → Bounded n k r
to_bounded zero k r e = tt
to_bounded (suc n) k r e =
    let p = and_parts (within k r.0) (bounded n k r.1) e in
    let q = and_parts (int_le (neg_ℤ (pos k)) r.0) (int_le r.0 (pos k)) p.0 in
    (omega (arith, ints), to_bounded n k r.1 p.1)

pub summed_some : (n : ℕ) (a b v : Row n) → v ≡ plus n a b → Bounded n 1000000000 (plus n a b) → Some v ≡ summed n a b
summed_some n a b v e h = rw (from_bounded n 1000000000 (plus n a b) h) (ap Some e)

pub summed_none : (n : ℕ) (a b : Row n) → (Bounded n 1000000000 (plus n a b) → ⊥) → None ≡ summed n a b
summed_none n a b f =
    elim (cases_Bool (bounded n 1000000000 (plus n a b))) [ inl w ↦ absurd (f (to_bounded n 1000000000 (plus n a b) w)) | inr w ↦ rw w ]

pub bounded_plus : (n j k l : ℕ) (a b : Row n) → j + k ≤ l → Bounded n j a → Bounded n k b → Bounded n l (plus n a b)
bounded_plus zero j k l a b h p q = tt
bounded_plus (suc n) j k l a b h p q = ((omega (arith, ints), omega (arith, ints)), bounded_plus n j k l a.1 b.1 h p.1 q.1)

-- a sum of bounded rows that is in range is answered
pub summed_within : (n j k : ℕ) (a b : Row n) → j + k ≤ 1000000000 → Bounded n j a → Bounded n k b → summed n a b ≡ Some (plus n a b)
summed_within n j k a b h p q = sym (summed_some n a b (plus n a b) refl (bounded_plus n j k 1000000000 a b h p q))
