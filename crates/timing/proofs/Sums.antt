-- Sums of rows that are near zero are answered, and tick counts in range are read as they stand.
use Rattle.std.proofs.Common.{◌≡◌, ℕ, ◌≤◌, true, ℤ, is_some, Some, None, Option, refl, ap, ◌∙◌, arith, w32, to_z, of_z}
use Rattle.std.proofs.lemmas.Int.{ints, to_z-of_z}
use Rattle.measure.specs.declared.measure.Measure.{Ghosts as Measure}
use Rattle.measure.specs.Rows.{Bounded, on_some, plus, negated, summed}
use Rattle.measure.specs.Bounds.{bounded_negated}
use Rattle.measure.proofs.Bounds.{summed_within}
use Rattle.graph.specs.Ranges.{is_ticks}
use Rattle.paths.proofs.Making.{ticks_within}

pub answered : {A B : Type 0} (f : A → B) (r : Option A) (y : B) → on_some f r ≡ Some y → is_some r ≡ true
answered f None y e = absurd (let z : ◌≡◌ {A = ℕ} 0 1 = cc in omega arith)
answered f (Some x) y e = refl

pub answer_is : {A B : Type 0} (f : A → B) (r : Option A) (y : B) (x : A) → on_some f r ≡ Some y → r ≡ Some x → f x ≡ y
answer_is f None y x e r = absurd (let z : ◌≡◌ {A = ℕ} 0 1 = cc in omega arith)
answer_is f (Some z) y x e r = cc

module _ {M : Type 0} (m : Measure M) (a : M) (near : Bounded m.width 256000000 (m.row a)) where
  -- an arrival and a delay
  pub passing_sum : (b : M) (r : Option M) → Bounded m.width 1000000 (m.row b) → on_some m.row r ≡ summed m.width (m.row a) (m.row b) → on_some m.row r ≡ Some (plus m.width (m.row a) (m.row b))
  passing_sum b r small e = e ∙ summed_within m.width 256000000 1000000 (m.row a) (m.row b) (omega arith) near small

  -- a required time less a delay, and less an arrival
  pub asking_sum : (k : ℕ) (b c : M) (r : Option M) → k ≤ 256000000 → Bounded m.width k (m.row b) → m.row c ≡ negated m.width (m.row b) → on_some m.row r ≡ summed m.width (m.row a) (m.row c)
      → on_some m.row r ≡ Some (plus m.width (m.row a) (negated m.width (m.row b)))
  asking_sum k b c r h small n e =
      e ∙ ap (summed m.width (m.row a)) n ∙ summed_within m.width 256000000 k (m.row a) (negated m.width (m.row b)) (omega arith) near (bounded_negated m.width k (m.row b) small)

-- a tick count in range is read from its 32 bits
pub read_ticks : (z : ℤ) → is_ticks z ≡ true → to_z w32 (of_z w32 z) ≡ z
read_ticks z e = let within = ticks_within z e in to_z-of_z w32 z (omega (arith, ints))
