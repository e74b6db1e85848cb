-- Rows of whole numbers, and an order with the four laws in range, give what the proofs ask.
use Rattle.std.proofs.Common.{◌≡◌, ℕ, zero, suc, ◌+◌, ◌-◌, ◌≤◌, max, Bool, true, false, T, ltb, ◌⊎◌, ℤ, pos, negsuc, ◌+ℤ◌, neg_ℤ, nat_abs, sym, refl, subst, inl, inr, arith, ltb→lt}
use lib.IntN.{sub_ℕ, +ℤ_assoc, +ℤ_comm, +ℤ_idr, +ℤ_invr}
use Rattle.std.proofs.lemmas.Int.{ints}
use Rattle.measure.specs.Rows.{Row, Within, Bounded, zeros, plus, negated}
use Rattle.measure.specs.Laws.{Order, InRange}
use Rattle.paths.specs.Rows.{rows}
use Rattle.paths.specs.Blocks.{RowBlock}
use Rattle.paths.specs.Sound.{Sound}
use Rattle.paths.proofs.Choosing.{by_cond}
use Rattle.paths.proofs.RowLaws.{Laws}
use Rattle.paths.proofs.Small.{Given}

-- ---- the sum is a commutative group's
pub row_assoc : (n : ℕ) (a b c : Row n) → plus n (plus n a b) c ≡ plus n a (plus n b c)
row_assoc zero a b c = refl
row_assoc (suc n) a b c = λ i. (+ℤ_assoc a.0 b.0 c.0 i, row_assoc n a.1 b.1 c.1 i)

pub row_comm : (n : ℕ) (a b : Row n) → plus n a b ≡ plus n b a
row_comm zero a b = refl
row_comm (suc n) a b = λ i. (+ℤ_comm a.0 b.0 i, row_comm n a.1 b.1 i)

pub row_unit : (n : ℕ) (a : Row n) → plus n a (zeros n) ≡ a
row_unit zero a = refl
row_unit (suc n) a = λ i. (+ℤ_idr a.0 i, row_unit n a.1 i)

pub row_cancel : (n : ℕ) (a : Row n) → plus n a (negated n a) ≡ zeros n
row_cancel zero a = refl
row_cancel (suc n) a = λ i. (+ℤ_invr a.0 i, row_cancel n a.1 i)

-- ---- the size of a row: the farthest of its places from zero
abbrev pub far : (n : ℕ) → Row n → ℕ
far zero a = 0
far (suc n) a = max (nat_abs a.0) (far n a.1)

abs_difference : (a b : ℕ) → nat_abs (sub_ℕ a b) ≤ a + b
abs_difference a b =
    by_cond (λ z. nat_abs z ≤ a + b) (ltb a b) (negsuc (b - suc a)) (pos (a - b)) (λ h. omega (arith, ltb→lt a b h)) (λ _. omega arith)

abs_plus : (a b : ℤ) → nat_abs (a +ℤ b) ≤ nat_abs a + nat_abs b
abs_plus (pos a) (pos b) = omega arith
abs_plus (pos a) (negsuc b) = abs_difference a (suc b)
abs_plus (negsuc a) (pos b) = omega (arith, abs_difference b (suc a))
abs_plus (negsuc a) (negsuc b) = omega arith

abs_opposite : (a : ℤ) → nat_abs (neg_ℤ a) ≤ nat_abs a
abs_opposite (pos zero) = omega arith
abs_opposite (pos (suc n)) = omega arith
abs_opposite (negsuc n) = omega arith

pub far_sums : (n : ℕ) (a b : Row n) → far n (plus n a b) ≤ far n a + far n b
far_sums zero a b = omega arith
far_sums (suc n) a b = omega (arith, abs_plus a.0 b.0, far_sums n a.1 b.1)

pub far_opposites : (n : ℕ) (a : Row n) → far n (negated n a) ≤ far n a
far_opposites zero a = omega arith
far_opposites (suc n) a = omega (arith, abs_opposite a.0, far_opposites n a.1)

within_abs : (k : ℕ) (z : ℤ) → Within k z → nat_abs z ≤ k
within_abs k (pos a) h = omega (arith, ints)
within_abs k (negsuc a) h = omega (arith, ints)

abs_within : (k : ℕ) (z : ℤ) → nat_abs z ≤ k → Within k z
abs_within k (pos a) h = (omega (arith, ints), omega (arith, ints))
abs_within k (negsuc a) h = (omega (arith, ints), omega (arith, ints))

pub bounded_far : (n k : ℕ) (a : Row n) → Bounded n k a → far n a ≤ k
bounded_far zero k a h = omega arith
bounded_far (suc n) k a h = omega (arith, within_abs k a.0 h.0, bounded_far n k a.1 h.1)

pub far_bounded : (n k : ℕ) (a : Row n) → far n a ≤ k → Bounded n k a
far_bounded zero k a h = tt
far_bounded (suc n) k a h = (abs_within k a.0 (omega arith), far_bounded n k a.1 (omega arith))

-- ---- the order
pub holds : {t : Bool} → t ≡ true → T t
holds e = subst T (sym e) tt

pub is_true : (t : Bool) → T t → t ≡ true
is_true true h = refl
is_true false h = absurd h

abbrev pub laws_of : (n : ℕ) (not_later : Row n → Row n → Bool) → Order n not_later → Laws (rows n not_later)
laws_of n not_later order = record {
  assoc = row_assoc n;
  comm = row_comm n;
  unit = row_unit n;
  cancel = row_cancel n;
  size = far n;
  sums = far_sums n;
  opposites = far_opposites n;
  either = λ a b fa fb. go a b (order.total a b (near a fa) (near b fb));
  same = λ a b fa fb h k. order.antisym a b (near a fa) (near b fb) (is_true (not_later a b) h) (is_true (not_later b a) k);
  chain = λ a b c fa fb fc h k. holds (order.trans a b c (near a fa) (near b fb) (near c fc) (is_true (not_later a b) h) (is_true (not_later b c) k));
  shift = λ a b c fa fb fc fac fbc. order.shift a b c (near a fa) (near b fb) (near c fc) (near (plus n a c) fac) (near (plus n b c) fbc);
}
  where
    near : (a : Row n) → far n a ≤ 1_000_000_000 → InRange n a
    near a h = far_bounded n 1_000_000_000 a h

    go : (a b : Row n) → (not_later a b ≡ true) ⊎ (not_later b a ≡ true) → T (not_later a b) ⊎ T (not_later b a)
    go a b (inl e) = inl (holds e)
    go a b (inr e) = inr (holds e)

-- a sound block under such an order
abbrev pub given : (w : ℕ) (not_later : Row w → Row w → Bool) → Order w not_later → (b : RowBlock (Row w)) (n : ℕ) → Sound (Bounded w 1000000) b n → Given (rows w not_later) b n
given w not_later order b n sound = record {
  laws = laws_of w not_later order;
  few = sound.few;
  rising = sound.rising;
  below = sound.below;
  numbered = sound.numbered;
  by_number = sound.by_number;
  arcs = λ e l. bounded_far w 1_000_000 e.row (sound.arcs e l);
  starts = λ v x e. bounded_far w 1_000_000 x (sound.starts v x e);
  ends = λ v x e. bounded_far w 1_000_000 x (sound.ends v x e);
}
