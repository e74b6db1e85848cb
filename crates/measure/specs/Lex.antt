-- The laws of the order by the first place that differs, for rows of any width. They hold of all rows.
use Rattle.std.specs.Prelude.{◌≡◌, ℕ, zero, suc, Bool, true, false, ◌⊎◌, ℤ, ◌+ℤ◌, ◌<ℤ◌, int_le, int_lt, refl}
use Rattle.std.proofs.Common.{inl, inr, sym, ◌∙◌, arith}
use Rattle.std.proofs.lemmas.Int.{ints}
use Rattle.std.proofs.lemmas.Bool.{both_ways}
use Rattle.measure.specs.Rows.{Row, plus, first, lex_le}
use Rattle.measure.specs.Laws.{Order}

-- x against y: before it, level with it, or after it
by_order : {P : Type 0} (x y : ℤ) → (x <ℤ y → P) → (x ≡ y → P) → (y <ℤ x → P) → P
by_order {P} x y f g h = at (int_lt x y) (int_lt y x) refl refl
  where
    at : (s t : Bool) → int_lt x y ≡ s → int_lt y x ≡ t → P
    at true t e d = f (omega (arith, ints))
    at false true e d = h (omega (arith, ints))
    at false false e d = g (omega (arith, ints))

before : (x y : ℤ) (r : Bool) → x <ℤ y → first x y r ≡ true
before x y r h = let e : int_lt x y ≡ true = grind (arith, ints) in rw e

level : (x y : ℤ) (r : Bool) → x ≡ y → first x y r ≡ r
level x y r h =
    let e : int_lt x y ≡ false = grind (arith, ints) in
    let d : int_le x y ≡ true = grind (arith, ints) in
    rw (e, d)

after : (x y : ℤ) (r : Bool) → y <ℤ x → first x y r ≡ false
after x y r h =
    let e : int_lt x y ≡ false = grind (arith, ints) in
    let d : int_le x y ≡ false = grind (arith, ints) in
    rw (e, d)

lex_total : (n : ℕ) (a b : Row n) → (lex_le n a b ≡ true) ⊎ (lex_le n b a ≡ true)
lex_total zero a b = inl refl
lex_total (suc n) a b =
    by_order a.0 b.0 (λ h. inl (before a.0 b.0 _ h))
    (λ h. elim (lex_total n a.1 b.1) [ inl p ↦ inl (level a.0 b.0 _ h ∙ p) | inr p ↦ inr (level b.0 a.0 _ (sym h) ∙ p) ])
    (λ h. inr (before b.0 a.0 _ h))

lex_antisym : (n : ℕ) (a b : Row n) → lex_le n a b ≡ true → lex_le n b a ≡ true → a ≡ b
lex_antisym zero a b p q = refl
lex_antisym (suc n) a b p q =
    by_order a.0 b.0 (λ h. absurd (both_ways _ (after b.0 a.0 _ h) q))
    (λ h.
    let t : a.1 ≡ b.1 = lex_antisym n a.1 b.1 (sym (level a.0 b.0 _ h) ∙ p) (sym (level b.0 a.0 _ (sym h)) ∙ q) in
    λ i. (h i, t i))
    (λ h. absurd (both_ways _ (after a.0 b.0 _ h) p))

lex_trans : (n : ℕ) (a b c : Row n) → lex_le n a b ≡ true → lex_le n b c ≡ true → lex_le n a c ≡ true
lex_trans zero a b c p q = refl
lex_trans (suc n) a b c p q =
    let x = a.0 in
    let y = b.0 in
    let z = c.0 in
    by_order x y
    (λ h. by_order y z (λ k. before x z _ (omega (arith, ints))) (λ k. before x z _ (omega (arith, ints))) (λ k. absurd (both_ways _ (after y z _ k) q)))
    (λ h.
    by_order y z (λ k. before x z _ (omega (arith, ints)))
    (λ k. level x z _ (omega (arith, ints)) ∙ lex_trans n a.1 b.1 c.1 (sym (level x y _ h) ∙ p) (sym (level y z _ k) ∙ q))
    (λ k. absurd (both_ways _ (after y z _ k) q)))
    (λ h. absurd (both_ways _ (after x y _ h) p))

lex_shift : (n : ℕ) (a b c : Row n) → lex_le n (plus n a c) (plus n b c) ≡ lex_le n a b
lex_shift zero a b c = refl
lex_shift (suc n) a b c =
    let x = a.0 in
    let y = b.0 in
    let z = c.0 in
    by_order x y (λ h. before (x +ℤ z) (y +ℤ z) _ (omega (arith, ints)) ∙ sym (before x y _ h))
    (λ h. level (x +ℤ z) (y +ℤ z) _ (omega (arith, ints)) ∙ lex_shift n a.1 b.1 c.1 ∙ sym (level x y _ h))
    (λ h. after (x +ℤ z) (y +ℤ z) _ (omega (arith, ints)) ∙ sym (after x y _ h))

pub lex_order : (n : ℕ) → Order n (lex_le n)
lex_order n = record {
  total = λ a b _ _. lex_total n a b;
  antisym = λ a b _ _. lex_antisym n a b;
  trans = λ a b c _ _ _. lex_trans n a b c;
  shift = λ a b c _ _ _ _ _. lex_shift n a b c;
}
