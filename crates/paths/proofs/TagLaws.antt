-- What the tags' operations say of each set number.
use Rattle.std.proofs.Common.{◌≡◌, ℕ, zero, suc, ◌+◌, ◌*◌, ◌/◌, ◌%◌, ◌^◌, ◌<◌, min, max, Bool, true, false, cond, not, ◌&&◌, ◌||◌, T, eqb, ◌⊎◌, sym, refl, ap, ◌∙◌, subst, inl, inr, pow-suc, div-one, arith, eqb→eq, T_not}
use native.Mathlib.Nat.{pow-succ', div-div-eq-div-mul}
use lib.Bits.{bit_and, bit_or, and_step, or_step, and_le_r}
use Rattle.graph.specs.Sets.{holds}
use Rattle.paths.specs.Tags.{set_count, has, tag_of, apart}

one_and : (x y : ℕ) → x < 2 → y < 2 → eqb (min x y) 1 ≡ (eqb x 1 && eqb y 1)
one_and zero zero h k = refl
one_and zero (suc zero) h k = refl
one_and (suc zero) zero h k = refl
one_and (suc zero) (suc zero) h k = refl
one_and zero (suc (suc y)) h k = absurd (omega arith)
one_and (suc zero) (suc (suc y)) h k = absurd (omega arith)
one_and (suc (suc x)) y h k = absurd (omega arith)

one_or : (x y : ℕ) → x < 2 → y < 2 → eqb (max x y) 1 ≡ (eqb x 1 || eqb y 1)
one_or zero zero h k = refl
one_or zero (suc zero) h k = refl
one_or (suc zero) zero h k = refl
one_or (suc zero) (suc zero) h k = refl
one_or zero (suc (suc y)) h k = absurd (omega arith)
one_or (suc zero) (suc (suc y)) h k = absurd (omega arith)
one_or (suc (suc x)) y h k = absurd (omega arith)

pub has_and : (i a b : ℕ) → has (bit_and a b) i ≡ (has a i && has b i)
has_and zero a b =
    let e : bit_and a b % 2 ≡ min (a % 2) (b % 2) = omega (arith, and_step a b) in
    ap (λ n. eqb n 1) e ∙ one_and (a % 2) (b % 2) (omega arith) (omega arith)
has_and (suc i) a b =
    let e : bit_and a b / 2 ≡ bit_and (a / 2) (b / 2) = omega (arith, and_step a b) in
    ap (λ n. has n i) e ∙ has_and i (a / 2) (b / 2)

pub has_or : (i a b : ℕ) → has (bit_or a b) i ≡ (has a i || has b i)
has_or zero a b =
    let e : bit_or a b % 2 ≡ max (a % 2) (b % 2) = omega (arith, or_step a b) in
    ap (λ n. eqb n 1) e ∙ one_or (a % 2) (b % 2) (omega arith) (omega arith)
has_or (suc i) a b =
    let e : bit_or a b / 2 ≡ bit_or (a / 2) (b / 2) = omega (arith, or_step a b) in
    ap (λ n. has n i) e ∙ has_or i (a / 2) (b / 2)

pub has_zero : (i : ℕ) → has 0 i ≡ false
has_zero zero = refl
has_zero (suc i) = has_zero i

low : (x : ℕ) (c : Bool) → eqb ((x * 2 + cond c 1 0) % 2) 1 ≡ c
low x true = ap (λ n. eqb n 1) (let e : (x * 2 + 1) % 2 ≡ 1 = omega arith in e)
low x false = ap (λ n. eqb n 1) (let e : (x * 2 + 0) % 2 ≡ 0 = omega arith in e)

high : (x : ℕ) (c : Bool) → (x * 2 + cond c 1 0) / 2 ≡ x
high x true = omega arith
high x false = omega arith

pub has_tag_of : (n : ℕ) (f : ℕ → Bool) (i : ℕ) → i < n → has (tag_of n f) i ≡ f i
has_tag_of zero f i h = absurd (omega arith)
has_tag_of (suc n) f zero h = low (tag_of n (λ i. f (suc i))) (f zero)
has_tag_of (suc n) f (suc i) h =
    ap (λ x. has x i) (high (tag_of n (λ i. f (suc i))) (f zero)) ∙ has_tag_of n (λ i. f (suc i)) i (omega arith)

bit_below : (c : Bool) → cond c 1 0 < 2
bit_below true = omega arith
bit_below false = omega arith

pub tag_of_below : (n : ℕ) (f : ℕ → Bool) → tag_of n f < 2 ^ n
tag_of_below zero f = omega arith
tag_of_below (suc n) f =
    omega (arith, pow-suc 2 n, tag_of_below n (λ i. f (suc i)), bit_below (f zero))

-- tags that share no number
pub apart_none : (s t : ℕ) → T (apart s t) → (i : ℕ) → T (has s i) → T (has t i) → ⊥
apart_none s t h i p q =
    let e : has (bit_and s t) i ≡ false = ap (λ n. has n i) (eqb→eq (bit_and s t) 0 h) ∙ has_zero i in
    clash (has s i) (has t i) p q (sym (has_and i s t) ∙ e)
  where
    clash : (x y : Bool) → T x → T y → (x && y) ≡ false → ⊥
    clash true true p q e = subst T e tt
    clash true false p q e = q
    clash false y p q e = p

-- a number that is not 0 has some bit
odd_or_even : (n : ℕ) → (n % 2 ≡ 1) ⊎ (n % 2 ≡ 0)
odd_or_even n = go (n % 2) (omega arith)
  where
    go : (r : ℕ) → r < 2 → (r ≡ 1) ⊎ (r ≡ 0)
    go zero h = inr refl
    go (suc zero) h = inl refl
    go (suc (suc r)) h = absurd (omega arith)

pub some_bit : (k n : ℕ) → n < 2 ^ k → (n ≡ 0 → ⊥) → (i : ℕ) × (i < k) × T (has n i)
some_bit zero n h ne = absurd (ne (omega arith))
some_bit (suc k) n h ne = pick (odd_or_even n) (λ e. some_bit k (n / 2) (omega (arith, pow-suc 2 k)) (λ z. ne (omega arith)))
  where
    up : (i : ℕ) × (i < k) × T (has (n / 2) i) → (i : ℕ) × (i < suc k) × T (has n i)
    up w = (suc w.0, omega (arith, w.1), w.2)

    pick : (n % 2 ≡ 1) ⊎ (n % 2 ≡ 0) → (n % 2 ≡ 0 → (i : ℕ) × (i < k) × T (has (n / 2) i)) → (i : ℕ) × (i < suc k) × T (has n i)
    pick (inl e) below = (zero, omega arith, subst (λ r. T (eqb r 1)) (sym e) tt)
    pick (inr e) below = up (below e)

pub both : (x y : Bool) → T (x && y) → T x × T y
both true true h = (tt, tt)
both true false h = absurd h
both false y h = absurd h

-- tags that share some number
pub shared : (s t : ℕ) → t < 2 ^ set_count → T (not (apart s t)) → (i : ℕ) × (i < set_count) × (T (has s i) × T (has t i))
shared s t h n =
    let found = some_bit set_count (bit_and s t) (omega (arith, and_le_r s t)) (λ e. T_not (apart s t) n (subst (λ x. T (eqb x 0)) (sym e) tt)) in
    (found.0, found.1, both (has s found.0) (has t found.0) (subst T (has_and found.0 s t) found.2))

-- the graph's word for the same
pub has_holds : (t s : ℕ) → has t s ≡ holds t s
has_holds t zero = ap (λ x. eqb (x % 2) 1) (sym (div-one t))
has_holds t (suc s) = has_holds (t / 2) s ∙ ap (λ x. eqb (x % 2) 1) (div-div-eq-div-mul t 2 (2 ^ s) ∙ ap (λ x. t / x) (sym (pow-succ' 2 s)))
