-- Rows of whole numbers, which the values of a measure mean, and what its functions answer.
use Rattle.std.specs.Prelude.{ℕ, zero, suc, Bool, true, cond, ◌&&◌, ◌||◌, ℤ, pos, ◌+ℤ◌, neg_ℤ, ◌≤ℤ◌, Some, None, Option, int_le, int_lt}

-- a row of n whole numbers: its first place, and the row of the others
abbrev pub Row : ℕ → Type 0
Row zero = Unit {0}
Row (suc n) = ℤ × Row n

-- z lies within k of zero
abbrev pub Within : ℕ → ℤ → Type 0
Within k z = (neg_ℤ (pos k) ≤ℤ z) × (z ≤ℤ pos k)

-- each place of the row lies within k of zero
abbrev pub Bounded : (n k : ℕ) → Row n → Type 0
Bounded zero k r = Unit {0}
Bounded (suc n) k r = Within k r.0 × Bounded n k r.1

-- the row of zeros
abbrev pub zeros : (n : ℕ) → Row n
zeros zero = tt
zeros (suc n) = (pos 0, zeros n)

-- the sum, place by place
abbrev pub plus : (n : ℕ) → Row n → Row n → Row n
plus zero a b = tt
plus (suc n) a b = (a.0 +ℤ b.0, plus n a.1 b.1)

-- each sign changed
abbrev pub negated : (n : ℕ) → Row n → Row n
negated zero a = tt
negated (suc n) a = (neg_ℤ a.0, negated n a.1)

-- place i, counted from 0, and nothing from n on
abbrev pub placed : (n : ℕ) → Row n → ℕ → Option ℤ
placed zero r i = None
placed (suc n) r zero = Some r.0
placed (suc n) r (suc i) = placed n r.1 i

-- x before y, or equal to it and the rest in order
abbrev pub first : ℤ → ℤ → Bool → Bool
first x y rest = int_lt x y || (int_le x y && rest)

-- a equals or precedes b, each place counting before those behind it
abbrev pub lex_le : (n : ℕ) → Row n → Row n → Bool
lex_le zero a b = true
lex_le (suc n) a b = first a.0 b.0 (lex_le n a.1 b.1)

-- the tests of Within and Bounded
abbrev pub within : ℕ → ℤ → Bool
within k z = int_le (neg_ℤ (pos k)) z && int_le z (pos k)

abbrev pub bounded : (n k : ℕ) → Row n → Bool
bounded zero k r = true
bounded (suc n) k r = within k r.0 && bounded n k r.1

-- what an answer means, by what its value means
abbrev pub on_some : {A B : Type 0} → (A → B) → Option A → Option B
on_some f (Some x) = Some (f x)
on_some f None = None

-- the sum, or nothing where a place of it is out of range
abbrev pub summed : (n : ℕ) → Row n → Row n → Option (Row n)
summed n a b = cond (bounded n 1000000000 (plus n a b)) (Some (plus n a b)) None

-- the row of a tick count, or nothing where that is out of range
abbrev pub entered : {R : Type 0} → (ℤ → R) → ℤ → Option R
entered f t = cond (within 1000000 t) (Some (f t)) None
