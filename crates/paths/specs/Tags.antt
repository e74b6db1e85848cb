-- A tag is a set of set numbers 0 to 15, written as the sum of 2^i over them.
use Rattle.std.specs.Prelude.{ℕ, zero, suc, ◌+◌, ◌*◌, ◌/◌, ◌%◌, Bool, cond, ◌==◌, bit_and}

-- how many sets there are
abbrev pub set_count : ℕ
set_count = 16

-- whether i is in the tag t
abbrev pub has : ℕ → ℕ → Bool
has t zero = t % 2 == 1
has t (suc i) = has (t / 2) i

-- the tag of the numbers i below n with f i
abbrev pub tag_of : ℕ → (ℕ → Bool) → ℕ
tag_of zero f = 0
tag_of (suc n) f = tag_of n (λ i. f (suc i)) * 2 + cond (f zero) 1 0

-- whether two tags share no number
abbrev pub apart : ℕ → ℕ → Bool
apart s t = bit_and s t == 0
