-- Rows, the values that times, delays and slacks are measured in: what is computed on them.
use Rattle.std.specs.Prelude.{ℕ, Bool, T}
use Rattle.measure.specs.Rows.{Row, zeros, plus, negated}

pub record Rows (R : Type 0) : Type 0 where
  pub origin : R
  pub plus : R → R → R
  pub opposite : R → R
  pub not_later : R → R → Bool

-- a ≤ b: the row a equals or precedes the row b
abbrev pub Before : {R : Type 0} → Rows R → R → R → Type 0
Before m a b = T (m.not_later a b)

abbrev pub minus : {R : Type 0} → Rows R → R → R → R
minus m a b = m.plus a (m.opposite b)

-- the rows of n whole numbers, place by place, under an order
abbrev pub rows : (n : ℕ) → (Row n → Row n → Bool) → Rows (Row n)
rows n not_later = record { origin = zeros n; plus = plus n; opposite = negated n; not_later = not_later }
