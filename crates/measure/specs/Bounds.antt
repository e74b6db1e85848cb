-- The bounds of a row with each sign changed, as the early measure shows them of itself.
use Rattle.std.specs.Prelude.{ℕ, zero, suc}
use Rattle.std.proofs.Common.{arith}
use Rattle.std.proofs.lemmas.Int.{ints}
use Rattle.measure.specs.Rows.{Row, Bounded, negated}

pub bounded_negated : (n k : ℕ) (r : Row n) → Bounded n k r → Bounded n k (negated n r)
bounded_negated zero k r b = tt
bounded_negated (suc n) k r b = (omega (arith, ints), bounded_negated n k r.1 b.1)
