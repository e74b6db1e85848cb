-- What a margin over a source means.
use Rattle.std.specs.Prelude.{ℕ, suc, ◌+◌, ◌-◌, ◌/◌, min, max, ℤ, pos, negsuc, ◌-ℤ◌, ◌*ℤ◌, neg_ℤ, ◌≤ℤ◌, ◌<ℤ◌, Ok, Err}
use Rattle.delay.specs.declared.fault.Cause.TheVariants.{MarginOutOfRange}
use Rattle.delay.specs.Entries.{Entry, ranged, one_up}

-- r is the least whole number not below z ÷ n: n times r reaches z, and n times the whole number before r does not
pub record IsCeiling (z : ℤ) (n : ℕ) (r : ℤ) : Type 0 where
  pub above : z ≤ℤ (r *ℤ pos n)
  pub least : ((r -ℤ pos 1) *ℤ pos n) <ℤ z

-- that number
abbrev pub ceiling : ℤ → ℕ → ℤ
ceiling (pos a) n = pos ((a + (n - 1)) / n)
ceiling (negsuc a) n = neg_ℤ (pos (suc a / n))

-- the ticks times p ÷ 1,000, rounded up
abbrev pub raised : ℕ → ℤ → ℤ
raised p t = ceiling (t *ℤ pos p) 1000

-- a factor below 1,000 counts as 1,000, and one above 2,000 as 2,000
abbrev pub clamped : ℕ → ℕ
clamped p = max 1000 (min p 2000)

-- the raised ticks of an entry; a fault from below as it is
abbrev pub with_margin : ℕ → ℕ → ℕ → Entry → Entry
with_margin p level arc (Ok t) = ranged MarginOutOfRange arc level (raised p t)
with_margin p level arc (Err f) = Err f

-- a margin of p over a source of that level and meaning
abbrev pub margin_means : ℕ → ℕ → (ℕ → Entry) → ℕ → Entry
margin_means p below means arc = with_margin p (one_up below) arc (means arc)
