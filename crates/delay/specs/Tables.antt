-- What a table means, by the ticks that each row shows: nothing where the row has no mark.
use Rattle.std.specs.Prelude.{ℕ, cond, List, ℤ, Some, None, Option, nat_le, slice_index_or}
use Rattle.delay.specs.declared.fault.Cause.TheVariants.{Missing, OutOfRange}
use Rattle.delay.specs.Entries.{Entry, faulty, ranged}

-- the ticks shown for an arc: nothing where there is no row, and nothing from 1,024 on
abbrev pub shown_at : List (Option ℤ) → ℕ → Option ℤ
shown_at shown arc = cond (nat_le arc 1023) (slice_index_or shown arc None) None

-- the entry of an arc whose row shows these ticks
abbrev pub row_entry : ℕ → Option ℤ → Entry
row_entry arc (Some ticks) = ranged OutOfRange arc 0 ticks
row_entry arc None = faulty Missing arc 0

abbrev pub tabled : List (Option ℤ) → ℕ → Entry
tabled shown arc = row_entry arc (shown_at shown arc)
