-- What a memo over a source means, and what it keeps.
use Rattle.std.specs.Prelude.{ℕ, ◌%◌, Bool, true, false, cond, ◌&&◌, List, replicate, ℤ, Some, None, Ok, Err, Option, ◌==◌, nat_le, slice_index_or, slice_set}
use Rattle.delay.specs.declared.kept.Kept.{Kept}
use Rattle.delay.specs.Entries.{Entry, is_tick_count}

-- one place of the memo, over the meaning below: the kept count for its own arc
abbrev pub recalled : Option Kept → (ℕ → Entry) → ℕ → Entry
recalled None means arc = means arc
recalled (Some k) means arc = cond (k.arc == arc) (Ok k.ticks) (means arc)

abbrev pub memo_means : List (Option Kept) → (ℕ → Entry) → ℕ → Entry
memo_means kept means arc = recalled (slice_index_or kept (arc % 32) None) means arc

-- whether a place keeps the arc's count
abbrev pub is_of : ℕ → Option Kept → Bool
is_of arc None = false
is_of arc (Some k) = k.arc == arc

abbrev pub keeps : List (Option Kept) → ℕ → Bool
keeps kept arc = is_of arc (slice_index_or kept (arc % 32) None)

-- a count of an arc put into its place
abbrev pub with_count : List (Option Kept) → ℕ → ℤ → List (Option Kept)
with_count kept arc t = slice_set kept (arc % 32) (Some (record { arc = arc; ticks = t }))

-- what is kept once an arc was asked: an empty place takes a tick count, and no fault
abbrev pub keep_at : List (Option Kept) → ℕ → Option Kept → Entry → List (Option Kept)
keep_at kept arc None (Ok t) = with_count kept arc t
keep_at kept arc None (Err f) = kept
keep_at kept arc (Some k) e = kept

abbrev pub kept_after : List (Option Kept) → ℕ → Entry → List (Option Kept)
kept_after kept arc e = keep_at kept arc (slice_index_or kept (arc % 32) None) e

-- what a new memo keeps: nothing at each place
abbrev pub no_counts : List (Option Kept)
no_counts = replicate 32 None

-- what a place may keep: a tick count of an arc number
abbrev pub keepable : Option Kept → Bool
keepable None = true
keepable (Some k) = nat_le k.arc 1023 && is_tick_count k.ticks
