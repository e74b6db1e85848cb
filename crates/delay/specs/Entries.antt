-- What a delay source means: for each arc number a tick count or a fault.
use Rattle.std.specs.Prelude.{◌≡◌, ℕ, ◌+◌, ◌<◌, min, Bool, cond, ◌&&◌, ℤ, pos, neg_ℤ, ◌≤ℤ◌, IfOk, Ok, Err, Result, int_le}
use Rattle.delay.specs.declared.fault.Cause.{Cause}
use Rattle.delay.specs.declared.fault.Cause.TheVariants.{Missing}
use Rattle.delay.specs.declared.fault.Fault.{Fault}

abbrev pub Entry : Type 0
Entry = Result ℤ Fault

abbrev pub faulty : Cause → ℕ → ℕ → Entry
faulty cause arc level = Err (record { cause = cause; arc = arc; level = level })

-- z lies within k of zero
abbrev pub Within : ℕ → ℤ → Type 0
Within k z = (neg_ℤ (pos k) ≤ℤ z) × (z ≤ℤ pos k)

-- z is a tick count
abbrev pub TickCount : ℤ → Type 0
TickCount z = Within 1000000 z

-- the test of that
abbrev pub is_tick_count : ℤ → Bool
is_tick_count z = int_le (neg_ℤ (pos 1000000)) z && int_le z (pos 1000000)

-- z where it is a tick count, else a fault
abbrev pub ranged : Cause → ℕ → ℕ → ℤ → Entry
ranged cause arc level z = cond (is_tick_count z) (Ok z) (faulty cause arc level)

-- what each source shows of its meaning: the counts that it answers are tick counts, and from arc 1,024 on there is none
pub record Sound (means : ℕ → Entry) : Type 0 where
  pub within : (arc : ℕ) → IfOk (means arc) TickCount
  pub above : (arc : ℕ) → 1023 < arc → means arc ≡ faulty Missing arc 0

-- the level of a layer over a source of the level below
abbrev pub one_up : ℕ → ℕ
one_up below = min (below + 1) 255
