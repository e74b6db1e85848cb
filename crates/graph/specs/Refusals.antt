-- The number of each refusal.
use Rattle.std.specs.Prelude.{◌≡◌, ℕ, Bool, true, false, MatchResult, Result}
use Rattle.reader.specs.Loading.{numbered as by_number}
use Rattle.graph.specs.declared.parts.Refusal.{Refusal}
use Rattle.graph.specs.declared.parts.Refusal.TheVariants.{OutOfRange, NotRising, Full, NotLive, InSet, NoPath}

-- 6 a number out of range, 7 a new arc's from not below its to, 8 all 1,024 arc numbers taken,
-- 9 the arc not live, 10 the arc to be dropped in a set, 11 no arc between the nodes of a pair
abbrev pub refusal_number : Refusal → ℕ
refusal_number OutOfRange = 6
refusal_number NotRising = 7
refusal_number Full = 8
refusal_number NotLive = 9
refusal_number InSet = 10
refusal_number NoPath = 11

-- an answer with its refusal as a number
abbrev pub numbered : {A : Type 0} → Result A Refusal → Result A ℕ
numbered r = by_number refusal_number r

-- a call's number, read: what P says of it if the number passes its test, and else refusal 6
abbrev pub Passes : {A : Type 0} → Bool → Result A Refusal → (A → Type 0) → Type 0
Passes test r P = MatchResult r (λ a. (test ≡ true) × P a) (λ e. (test ≡ false) × (e ≡ OutOfRange))
