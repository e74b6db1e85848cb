use Rattle.std.proofs.Common.{◌≡◌, ◌^◌, ◌<◌, drop}
use Rattle.reader.specs.Numbers.{digits_after}
use Rattle.reader.proofs.numbers.value.Given as goal

abbrev pub invariant-loop-b : goal.invariant-loop-b
invariant-loop-b l = (digits_after l.n (drop l.b-index l.s) ≡ digits_after 0 l.s) × (l.n < 10 ^ l.b-index)
