use Rattle.std.proofs.Common.{◌≡◌, ◌-◌, ◌++◌, length, take, Some}
use Rattle.measure.specs.Rows.{on_some}
use Rattle.sheet.specs.Trails.{walked}
use Rattle.sheet.proofs.trail.write.Given as goal

abbrev pub invariant-loop-place : goal.invariant-loop-place
invariant-loop-place l =
    (on_some (λ es. take l.place-index l.list ++ es) (walked l.way l.lines l.i) ≡ walked l.way l.lines l.initial.i)
    × (on_some length (walked l.way l.lines l.i) ≡ Some (length l.list - l.place-index))
