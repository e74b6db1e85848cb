use Rattle.std.proofs.Common.{◌≡◌, ◌+ℤ◌, arith, w32, to_z, of_z}
use Rattle.std.proofs.lemmas.Int.{ints}
use Rattle.measure.proofs.Bounds.{summed_some, summed_none}
use Rattle.measure.proofs.staged.StagedTicksMeasure.sum.Goals as goal

pub returns-in_err-stages : goal.returns-in_err-stages
returns-in_err-stages c =
    let a = c.args.self in
    let b = c.args.other in
    rw c.from_residual-in_err-stages.ensures
    (summed_none 2 (a.ticks, (a.stages, tt)) (b.ticks, (b.stages, tt)) (λ h. c.in_err-stages.ensures (omega (arith, ints))))

pub returns : goal.returns
returns c =
    let a = c.args.self in
    let b = c.args.other in
    let h = c.in_ok-ticks.ensures in
    let k = c.in_ok-stages.ensures in
    let p : to_z w32 (of_z w32 c.in_ok-ticks.ticks) ≡ a.ticks +ℤ b.ticks = omega (arith, ints) in
    let q : to_z w32 (of_z w32 c.in_ok-stages.stages) ≡ a.stages +ℤ b.stages = omega (arith, ints) in
    summed_some 2 (a.ticks, (a.stages, tt)) (b.ticks, (b.stages, tt)) _ (λ i. (p i, (q i, tt))) (omega (arith, ints), (omega (arith, ints), tt))
