use Rattle.std.proofs.Common.{◌≡◌, true, false, cond, length, Err, Ok, nat_lt, refl}
use Rattle.std.specs.Result.{result_map_both}
use Rattle.sheet.specs.Written.{written}
use Rattle.timing.specs.declared.refusals.TimeRefusal.TheVariants.{TooFewLines}
use Rattle.timing.specs.Times.{untimed}
use Rattle.timing.proofs.timer.sheets_are_counted.Goals as goal

pub returns : goal.returns
returns g c m t ts =
    elim (nat_lt (length t.lines) (length ts))
    as (λ few. result_map_both (λ n. n) (λ x. x.number) (cond few (untimed m t TooFewLines) (record { answer = Ok (length ts); tables = written m (length t.lines) ts })).answer ≡ cond few (Err 15) (Ok (length ts))) [
      | true ↦ refl
      | false ↦ refl
    ]
