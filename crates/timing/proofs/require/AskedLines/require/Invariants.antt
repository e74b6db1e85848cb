use Rattle.std.proofs.Common.{◌≡◌, ◌++◌, take, option_to_list}
use Rattle.std.specs.List.{flat_map}
use Rattle.paths.specs.Sheets.{first_least}
use Rattle.timing.specs.Measured.{measured}
use Rattle.timing.specs.TimedBlock.{asks}
use Rattle.timing.specs.Requiring.{told, marks}
use Rattle.timing.proofs.require.AskedLines.require.Given as goal

abbrev pub invariant-loop-number : goal.invariant-loop-number
invariant-loop-number g l =
    let m = g.M.Measure in
    let ms = measured m in
    let asked = asks m l.block l.self.firsts.now (marks m.row l.self.lines.now l.self.required.now) l.tag in
    told m.row l.best ≡ first_least ms (option_to_list (told m.row l.initial.best) ++ flat_map (λ k. option_to_list (asked k)) (take l.number-index l.numbers))
