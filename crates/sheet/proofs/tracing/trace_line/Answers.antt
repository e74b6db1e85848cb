use Rattle.std.proofs.Common.{◌≡◌, ◌+◌, ◌≤◌, length, ◌++◌, drop, ap, ◌∙◌, ap₂, rules, arith}
use Rattle.sheet.specs.declared.link.Way.TheVariants.{Back, Fore}
use Rattle.sheet.specs.Trails.{walked}
use Rattle.sheet.proofs.Writing.{walks_joined}
use Rattle.sheet.proofs.tracing.trace_line.Goals as goal

pub returns-clause-list : goal.returns-clause-list
returns-clause-list c =
    let bs = c.write.new.list in
    let fs = c.write-2.new.list in
    let before : c.in_ok-before.before ≡ length bs = search rules in
    let after : c.in_ok-after.after ≡ length fs = search rules in
    let rest : c.split_at_mut-behind.result.1.now ≡ drop (length bs) c.args.list.now = c.split_at_mut-behind.ensures.back ∙ ap (λ n. drop n c.args.list.now) before in
    let room : length bs + length fs ≤ length c.args.list.now = omega arith in
    ap₂ (λ xs ys. xs ++ (fs ++ ys)) c.reverse.ensures.after (ap₂ drop after rest)
    ∙ walks_joined c.args.list.now c.requires (walked Back c.args.lines.now c.args.i) (walked Fore c.args.lines.now c.args.i) bs fs c.write.ensures c.write-2.ensures room
