use Rattle.std.proofs.Common.{◌≡◌, sym, ◌∙◌, rules, arith}
use Rattle.sheet.specs.Trails.{over, link_at}
use Rattle.sheet.proofs.Trailing.{link_nears, count_more}
use Rattle.sheet.proofs.trail.count.Goals as goal

pub loop-link-preserved : goal.loop-link-preserved
loop-link-preserved c =
    let ls = c.args.lines.now in
    let link = c.in-Some.link in
    let on : over link.arc link.line ≡ link_at c.args.way ls c.loop-link.i = search rules in
    (omega (arith, link_nears c.args.way ls c.loop-link.i link.arc link.line on, c.loop-link.invariant.0), sym (count_more c.args.way ls c.loop-link.i link.arc link.line c.loop-link.n on) ∙ c.loop-link.invariant.1)
