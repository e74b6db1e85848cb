use Rattle.std.proofs.Common.{◌≡◌, ◌<◌, length, ◌∙◌, rules, arith}
use Rattle.sheet.specs.Trails.{over, link_at}
use Rattle.sheet.proofs.Trailing.{wrote_more, fewer_to_write}
use Rattle.sheet.proofs.trail.write.Goals as goal

pub loop-place-preserved : goal.loop-place-preserved
loop-place-preserved c =
    let ls = c.args.lines.now in
    let link = c.in-Ok-Some.link in
    let l = c.loop-place in
    let on : over link.arc link.line ≡ link_at c.args.way ls l.i = search rules in
    let below : l.place-index < length l.list = omega arith in
    (wrote_more c.args.way ls l.i link.arc link.line l.place-index l.list on below ∙ l.invariant.0, fewer_to_write c.args.way ls l.i link.arc link.line l.place-index l.list on below l.invariant.1)
