use Rattle.std.proofs.Common.{ℕ, ◌+◌, List, length, replicate, take, sym, ap, ◌∙◌, subst, arith, rules}
use Rattle.std.proofs.lemmas.List.{get_or-replicate}
use Rattle.graph.specs.Block.{block_of}
use Rattle.paths.proofs.TagLaws.{has_zero}
use Rattle.timing.specs.Masks.{Gathered, with_sets}
use Rattle.timing.proofs.Masking.{gathered_none, gathered_more, gathered_all, length-with_sets}
use Rattle.timing.proofs.masks.sets_at.Goals as goal

pub loop-number-init : goal.loop-number-init
loop-number-init c =
    record {
      sized = search rules;
      gathered = gathered_none c.args.end (block_of c.args.graph.now).arcs (replicate 256 0) (λ v l. get_or-replicate 256 v 0 0 l) has_zero;
    }

pub loop-number-preserved : goal.loop-number-preserved
loop-number-preserved c =
    let arcs = (block_of c.args.graph.now).arcs in
    let l = c.loop-number in
    let masks = c.add_sets.ensures ∙ ap (λ o. with_sets c.args.end o l.masks) c.arc.ensures in
    record {
      sized = ap length masks ∙ length-with_sets c.args.end _ l.masks ∙ l.invariant.sized;
      gathered = subst (λ (xs : List ℕ). Gathered c.args.end (take (l.number + 1) arcs) xs) (sym masks) (gathered_more c.args.end arcs l.masks l.number l.invariant.sized l.invariant.gathered);
    }

pub returns : goal.returns
returns c =
    gathered_all c.args.end (block_of c.args.graph.now).arcs c.loop-number.masks c.loop-number.number (λ k e l. omega (arith, c.args.graph.now.numbered k e l, c.taken-number-end.ensures)) c.loop-number.invariant.gathered
